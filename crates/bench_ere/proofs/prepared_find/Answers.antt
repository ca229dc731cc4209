-- `prepared_find`: by both sizes, and what `find_from` answers.
use Rattle.std.proofs.Common.{ℕ, Option, sym, refl, ap, ◌∙◌, arith}
use Rattle.ere_search.specs.Find.{match_of}
use Rattle.bench_ere.specs.Answer.{length_of}
use Rattle.bench_ere.proofs.Answers.{length_found, found_inside}
use Rattle.bench_ere.proofs.prepared_find.Goals as goal

pub returns-then-table-ne-TABLE_WORDS : goal.returns-then-table-ne-TABLE_WORDS
returns-then-table-ne-TABLE_WORDS c = record { unsized = λ n. refl; long = λ h. refl; best = λ e s l h. absurd (c.if-table-ne-TABLE_WORDS.true l) }

pub returns-then-text-gt-TEXT : goal.returns-then-text-gt-TEXT
returns-then-text-gt-TEXT c = record { unsized = λ n. refl; long = λ h. refl; best = λ e s l h. absurd (omega (arith, c.if-text-gt-TEXT.true, h)) }

pub overflow_add-result : goal.overflow_add-result
overflow_add-result c =
    let a = c.args in
    omega (arith, found_inside a.table.now a.text.now c.find_from.result c.find_from.ensures _ _ c.in-Some.is, c.if-text-gt-TEXT.false)

pub returns-in-Some : goal.returns-in-Some
returns-in-Some c =
    let a = c.args in
    record {
      unsized = λ n. absurd (n c.if-table-ne-TABLE_WORDS.false);
      long = λ h. absurd (omega (arith, h, c.if-text-gt-TEXT.false));
      best = λ e s l h. ap (λ (x : Option (ℕ × ℕ)). length_of (match_of x)) (sym c.in-Some.is)
          ∙ length_found a.table.now a.text.now c.find_from.result c.find_from.ensures e s (λ i k. (c.shared_slice_known-2-1.given i).fits);
    }

pub returns-in-None : goal.returns-in-None
returns-in-None c =
    let a = c.args in
    record {
      unsized = λ n. absurd (n c.if-table-ne-TABLE_WORDS.false);
      long = λ h. absurd (omega (arith, h, c.if-text-gt-TEXT.false));
      best = λ e s l h. ap (λ (x : Option (ℕ × ℕ)). length_of (match_of x)) (sym c.in-None.is)
          ∙ length_found a.table.now a.text.now c.find_from.result c.find_from.ensures e s (λ i k. (c.shared_slice_known-2-1.given i).fits);
    }
