-- What the reader's answer says of the translation.
use mathlib.Core.Path.{◌≡◌, refl, sym, ap, subst, ◌∙◌}
use mathlib.Core.Bool.{true, false, ◌||◌}
use mathlib.Core.Logic.{⊎_elim}
use mathlib.Core.List.{List, [], ◌∷◌, ◌++◌}
use Prim.Native.Nat.{ℕ, suc, ◌+◌, ◌≤◌}
use native.Mathlib.Omega.{arith}
use lib.ListN.{length, take, drop}
use lib.Seq.{sets-eq, take_at}
use lib.Dec.{leb, ltb}
use borrow.Author.Tests.{lt-leb, ltb-true, ltb-false}
use Rattle.lists.proofs.Tests.{or_cases, or-false, and-false}
use Rattle.edition.specs.Limits.{instruction_count}
use Rattle.edition.specs.Outcomes.{size_passed}
use Rattle.image_format.specs.Image.{Image}
use Rattle.semantics.specs.Moves.{Section, begin, main, end}
use Rattle.program_tree.specs.Tree.{Program as Tree}
use Rattle.program_reader.specs.Read.{Read, ok, no}
use Rattle.program_reader.specs.Programs.{read_program}
use Rattle.program_code.specs.Emitted.{Emitted}
use Rattle.program_code.specs.Sections.{section_code}
use Rattle.program_parser.specs.Meaning.{Spell, Wrote}
use Rattle.program_parser.proofs.Spelling.{spell-length}
use Rattle.program_items.specs.declared.programs.Program.{Program}
use Rattle.program_items.specs.Programs.{each, ReadingProgram}
use Rattle.program_numbering.specs.Numbering.{Tables, tables_of, instructions, image_by, image_of}
use Rattle.program_numbering.specs.Sizes.{fits}
use Rattle.program_image.specs.Pictured.{Sectioned}
use Rattle.program_image.specs.Fitting.{lengths_fit}
use Rattle.program_image.proofs.Judged.{fits-apart}
use Rattle.translation.specs.Translation.{refused, sized, of_program}
use Rattle.translator.specs.ReadAs.{ReadAs}

instructions-length : (t : Tables) (l : List Emitted) → length (instructions t l) ≡ length l
unfolding instructions
instructions-length t [] = refl
instructions-length t (i ∷ l) = ap suc (instructions-length t l)

-- a section that is too long, among three
long-one : (b m d : ℕ) → (ltb instruction_count b || (ltb instruction_count m || ltb instruction_count d)) ≡ true
    → lengths_fit b m d ≡ false
long-one b m d h =
    ⊎_elim (λ f. let over = ltb-true instruction_count b f in rw (lt-leb b instruction_count over))
    (λ g. ⊎_elim
    (λ f. let over = ltb-true instruction_count m f in
    rw (lt-leb m instruction_count over) (and-false (leb b instruction_count)))
    (λ f. let over = ltb-true instruction_count d f in
    rw (lt-leb d instruction_count over, and-false (leb m instruction_count)) (and-false (leb b instruction_count)))
    (or_cases (ltb instruction_count m) (ltb instruction_count d) g))
    (or_cases (ltb instruction_count b) (ltb instruction_count m || ltb instruction_count d) h)

module _ (edition : ℕ) (s room : List ℕ) where
  -- ---- a refusal

  refused-by : (xs ys : Section → List ℕ) (r : Program) (q : Read Tree) → ReadingProgram edition s xs q r ys
      → (r.outcome ≡ 0 → ⊥) → refused room r.outcome r.token.start ≡ of_program room edition s q
  unfolding ReadingProgram of_program
  refused-by xs ys r (ok p t) h d = absurd (d h.outcome)
  refused-by xs ys r (no o a) h d = rw (h.answer, h.at)

  pub text-refused : (xs ys : Section → List ℕ) (r : Program)
      → ReadingProgram edition s xs (read_program edition s) r ys → (r.outcome ≡ 0 → ⊥)
      → refused room r.outcome r.token.start ≡ of_program room edition s (read_program edition s)
  text-refused xs ys r h d = refused-by xs ys r (read_program edition s) h d

  -- ---- a section that is too long

  code-over : (p : Tree) → lengths_fit (length (section_code begin p)) (length (section_code main p))
      (length (section_code end p)) ≡ false → fits (image_of edition p) ≡ false
  unfolding image_by
  code-over p h =
      let i : Image = image_of edition p in
      let t : Tables = tables_of edition p in
      fits-apart i
      ∙ rw (
        instructions-length t (section_code begin p),
        instructions-length t (section_code main p),
        instructions-length t (section_code end p),
        h,
      )

  long-by : (xs ys : Section → List ℕ) (r : Program) (q : Read Tree) → ReadingProgram edition s xs q r ys
      → r.outcome ≡ 0
      → (ltb instruction_count r.begin || (ltb instruction_count r.main || ltb instruction_count r.end)) ≡ true
      → refused room size_passed (length s) ≡ of_program room edition s q
  unfolding ReadingProgram of_program sized
  long-by xs ys r (no o a) h z l = absurd (h.some_outcome (sym h.answer ∙ z))
  long-by xs ys r (ok p t) h z l =
      let over : lengths_fit (length (section_code begin p)) (length (section_code main p)) (length (section_code end p))
      ≡ false =
      rw (← h.counts begin, ← h.counts main, ← h.counts end) (long-one r.begin r.main r.end l) in
      rw (code-over p over)

  pub text-long : (xs ys : Section → List ℕ) (r : Program) → ReadingProgram edition s xs (read_program edition s) r ys
      → r.outcome ≡ 0
      → (ltb instruction_count r.begin || (ltb instruction_count r.main || ltb instruction_count r.end)) ≡ true
      → refused room size_passed (length s) ≡ of_program room edition s (read_program edition s)
  text-long xs ys r h z l = long-by xs ys r (read_program edition s) h z l

-- ---- a program whose sections fit

pub lengths-within : (b m d : ℕ)
    → (ltb instruction_count b || (ltb instruction_count m || ltb instruction_count d)) ≡ false
    → (b ≤ instruction_count) × (m ≤ instruction_count) × (d ≤ instruction_count)
lengths-within b m d h =
    let p = or-false (ltb instruction_count b) (ltb instruction_count m || ltb instruction_count d) h in
    let q = or-false (ltb instruction_count m) (ltb instruction_count d) p.1 in (
      ltb-false instruction_count b p.0,
      ltb-false instruction_count m q.0,
      ltb-false instruction_count d q.1,
    )

module _ (edition : ℕ) (s : List ℕ) where
  wrote-words : (xs ys : List ℕ) (n : ℕ) (is : List Emitted) → Wrote edition s xs 0 is ys → n ≡ length is
      → n ≤ length xs → Spell edition s (take n ys) is
  wrote-words xs ys n is w e h =
      let size : length w.words ≡ n = spell-length edition s w.spelled ∙ sym e in
      let parts : ys ≡ w.words ++ drop (0 + length w.words) xs =
      w.stored ∙ sets-eq w.words xs 0 (omega (arith, size, h)) in
      let same : take n ys ≡ w.words =
      ap (take n) parts ∙ take_at w.words (drop (0 + length w.words) xs) n size in
      subst (λ (ws : List ℕ). Spell edition s ws is) (sym same) w.spelled

  module _ (xb xm xd yb ym yd : List ℕ) (r : Program) (rb : length xb ≡ instruction_count)
      (rm : length xm ≡ instruction_count) (rd : length xd ≡ instruction_count)
      (few : (r.begin ≤ instruction_count) × (r.main ≤ instruction_count) × (r.end ≤ instruction_count)) where
    read_by : (q : Read Tree) → read_program edition s ≡ q → ReadingProgram edition s (each xb xm xd) q r (each yb ym yd)
        → r.outcome ≡ 0 → ReadAs edition s (take r.begin yb) (take r.main ym) (take r.end yd)
    unfolding ReadingProgram
    read_by (no o a) e h z = absurd (h.some_outcome (sym h.answer ∙ z))
    read_by (ok p t) e h z =
        record {
          program = p;
          token = t;
          reads = e;
          begin_spelled = wrote-words xb yb r.begin (section_code begin p) (h.wrote begin) (h.counts begin)
              (omega (arith, few.0, rb));
          main_spelled = wrote-words xm ym r.main (section_code main p) (h.wrote main) (h.counts main)
              (omega (arith, few.1, rm));
          end_spelled = wrote-words xd yd r.end (section_code end p) (h.wrote end) (h.counts end)
              (omega (arith, few.2, rd));
        }

    pub text-read : ReadingProgram edition s (each xb xm xd) (read_program edition s) r (each yb ym yd)
        → r.outcome ≡ 0 → ReadAs edition s (take r.begin yb) (take r.main ym) (take r.end yd)
    text-read h z = read_by (read_program edition s) refl h z

pub section-of : (section : List ℕ) (n : ℕ) → length section ≡ instruction_count → n ≤ instruction_count
    → Sectioned section n
section-of section n e h = record { room = omega (arith, e, h); few = h }
