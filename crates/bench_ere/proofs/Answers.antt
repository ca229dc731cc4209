-- What the two functions answer, from what `compile` and `find_from` do.
use Rattle.std.proofs.Common.{Option, Some, ◌≡◌, ℕ, ◌≤◌, Bool, true, cond, List, length, sym, refl, ap, ◌∙◌, subst, zero-le, arith}
use mathlib.Core.Option.{none}
use Rattle.edition.specs.Limits.{text_bytes, first_edition}
use Rattle.ere_meaning.specs.Tree.{Class, accepts, Ere}
use Rattle.ere_meaning.specs.Search.{best_of}
use Rattle.ere_grammar.specs.Read.{read_ere}
use Rattle.ere_table.specs.Table.{table_words}
use Rattle.ere_exists.specs.Any.{Exists}
use Rattle.ere_search.specs.Find.{match_of, Inside, Finds}
use Rattle.ere_automaton.specs.Follows.{SeekRanged, Seeks}
use Rattle.ere.specs.Answer.{Serves, Compiles, Bytes}
use Rattle.ere.proofs.Serving.{serves-answer, serves-exists}
use Rattle.bench_ere.specs.Answer.{Prepares, length_of, Tells}

pub prepares-unsized : (ere t : List ℕ) → (length t ≡ table_words → ⊥) → Prepares ere t t 0
prepares-unsized ere t n =
    record { only = zero-le; unsized = λ m. (refl, refl); refused = λ z l. absurd (n l); read = λ z. absurd (omega (arith, z)) }

pub prepares-none : (ere t₀ t : List ℕ) → length t₀ ≡ table_words → read_ere first_edition ere ≡ none → Prepares ere t₀ t 0
prepares-none ere t₀ t l e =
    record { only = zero-le; unsized = λ n. absurd (n l); refused = λ z m. e; read = λ z. absurd (omega (arith, z)) }

pub prepares-some : (ere t₀ t : List ℕ) → length t₀ ≡ table_words → Compiles 1 ere t true → Prepares ere t₀ t 1
prepares-some ere t₀ t l c =
    record { only = omega arith; unsized = λ n. absurd (n l); refused = λ z. absurd (omega (arith, z)); read = λ z. c.read refl }

module _ (t text : List ℕ) (r : Option (ℕ × ℕ)) (f : Finds t text 0 0 r) where
  pub length_found : (e : Ere Class) → Serves t e → Bytes text → length_of (match_of r) ≡ length_of (best_of accepts text e)
  unfolding best_of
  length_found e s bytes = ap length_of (serves-answer t text 0 0 r e text s f bytes zero-le refl)

  pub found_inside : (s n : ℕ) → r ≡ Some (s, n) → n ≤ length text
  found_inside s n e = let h = subst (Inside 0 0 (length text)) e f.inside in omega (arith, h.1)

pub tells : (t text : List ℕ) (r x : Bool) → length t ≡ table_words → length text ≤ text_bytes → Exists t text r → Bytes text → r ≡ x → Tells t text (cond x 1 0)
tells t text r x l h f bytes e =
    record {
      unsized = λ n. absurd (n l);
      long = λ g. absurd (omega arith);
      any = λ p s k g. ap (λ (b : Bool). cond b 1 0) (sym e ∙ serves-exists t r p text s f bytes);
    }

-- both automata of a search have their words
pub seeks-ranged : {t d : List ℕ} → Seeks t d → SeekRanged d
seeks-ranged S = record { inside = S.inside; one = S.one.ranged; pending = S.pending.ranged }
