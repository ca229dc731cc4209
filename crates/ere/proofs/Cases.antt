-- The numbers of an answer tell its case, so a promise on the numbers is one on the case.
use mathlib.Core.Path.{◌≡◌, refl, ap}
use mathlib.Core.Bool.{cond}
use Rattle.std.specs.Prelude.{Option, Some, None, Result, Ok, Err}
use Prim.Native.Nat.{ℕ, zero, suc}
use native.Mathlib.Numerals.{add-one}
use lib.Dec.{eqb}
use lib.IntN.{nat_abs}
use Rattle.edition.specs.Outcomes.{bad_ere, text_too_long}
use Rattle.ere.specs.Answer.{Matching, matching_of}
use Rattle.ere.specs.declared.matching.Refusal.{Refusal}
use Rattle.ere.specs.declared.matching.Refusal.TheVariants.{BadEre, LongText}

-- what a search answers
abbrev Answer : Type 0
Answer = Result (Option (ℕ × ℕ)) Refusal

-- the case with these numbers
abbrev starting_at : ℕ → ℕ → Answer
starting_at zero n = Ok None
starting_at (suc s) n = Ok (Some (s, n))

abbrev pub case_of : Matching → Answer
case_of x =
    cond (eqb x.outcome bad_ere) (Err BadEre)
    (cond (eqb x.outcome text_too_long) (Err LongText) (starting_at x.rstart (nat_abs x.rlength)))

pub case-told : (m : Answer) → case_of (matching_of m) ≡ m
case-told (Ok (Some (s, n))) = ap (λ (i : ℕ). starting_at i n) (add-one s)
case-told (Ok None) = refl
case-told (Err BadEre) = refl
case-told (Err LongText) = refl
