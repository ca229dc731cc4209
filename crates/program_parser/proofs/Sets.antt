-- The sets of kinds, by the numbers of the kinds: each law is computed for all of them.
use mathlib.Core.Path.{◌≡◌, refl}
use mathlib.Core.Bool.{Bool, true, false, beq, ◌||◌}
use mathlib.Core.List.{[], ◌∷◌}
use Prim.Native.Nat.{ℕ, ◌<◌}
use lib.Dec.{eqb}
use Rattle.lists.specs.Elements.{all_below}
use Rattle.lists.proofs.Elements.{below_at}
use Rattle.lists.proofs.Tests.{beq_same}
use Rattle.program_tokens.specs.Kinds.{Kind, newline, NUMBER, STRING, NEXT, open_paren, dollar, ERE, among, same, rank}
use Rattle.program_grammar.specs.Sets.{names, prefixes, enders}
use Rattle.program_lexer.specs.Coded.{kind_of, kind_count}
use Rattle.program_parser.specs.Tables.{forms}

-- a test of numbers and a test of kinds that agree for every number of a kind
agree : (f : ℕ → Bool) (g : Kind → Bool) → all_below (λ n. beq (f n) (g (kind_of n))) kind_count ≡ true
    → (n : ℕ) → n < kind_count → f n ≡ g (kind_of n)
agree f g h n l = beq_same (f n) (g (kind_of n)) (below_at (λ m. beq (f m) (g (kind_of m))) kind_count h n l)

pub ender-kind : (n : ℕ) → n < kind_count → (eqb n 1 || eqb n 43) ≡ among enders (kind_of n)
unfolding all_below among kind_of rank
ender-kind n h = agree (λ m. eqb m 1 || eqb m 43) (among enders) refl n h

pub newline-kind : (n : ℕ) → n < kind_count → (eqb n 1 || false) ≡ among (newline ∷ []) (kind_of n)
unfolding all_below among kind_of rank
newline-kind n h = agree (λ m. eqb m 1 || false) (among (newline ∷ [])) refl n h

pub name-kind : (n : ℕ) → n < kind_count → (eqb n 7 || (eqb n 8 || eqb n 9)) ≡ among names (kind_of n)
unfolding all_below among kind_of rank
name-kind n h = agree (λ m. eqb m 7 || (eqb m 8 || eqb m 9)) (among names) refl n h

pub prefix-kind : (n : ℕ) → n < kind_count → (eqb n 51 || (eqb n 45 || eqb n 46)) ≡ among prefixes (kind_of n)
unfolding all_below among kind_of rank
prefix-kind n h = agree (λ m. eqb m 51 || (eqb m 45 || eqb m 46)) (among prefixes) refl n h

pub operand-kind : (n : ℕ) → n < kind_count
    → (eqb n 4 || (eqb n 5 || (eqb n 38 || (eqb n 58 || among names (kind_of n)))))
    ≡ among (NUMBER ∷ STRING ∷ open_paren ∷ dollar ∷ names) (kind_of n)
unfolding all_below among kind_of rank
operand-kind n h =
    agree (λ m. eqb m 4 || (eqb m 5 || (eqb m 38 || (eqb m 58 || among names (kind_of m)))))
    (among (NUMBER ∷ STRING ∷ open_paren ∷ dollar ∷ names)) refl n h

pub form-kind : (n : ℕ) → n < kind_count
    → (eqb n 43 || (eqb n 36 || (eqb n 13 || (eqb n 15 || (eqb n 16 || eqb n 18))))) ≡ among forms (kind_of n)
unfolding all_below among kind_of rank
form-kind n h =
    agree (λ m. eqb m 43 || (eqb m 36 || (eqb m 13 || (eqb m 15 || (eqb m 16 || eqb m 18))))) (among forms) refl n h

-- an ERE or a prefix operator
pub late-kind : (n : ℕ) → n < kind_count → (eqb n 6 || among prefixes (kind_of n)) ≡ among (ERE ∷ prefixes) (kind_of n)
unfolding all_below among kind_of rank
late-kind n h = agree (λ m. eqb m 6 || among prefixes (kind_of m)) (among (ERE ∷ prefixes)) refl n h

pub next-kind : (n : ℕ) → n < kind_count → eqb n 17 ≡ same (kind_of n) NEXT
unfolding all_below kind_of rank
next-kind n h = agree (λ m. eqb m 17) (λ k. same k NEXT) refl n h
