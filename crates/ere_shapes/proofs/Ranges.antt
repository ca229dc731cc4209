-- Laws of ranges of bytes, and of sets of classes.
use mathlib.Core.Path.{◌≡◌, sym, ap, ◌∙◌}
use mathlib.Core.Bool.{Bool, true, false}
use mathlib.Core.Logic.{◌⊎◌, inl, inr, ⊎_elim}
use mathlib.Core.List.{List}
use Prim.Native.Nat.{ℕ, ◌+◌, ◌-◌, ◌*◌, ◌/◌, ◌%◌, ◌^◌, ◌≤◌, ◌<◌}
use native.Mathlib.Omega.{arith}
use native.Mathlib.Decide.{dec_lt}
use lib.ListN.{get_or}
use lib.Bits.{bit_or}
use lib.Dec.{eqb}
use borrow.Author.Tests.{eqb-true, eq-eqb, leb-true, leb-false, le-leb}
use Rattle.lists.specs.Digit.{bit}
use Rattle.lists.proofs.Digits.{bit-or, bit_shifted}
use Rattle.lists.proofs.Tests.{or_cases, same_test}
use Rattle.ere_table.specs.Table.{no_place}
use Rattle.ere_table.specs.Wiring.{stop_in}
use Rattle.ere_search.specs.Walk.{step}
use Rattle.ere_automaton.specs.Layout.{class_in}
use Rattle.ere_classes.specs.Column.{Classified}
use Rattle.ere_classes.specs.Bounds.{Led, NoneIn}
use Rattle.ere_shapes.specs.Leads.{Ended, among, Leads}

-- a class more
pub class-more : (out c e : ℕ) → c < 64 → bit (bit_or out (1 * 2 ^ c % 2 ^ 64)) e ≡ true → (bit out e ≡ true) ⊎ (e ≡ c)
class-more out c e h f =
    ⊎_elim inl (λ g. inr (eqb-true e c (sym (bit_shifted c e h) ∙ g)))
    (or_cases (bit out e) (bit (1 * 2 ^ c % 2 ^ 64) e) (sym (bit-or out (1 * 2 ^ c % 2 ^ 64) e) ∙ f))

-- both accept bits of a set
pub both_bits : (s : List ℕ) {r : Bool} → stop_in s false ≡ r → stop_in s true ≡ r → Ended s r
both_bits s e f true = f
both_bits s e f false = e

-- ---- a range, as it is stored

-- the bytes from `low` up to `high`, and `high`
abbrev pub range_of : ℕ → ℕ → ℕ
range_of low high = low + 256 * (high - low)

module _ (low high : ℕ) (some : low ≤ high) (few : high < 256) (b : ℕ) (byte : b < 256) where
  range-in : among (range_of low high) b ≡ true → (low ≤ b) × (b ≤ high)
  range-in e =
      let r = range_of low high in
      let l : r % 256 ≡ low = omega arith in
      let w : r / 256 ≡ high - low = omega arith in
      let f = leb-true ((b + 256 - r % 256) % 256) (r / 256) e in
      (omega arith, omega arith)

  range-out : among (range_of low high) b ≡ false → (b < low) ⊎ (high < b)
  range-out e =
      let r = range_of low high in
      let l : r % 256 ≡ low = omega arith in
      let w : r / 256 ≡ high - low = omega arith in
      let f = leb-false ((b + 256 - r % 256) % 256) (r / 256) e in
      elim (dec_lt b low) [ yes g ↦ inl g | no g ↦ inr (omega arith) ]

-- one byte, and any
pub among_one : (r b : ℕ) → r < 256 → b < 256 → among r b ≡ eqb b r
among_one r b h l =
    let x : r % 256 ≡ r = omega arith in
    let y : r / 256 ≡ 0 = omega arith in
    same_test (among r b) (eqb b r)
    (λ e. let f = leb-true ((b + 256 - r % 256) % 256) (r / 256) e in eq-eqb b r (omega arith))
    (λ e. let f = eqb-true b r e in le-leb ((b + 256 - r % 256) % 256) (r / 256) (omega arith))

pub among-any : (r b : ℕ) → r / 256 ≡ 255 → among r b ≡ true
among-any r b h = le-leb ((b + 256 - r % 256) % 256) (r / 256) (omega arith)

-- what is found of a set
module _ (t bytes : List ℕ) (k : ℕ) (d s : List ℕ) (C : Classified t bytes k d) (x y low high : ℕ)
    (L : Led t bytes k s 0 x) (some : low ≤ high) (few : high < 256) (below : NoneIn x d 0 low) (above : NoneIn x d (high + 1) 256)
    (next : List ℕ) (is : next ≡ step t s low)
    (A : (c : ℕ) → c < 64 → bit y c ≡ true → step t s (get_or bytes c 0) ≡ next)
    (all : (b : ℕ) → low ≤ b → b ≤ high → bit y (class_in d b) ≡ true) (unended : Ended s false) where
  outside : (b : ℕ) → b < 256 → bit x (class_in d b) ≡ false → step t s b ≡ no_place
  outside b h e = C.same s b h ∙ L.none (class_in d b) (C.is b h) e

  pub range-leads : Leads t s (range_of low high)
  range-leads = record {
    unended = unended;
    on = λ b h e.
        let w = range-in low high some few b h e in
        let z : low ≡ range_of low high % 256 = omega arith in
        C.same s b h ∙ A (class_in d b) (omega (arith, C.is b h, C.few)) (all b w.0 w.1) ∙ is ∙ ap (step t s) z;
    off = λ b h e.
        ⊎_elim (λ l. outside b h (below b (omega arith) l)) (λ l. outside b h (above b (omega arith) h)) (range-out low high some few b h e);
  }
