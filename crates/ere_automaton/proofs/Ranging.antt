-- A range of bytes, as it is asked for and as it is meant.
use Rattle.std.proofs.Common.{◌≡◌, ℕ, zero, suc, ◌+◌, ◌-◌, ◌%◌, ◌<◌, ◌≤◌, Bool, false, ◌&&◌, ◌||◌, leb, List, length, get_or, sym, ap, ◌∙◌, subst, ap₂, le_refl, arith, le-leb, leb-true}
use native.Mathlib.Decide.{ℕ_discrete, dec_lt}
use Rattle.lists.proofs.Tests.{and-true, and-of, or-false, same_test}
use Rattle.ere_automaton.specs.Layout.{in_range}
use Rattle.ere_automaton.specs.Automaton.{within, first_byte, second_byte, Hull}
use Rattle.ere_automaton.specs.Scan.{Ranges, ranges_of, begin, starts, Skipped}

pub range-within : (low width b : ℕ) → b < 256 → low + width < 256
    → in_range (low % 256) (width % 256) b ≡ within low width b
range-within low width b h k =
    same_test (in_range (low % 256) (width % 256) b) (within low width b)
    (λ e.
    let l = leb-true ((b + 256 - low % 256) % 256) (width % 256) e in
    and-of (leb low b) (leb b (low + width)) (le-leb low b (omega arith)) (le-leb b (low + width) (omega arith)))
    (λ e.
    let m = and-true (leb low b) (leb b (low + width)) e in
    let x = leb-true low b m.0 in
    let y = leb-true b (low + width) m.1 in
    le-leb ((b + 256 - low % 256) % 256) (width % 256) (omega arith))

pub begin-hull : (t d : List ℕ) → Hull t d → (b c : ℕ) → b < 256 → c < 256
    → begin (ranges_of d) b c ≡ (first_byte d b && second_byte d c)
begin-hull t d H b c hb hc =
    ap₂ ◌&&◌ (range-within (get_or d 6 0) (get_or d 7 0) b hb H.bytes.0)
    (range-within (get_or d 8 0) (get_or d 9 0) c hc H.bytes.1)

-- ---- the places of a block

pub starts_more : (g : Ranges) (x : List ℕ) (i j : ℕ) (hit : Bool) → hit ≡ starts g x i j
    → (hit || begin g (get_or x (i + j) 0) (get_or x (i + j + 1) 0)) ≡ starts g x i (j + 1)
unfolding starts
starts_more g x i j hit e =
    let z : j + 1 ≡ suc j = omega arith in
    ap (λ (h : Bool). h || begin g (get_or x (i + j) 0) (get_or x (i + j + 1) 0)) e ∙ ap (starts g x i) (sym z)

starts_none : (g : Ranges) (x : List ℕ) (i n : ℕ) → starts g x i n ≡ false
    → (j : ℕ) → i ≤ j → j < i + n → begin g (get_or x j 0) (get_or x (j + 1) 0) ≡ false
unfolding starts
starts_none g x i zero e j h k = absurd (omega arith)
starts_none g x i (suc n) e j h k =
    let f = or-false (starts g x i n) (begin g (get_or x (i + n) 0) (get_or x (i + n + 1) 0)) e in
    elim (ℕ_discrete j (i + n)) [
      | yes z ↦ subst (λ (m : ℕ). begin g (get_or x m 0) (get_or x (m + 1) 0) ≡ false) (sym z) f.1
      | no z ↦ starts_none g x i n f.0 j h (omega arith)
    ]

-- some more of a block's places are passed
pub skipped-more : (g : Ranges) (x : List ℕ) (from i n r : ℕ) → Skipped g x from i → starts g x i n ≡ false
    → i ≤ r → r ≤ i + n → r < length x → Skipped g x from r
skipped-more g x from i n r S e a b h =
    record {
      on = omega (arith, S.on);
      short = λ l. h;
      none = λ j k l. elim (dec_lt j i) [
        | yes m ↦ S.none j k m
        | no m ↦ starts_none g x i n e j (omega arith) (omega arith)
      ];
    }

pub skipped-none : (g : Ranges) (x : List ℕ) (i : ℕ) → Skipped g x i i
skipped-none g x i = record { on = le_refl i; short = λ l. absurd (omega arith); none = λ j a b. absurd (omega arith) }

-- it is in the text
pub skipped-inside : (g : Ranges) (x : List ℕ) (i r : ℕ) → Skipped g x i r → i ≤ length x → r ≤ length x
skipped-inside g x i r S h =
    elim (dec_lt i r) [ yes l ↦ let m = S.short l in omega arith | no l ↦ omega (arith, S.on) ]

-- the places before the last, if they are among those passed
pub skipped-last : (g : Ranges) (x : List ℕ) (from i r last : ℕ) → Skipped g x from r → from ≤ i → i ≤ last
    → last ≤ r → last < length x → Skipped g x i last
skipped-last g x from i r last S a b c h =
    record { on = b; short = λ l. h; none = λ j k l. S.none j (omega arith) (omega arith) }
