-- The laws of the longest match from a start, turn by turn.
use mathlib.Core.Path.{◌≡◌, refl, sym, ap, ap₂, ◌∙◌}
use mathlib.Core.Bool.{Bool, true, false, cond}
use mathlib.Core.List.{List}
use Prim.Native.Nat.{ℕ, zero, suc, ◌+◌, ◌-◌, ◌<◌}
use native.Mathlib.Nat.{add-zero, add-suc}
use native.Mathlib.Numerals.{add-one}
use native.Mathlib.Omega.{arith}
use lib.ListN.{length, get_or}
use lib.Dec.{eqb, leb}
use borrow.Author.Tests.{eq-eqb, ne_eqb, eqb-true}
use Rattle.lists.proofs.Tests.{and-true}
use Rattle.ere_table.specs.Table.{no_place}
use Rattle.ere_search.specs.Walk.{step, dead, live_at, longest_to, longest_of, note}
use Rattle.ere_table.proofs.Sets.{mem-none}
use Rattle.ere_search.proofs.Steps.{step-dead}

-- ---- after a set with no place in it no walk stops

note-none : (best : ℕ) (f : Bool) (least n : ℕ) → note best no_place f least n ≡ best
note-none best f least n = ap (λ (x : Bool). cond (leb least n) (cond x (suc n) best) best) (mem-none (cond f 129 128)) ∙ pick (leb least n)
  where
    pick : (x : Bool) → cond x (cond false (suc n) best) best ≡ best
    pick true = refl
    pick false = refl

module _ (t rest : List ℕ) (at least s : ℕ) where
  -- from n bytes on the live set is empty
  pub none_more : (n k : ℕ) → live_at t rest at s n ≡ no_place → live_at t rest at s (n + k) ≡ no_place
  unfolding live_at
  none_more n zero h = rw (add-zero n) h
  none_more n (suc k) h =
      rw (add-suc n k) (step-dead t (live_at t rest at s (n + k)) (get_or rest (s + (n + k)) 0) (ap (λ (l : List ℕ). get_or l 0 0) (none_more n k h))
      (ap (λ (l : List ℕ). get_or l 1 0) (none_more n k h)))

  pub none-longer : (n k : ℕ) → live_at t rest at s n ≡ no_place → longest_to t rest at least s (n + k) ≡ longest_to t rest at least s n
  unfolding longest_to
  none-longer n zero h = ap (longest_to t rest at least s) (add-zero n)
  none-longer n (suc k) h =
      ap (longest_to t rest at least s) (add-suc n k)
      ∙ ap (λ (l : List ℕ). note (longest_to t rest at least s (n + k)) l (eqb (s + (n + k)) (length rest)) least (n + k)) (none_more n k h)
      ∙ note-none (longest_to t rest at least s (n + k)) (eqb (s + (n + k)) (length rest)) least (n + k)
      ∙ none-longer n k h

-- ---- a turn

pub live_more : (t rest : List ℕ) (at s n : ℕ) (live : List ℕ) → live ≡ live_at t rest at s n
    → (r : List ℕ) → r ≡ step t live (get_or rest (s + n) 0) → r ≡ live_at t rest at s (n + 1)
unfolding live_at
live_more t rest at s n live hl r e = rw add-one (e ∙ ap (λ (l : List ℕ). step t l (get_or rest (s + n) 0)) hl)

module _ (t rest : List ℕ) (at least s n : ℕ) (live : List ℕ) (hl : live ≡ live_at t rest at s n) where
  module _ (best : ℕ) (hb : best ≡ longest_to t rest at least s n) (r : ℕ) where
    pub best-more : s + n < length rest → r ≡ note best live false least n → r ≡ longest_to t rest at least s (n + 1)
    unfolding longest_to
    best-more h e = rw (add-one, ne_eqb (s + n) (length rest) (omega arith)) (e ∙ ap₂ (λ (b : ℕ) (l : List ℕ). note b l false least n) hb hl)

    pub best-end : s + n ≡ length rest → r ≡ note best live true least n → r ≡ longest_of t rest at least s
    unfolding longest_to
    best-end h e =
        let k : length rest - s ≡ n = omega arith in
        rw (k, eq-eqb (s + n) (length rest) h) (e ∙ ap₂ (λ (b : ℕ) (l : List ℕ). note b l true least n) hb hl)

    -- where no place is live, nothing longer is lost
    pub best-dead : s + n < length rest → dead live ≡ true → r ≡ note best live false least n → r ≡ longest_of t rest at least s
    unfolding live_at
    best-dead h d e =
        let z = and-true (eqb (get_or live 0 0) 0) _ d in
        let next : live_at t rest at s (suc n) ≡ no_place =
        ap (λ (l : List ℕ). step t l (get_or rest (s + n) 0)) (sym hl) ∙ step-dead t live (get_or rest (s + n) 0) (eqb-true _ _ z.0) (eqb-true _ _ z.1) in
        let same : suc n + (length rest - s - n) ≡ suc (length rest - s) = omega arith in
        best-more h e ∙ ap (longest_to t rest at least s) (add-one n)
        ∙ sym (none-longer t rest at least s (suc n) (length rest - s - n) next)
        ∙ ap (longest_to t rest at least s) same
