-- A run of bytes that begin no match, where nothing is live: nothing is lost.
use mathlib.Core.Path.{◌≡◌, sym, ap, ◌∙◌}
use mathlib.Core.Bool.{Bool, true, false}
use mathlib.Core.List.{List}
use Prim.Native.Nat.{ℕ, zero, suc, ◌+◌, ◌≤◌, ◌<◌}
use native.Mathlib.Decide.{ℕ_discrete, dec_lt}
use native.Mathlib.Nat.{add-zero, le_refl}
use native.Mathlib.Omega.{arith}
use lib.ListN.{length, get_or, drop, length-drop}
use lib.Seq.{get_or-drop}
use Rattle.lists.specs.Elements.{leading}
use Rattle.lists.proofs.Leading.{leading_le, leading-more, leading-each}
use Rattle.ere_table.specs.Table.{no_place}
use Rattle.ere_table.specs.Wiring.{stop_in, Sealed}
use Rattle.ere_search.specs.Walk.{open_to}
use Rattle.ere_exists.specs.Any.{passes, no_start}
use Rattle.ere_exists.proofs.Anywhere.{pending, all_at, pass, pass-stop}

module _ (t text : List ℕ) (S : Sealed t) (empty : Bool) (he : empty ≡ open_to t 0) (bytes : (k : ℕ) → get_or text k 0 < 256) where
  -- a byte that begins none is passed where nothing is live
  idle : (b : ℕ) → no_start t empty b ≡ true → passes t no_place b empty ≡ true
  idle b h = h

  front : (i n : ℕ) → suc n ≤ leading (no_start t empty) (drop i text) → (i < length text) × (no_start t empty (get_or text i 0) ≡ true)
  front i n h =
      let z : i + 0 ≡ i = omega arith in (
        omega (arith, leading_le (no_start t empty) (drop i text), length-drop i text),
        ap (λ (k : ℕ). no_start t empty (get_or text k 0)) (sym z)
            ∙ ap (no_start t empty) (sym (get_or-drop i text 0 0))
            ∙ leading-each (no_start t empty) (drop i text) 0 (omega arith),
      )

  -- n of them
  run : (n i : ℕ) → no_place ≡ pending t text i → n ≤ leading (no_start t empty) (drop i text)
      → (no_place ≡ pending t text (i + n)) × ((k : ℕ) → i ≤ k → k < i + n → stop_in (all_at t text k) false ≡ false)
  run zero i e h = (e ∙ ap (pending t text) (sym (add-zero i)), λ k a b. absurd (omega arith))
  run (suc n) i e h =
      let f = front i n h in
      let hp = idle (get_or text i 0) f.1 in
      let more = leading-more (no_start t empty) text i f.0 f.1 in
      let r = run n (i + 1) (pass t text i no_place e S empty he hp (bytes i)) (omega arith) in
      let z : i + 1 + n ≡ i + suc n = omega arith in (
        r.0 ∙ ap (pending t text) z,
        λ k a b. elim (ℕ_discrete k i) [
          | yes g ↦ ap (λ (j : ℕ). stop_in (all_at t text j) false) g ∙ pass-stop t text i no_place e S empty he hp (bytes i)
          | no g ↦ r.1 k (omega arith) (omega arith)
        ],
      )

  -- a byte that is passed, and those right after it that begin no match
  pub skipped : (i j : ℕ) (live : List ℕ) → live ≡ pending t text i → passes t live (get_or text i 0) empty ≡ true
      → j ≡ i + 1 + leading (no_start t empty) (drop (i + 1) text)
      → (no_place ≡ pending t text j) × ((k : ℕ) → i ≤ k → k < j → stop_in (all_at t text k) false ≡ false)
  skipped i j live hl hp ej =
      let r = run (leading (no_start t empty) (drop (i + 1) text)) (i + 1) (pass t text i live hl S empty he hp (bytes i)) (le_refl _) in (
        r.0 ∙ ap (pending t text) (sym ej),
        λ k a b. elim (ℕ_discrete k i) [
          | yes g ↦ ap (λ (q : ℕ). stop_in (all_at t text q) false) g ∙ pass-stop t text i live hl S empty he hp (bytes i)
          | no g ↦ r.1 k (omega arith) (omega arith)
        ],
      )

-- the same for the loop: what holds at i holds at j
module _ (t text : List ℕ) (empty : Bool) (he : empty ≡ open_to t 0) (bytes : (k : ℕ) → get_or text k 0 < 256) (i j : ℕ) (live : List ℕ)
    (hl : Sealed t → live ≡ pending t text i) (hp : passes t live (get_or text i 0) empty ≡ true)
    (ej : j ≡ i + 1 + leading (no_start t empty) (drop (i + 1) text)) where
  pub skip-within : i < length text → j ≤ length text
  skip-within h = omega (arith, leading_le (no_start t empty) (drop (i + 1) text), length-drop (i + 1) text)

  pub skip-live : Sealed t → no_place ≡ pending t text j
  skip-live S = (skipped t text S empty he bytes i j live (hl S) hp ej).0

  pub skip-stops : ((k : ℕ) → k < i → Sealed t → stop_in (all_at t text k) false ≡ false)
      → (k : ℕ) → k < j → Sealed t → stop_in (all_at t text k) false ≡ false
  skip-stops before k h S =
      elim (dec_lt k i) [ yes g ↦ before k g S | no g ↦ (skipped t text S empty he bytes i j live (hl S) hp ej).1 k (omega arith) h ]
