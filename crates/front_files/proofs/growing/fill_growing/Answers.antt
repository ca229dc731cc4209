-- `fill_growing`: the bytes that were there stay.
use Rattle.std.proofs.Common.{◌≡◌, ◌∙◌, sym, ap, ℕ, ◌≤◌, List, ◌++◌, length, take, length-append, arith}
use Rattle.std.proofs.lemmas.List.{take-append-le, length-take-le}
use lib.Seq.{take-take}
use Rattle.front_files.proofs.growing.fill_growing.Goals as goal

module _ (from : ℕ) (room : List ℕ) where
  -- a part x of a room, of which a front stays, put back at the front of the room's n bytes
  filled : (at n : ℕ) (x rest items : List ℕ) → from ≤ at → from ≤ length items → n ≡ length items → length x ≡ length items
      → take at x ≡ take at items → take from items ≡ take from room
      → (from ≤ length (take n (x ++ rest))) × (take from (take n (x ++ rest)) ≡ take from room)
  filled at n x rest items a b e d f s =
      let k : from ≤ n = omega arith in
      let m : n ≤ length (x ++ rest) = omega (arith, length-append x rest) in (
        omega (arith, length-take-le n (x ++ rest) m),
        take-take from n (x ++ rest) k
            ∙ take-append-le from x rest (omega arith)
            ∙ sym (take-take from at x a)
            ∙ ap (take from) f
            ∙ take-take from at items a
            ∙ s,
      )

  -- bytes more behind those of a room
  grown : (y z : List ℕ) → (from ≤ length y) × (take from y ≡ take from room) → length y ≤ length z → take (length y) z ≡ y
      → (from ≤ length z) × (take from z ≡ take from room)
  grown y z (a, b) d e = (omega arith, sym (take-take from (length y) z a) ∙ ap (take from) e ∙ b)

pub returns-in_err-n-clause-kept : goal.returns-in_err-n-clause-kept
returns-in_err-n-clause-kept g c = λ h.
    let i = c.loop.invariant in
    let s = c.as_mut_slice.ensures in
    (filled _ _ _ _ _ _ _ i.0 (i.1 h) (sym s.len ∙ ap length s.value) (c.fill.auto.room ∙ ap length s.value)
    (c.fill.ensures.1 ∙ ap (take c.loop.at) s.value) (i.2 h)).1

pub returns-in-Some-clause-kept : goal.returns-in-Some-clause-kept
returns-in-Some-clause-kept g c = λ h.
    let i = c.loop.invariant in
    let s = c.as_mut_slice.ensures in
    (filled _ _ _ _ _ _ _ i.0 (i.1 h) (sym s.len ∙ ap length s.value) (c.fill.auto.room ∙ ap length s.value)
    (c.fill.ensures.1 ∙ ap (take c.loop.at) s.value) (i.2 h)).1

pub returns-then-not-grow-clause-kept : goal.returns-then-not-grow-clause-kept
returns-then-not-grow-clause-kept g c = λ h.
    let i = c.loop.invariant in
    let s = c.as_mut_slice.ensures in
    (grown _ _ _ _ (filled _ _ _ _ _ _ _ i.0 (i.1 h) (sym s.len ∙ ap length s.value) (c.fill.auto.room ∙ ap length s.value)
    (c.fill.ensures.1 ∙ ap (take c.loop.at) s.value) (i.2 h)) c.grow.ensures.least c.grow.ensures.kept).1

pub loop-preserved : goal.loop-preserved
loop-preserved g c =
    let i = c.loop.invariant in
    let s = c.as_mut_slice.ensures in
    let r = λ (h : c.args.from ≤ length c.args.room.now.bytes.items).
    grown _ _ _ _ (filled _ _ _ _ _ _ _ i.0 (i.1 h) (sym s.len ∙ ap length s.value) (c.fill.auto.room ∙ ap length s.value)
    (c.fill.ensures.1 ∙ ap (take c.loop.at) s.value) (i.2 h)) c.grow.ensures.least c.grow.ensures.kept in
    (omega (arith, i.0, c.max-at.ensures), (λ h. (r h).0), (λ h. (r h).1))
