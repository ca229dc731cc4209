use Prim.Native.Nat.{ℕ, ◌+◌, ◌≤◌, ◌<◌}
use mathlib.Core.Path.{◌≡◌}
use lib.ListN.{length, get_or}
use Rattle.ere_sets.specs.Growth.{Grows, Leads}
use Rattle.ere_classes.specs.Frames.{Frame}
use Rattle.ere_derive.proofs.rows.put_row.Given as goal

abbrev pub invariant-loop-e : goal.invariant-loop-e
invariant-loop-e l =
    (l.n ≤ l.most) × (length l.sets ≡ length l.initial.sets) × (Grows l.initial.sets l.count l.sets l.n) × (Frame l.p (l.p + (l.k + 1)) l.initial.d l.d)
    × ((x : ℕ) → x < l.e → Leads l.mode l.t l.sets l.n l.stride l.s (get_or l.bytes x 0) (get_or l.d (l.p + x) 0))
