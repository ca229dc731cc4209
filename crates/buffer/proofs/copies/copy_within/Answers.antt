-- `copy_within` meets its contract: the library replaces as many elements as the part has.
use Prim.Native.Nat.{ℕ, ◌+◌, ◌-◌}
use mathlib.Core.Path.{◌≡◌, sym, ap, ◌∙◌}
use mathlib.Core.List.{◌++◌}
use native.Mathlib.Omega.{arith}
use lib.ListN.{take, drop, length}
use Rattle.buffer.specs.Parts.{part, put}
use Rattle.buffer.proofs.Parts.{length_part}
use Rattle.buffer.proofs.copies.copy_within.Goals as goal

pub returns : goal.returns
unfolding part put
returns c =
    let a = c.args in
    let s = a.s.now in
    let k : a.from + a.n - a.from ≡ a.n = omega arith in
    let e : length (part a.from a.n s) ≡ a.n = length_part a.from a.n s (omega arith) in
    c.copy_within.ensures.after
    ∙ ap (λ (n : ℕ). take a.to s ++ take n (drop a.from s) ++ drop (a.to + n) s) k
    ∙ ap (λ (n : ℕ). take a.to s ++ part a.from a.n s ++ drop (a.to + n) s) (sym e)
