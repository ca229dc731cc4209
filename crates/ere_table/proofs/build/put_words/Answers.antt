-- `put_words` meets its contract: the first k words are stored.
use mathlib.Core.Path.{refl, ap}
use mathlib.Core.List.{List}
use Prim.Native.Nat.{ℕ, ◌+◌}
use native.Mathlib.Numerals.{add-one}
use lib.ListN.{get_or, set}
use Rattle.ere_table.specs.Build.{words_at}
use Rattle.ere_table.proofs.build.put_words.Goals as goal

pub loop-k-init : goal.loop-k-init
unfolding words_at
loop-k-init g c = refl

pub loop-k-preserved : goal.loop-k-preserved
unfolding words_at
loop-k-preserved g c =
    let a = c.args in
    let k = c.loop-k.k in
    rw add-one (ap (λ (t : List ℕ). set t (a.at + k) (get_or a.x k 0)) c.loop-k.invariant)
