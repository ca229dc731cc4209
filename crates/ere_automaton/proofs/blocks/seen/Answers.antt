-- `seen` meets its contract.
use Rattle.std.proofs.Common.{Bool, ◌&&◌, ◌||◌, ap₂}
use Rattle.ere_automaton.proofs.blocks.seen.Goals as goal

pub returns : goal.returns
returns c =
    let hit = c.args.hit in
    ap₂ (λ (x y : Bool). hit || (x && y)) c.inside.ensures c.inside-2.ensures
