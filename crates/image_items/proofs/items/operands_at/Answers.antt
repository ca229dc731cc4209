-- `operands_at` meets its contract: a code names at most two numbers.
use mathlib.Core.Path.{sym, subst}
use Prim.Native.Nat.{ℕ, ◌≤◌}
use Rattle.opcodes.proofs.Naming.{names-few}
use Rattle.image_items.proofs.Fetching.{first-missing, second-missing, numbers-there}
use Rattle.image_items.proofs.items.operands_at.Goals as goal

pub returns-in_err-first : goal.returns-in_err-first
returns-in_err-first c =
    let a = c.args in
    let count = c.operands-n.ensures in
    let few = subst (λ (n : ℕ). n ≤ 2) (sym count) (names-few a.edition a.code) in
    rw c.from_residual.ensures (first-missing _ a.code a.depth few a.image.now a.at count c.in_err-first.ensures)

pub returns-in_err-second : goal.returns-in_err-second
returns-in_err-second c =
    let a = c.args in
    let count = c.operands-n.ensures in
    let few = subst (λ (n : ℕ). n ≤ 2) (sym count) (names-few a.edition a.code) in
    rw c.from_residual-in_err-second.ensures
    (second-missing _ a.code a.depth few a.image.now a.at _ c.in_ok-first.ensures count c.in_err-second.ensures)

pub returns : goal.returns
returns c =
    let a = c.args in
    let count = c.operands-n.ensures in
    let few = subst (λ (n : ℕ). n ≤ 2) (sym count) (names-few a.edition a.code) in
    numbers-there _ a.code a.depth few a.image.now a.at _ c.in_ok-first.ensures count _ c.in_ok-second.ensures
