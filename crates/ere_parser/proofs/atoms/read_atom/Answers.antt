-- `read_atom`: by the first byte.
use mathlib.Core.Path.{sym, ap, ◌∙◌}
use mathlib.Core.List.{List}
use Prim.Native.Nat.{ℕ}
use native.Mathlib.Omega.{arith}
use lib.ListN.{get_or}
use Rattle.ere_meaning.specs.Tree.{only, any_byte}
use Rattle.ere_byte_set.specs.Words.{in_class}
use Rattle.ere_bracket.proofs.Answers.{in-only, in-any}
use Rattle.ere_parser.proofs.Atomic.{reads-got, reads-from, atom-escape, atom-dot, atom-bracket, atom-plain, atom-none}
use Rattle.ere_parser.proofs.atoms.read_atom.Goals as goal

pub returns-then-b-eq92 : goal.returns-then-b-eq92
returns-then-b-eq92 c =
    let a = c.args in reads-from _ a.ere.now a.at (atom-escape _ _ c.if-b-eq92.true) c.read_escaped.ensures

pub returns-then-b-eq46 : goal.returns-then-b-eq46
returns-then-b-eq46 c =
    reads-got c.args.at _ _ any_byte (atom-dot _ _ c.if-b-eq92.false c.if-b-eq46.true) (omega arith) (omega arith)
    (λ x h. ap (λ (w : List ℕ). in_class w x) c.full-words.ensures ∙ in-any x h)

pub returns-then-b-eq91 : goal.returns-then-b-eq91
returns-then-b-eq91 c =
    let a = c.args in
    reads-from _ a.ere.now a.at (atom-bracket _ _ c.if-b-eq92.false c.if-b-eq46.false c.if-b-eq91.true) c.read_bracket.ensures

pub returns-then-not-is_plain : goal.returns-then-not-is_plain
returns-then-not-is_plain c =
    atom-none _ _ c.if-b-eq92.false c.if-b-eq46.false c.if-b-eq91.false (sym c.is_plain.ensures ∙ c.if-not-is_plain.true)

pub returns : goal.returns
returns c =
    let a = c.args in
    let b = get_or a.ere.now a.at 0 in
    let e = sym c.is_plain.ensures ∙ c.if-not-is_plain.false in
    reads-got a.at _ _ (only b) (atom-plain _ _ c.if-b-eq92.false c.if-b-eq46.false c.if-b-eq91.false e) (omega arith) (omega arith)
    (λ x h. ap (λ (w : List ℕ). in_class w x) c.single-words.ensures ∙ in-only b x h)
