-- `atom`: a place more, or a refusal.
use mathlib.Core.Path.{◌≡◌, sym, ap, ap₂, subst, ◌∙◌}
use mathlib.Core.List.{List}
use Prim.Native.Nat.{ℕ}
use native.Mathlib.Omega.{arith}
use lib.ListN.{get_or}
use Rattle.ere_pieces.specs.State.{pushed_of, pushed_table, repeated_of, repeated_table, leaf_piece, atom_table}
use Rattle.ere_parser.specs.Standing.{Moves}
use Rattle.ere_pieces.specs.declared.rows.Piece.{Piece}
use Rattle.ere_pieces.specs.declared.rows.State.{State}
use Rattle.ere_parser.proofs.Moving.{moves-full, moves-bad, moves-atom}
use Rattle.ere_parser.proofs.reader.atom.Goals as goal

pub returns-then-count-ge-ERE_PLACES : goal.returns-then-count-ge-ERE_PLACES
returns-then-count-ge-ERE_PLACES c =
    let a = c.args in
    λ n. moves-full n a.s c.requires.3 c.requires.2 c.requires.4 (omega (arith, c.if-count-ge-ERE_PLACES.true))

pub returns-in_err-a : goal.returns-in_err-a
returns-in_err-a c =
    let a = c.args in
    λ n. rw c.from_residual.ensures (moves-bad n a.s c.requires.3 c.requires.2 c.requires.4 c.in_err-a.ensures)

pub repeated-r-requires : goal.repeated-r-requires
repeated-r-requires c =
    let q = c.in_ok-a.ensures in
    let i = q.inside in
    let g = c.leaf-g.ensures.0 in
    let h = ap (λ (x : Piece). x.hi) g in
    let a = ap (λ (x : Piece). x.at) g in
    (omega (arith, c.leaf-g.auto.t, c.requires.0), omega arith, omega (arith, c.requires.3.fewer, c.if-count-ge-ERE_PLACES.false), omega (arith, i, c.requires.1))

pub pushed-requires : goal.pushed-requires
pushed-requires c =
    (omega (arith, c.repeated-r.auto.t, c.leaf-g.auto.t, c.requires.0), c.requires.3.order, omega (arith, c.requires.3.fewer, c.requires.3.few))

pub returns : goal.returns
returns c =
    let args = c.args in
    let l = args.ere.now in
    let s = args.s in
    let t = args.t.now in
    let a = c.in_ok-a.a in
    let g = c.leaf-g.ensures.0 in
    let b = c.byte_at-b.ensures in
    let rep : c.repeated-r.result ≡ repeated_of (get_or l a.next 0) (leaf_piece s a.next) = c.repeated-r.ensures.0 ∙ ap₂ repeated_of b g in
    let er : c.pushed.result ≡ pushed_of s (repeated_of (get_or l a.next 0) (leaf_piece s a.next)) = c.pushed.ensures.0 ∙ ap (pushed_of s) rep in
    let et : c.pushed.new.t ≡ atom_table s a.words (leaf_piece s a.next) (get_or l a.next 0) t =
    c.pushed.ensures.1
    ∙ ap₂ (pushed_table s) rep
    (c.repeated-r.ensures.1
    ∙ ap₂ (λ (m : ℕ) (p : Piece). repeated_table m p s.hi c.leaf-g.new.t) b g
    ∙ ap (repeated_table (get_or l a.next 0) (leaf_piece s a.next) s.hi) c.leaf-g.ensures.1) in
    λ n. subst (λ (r : State). Moves l n t c.pushed.new.t s r) (sym er)
    (subst (λ (u : List ℕ). Moves l n t u s (pushed_of s (repeated_of (get_or l a.next 0) (leaf_piece s a.next)))) (sym et)
    (moves-atom n s c.requires.3 c.requires.2 c.requires.4 t c.requires.0 a c.in_ok-a.ensures (omega (arith, c.if-count-ge-ERE_PLACES.false))))
