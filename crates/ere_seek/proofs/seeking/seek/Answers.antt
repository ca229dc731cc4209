-- `seek` meets its contract: the words of both automata, one after the other.
use mathlib.Core.Path.{◌≡◌, sym, ap, subst}
use mathlib.Core.List.{List}
use Prim.Native.Nat.{ℕ, ◌-◌}
use native.Mathlib.Nat.{le_refl}
use native.Mathlib.Omega.{arith}
use lib.ListN.{length, take, length-drop, length-take}
use lib.Seq.{length-take-le, take_all}
use Rattle.ere_automaton.specs.Automaton.{Ranged}
use Rattle.ere_automaton.specs.Follows.{one_length, one_in, pending_in}
use Rattle.ere_seek.specs.Seeking.{FindsBoth}
use Rattle.ere_seek.proofs.Leftmost.{both_of}
use Rattle.ere_seek.proofs.seeking.seek.Goals as goal

-- what the second part of the words is
rest-is : (d : List ℕ) → take (length d - one_length d) (pending_in d) ≡ pending_in d
rest-is d = take_all (length d - one_length d) (pending_in d) (simp length-drop (le_refl (length d - one_length d)))

-- the text made anew
text-is : (x : List ℕ) → take (length x) x ≡ x
text-is x = take_all (length x) x (le_refl (length x))

pub bounds-d-10 : goal.bounds-d-10
bounds-d-10 c = omega (arith, simp length-take at c.requires.0.one.head)

pub slice_bounds-seek_both-end : goal.slice_bounds-seek_both-end
slice_bounds-seek_both-end c =
    sym (length-take-le (one_length c.args.d.now) c.args.d.now c.requires.0.inside)

pub slice_bounds-seek_both-end-3 : goal.slice_bounds-seek_both-end-3
slice_bounds-seek_both-end-3 c =
    let x = c.args.rest.now in
    sym (length-take-le (length x) x (le_refl (length x)))

pub seek_both-requires : goal.seek_both-requires
seek_both-requires c =
    let p = c.requires in (
      p.0.one,
      subst Ranged (sym (rest-is c.args.d.now)) p.0.pending,
      omega (arith, ap length (text-is c.args.rest.now), p.1),
      p.2,
    )

pub returns : goal.returns
returns c =
    let a = c.args in
    let d = a.d.now in
    let x = a.rest.now in
    let r = c.seek_both in
    let F =
    subst (λ (y : List ℕ). FindsBoth (one_in d) (pending_in d) y a.at a.least r.result) (text-is x)
    (subst (λ (l : List ℕ). FindsBoth (one_in d) l (take (length x) x) a.at a.least r.result) (rest-is d)
    r.ensures) in
    (F.inside, λ t S. F.finds t (both_of t d S))
