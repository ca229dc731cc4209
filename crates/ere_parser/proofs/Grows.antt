-- What is read has at least the places that were read before.
use mathlib.Core.Path.{◌≡◌, refl}
use mathlib.Core.Bool.{Bool, true, false, cond}
use mathlib.Core.List.{List, [], ◌∷◌}
use mathlib.Core.Option.{Option, some, none}
use Prim.Native.Nat.{ℕ, zero, suc, ◌+◌, ◌≤◌}
use native.Mathlib.Omega.{arith}
use lib.ListN.{length}
use lib.Dec.{eqb}
use Rattle.lists.specs.Parsing.{Parsed}
use Rattle.ere_meaning.specs.Tree.{Class, Ere, place, bol, eol, star, plus, opt, places}
use Rattle.ere_grammar.specs.Read.{begins, tail, and_then, or_else, Tree, Rest, finished, repeated, after_atom, after_group, after_bar, read_group, read_atom, read_rest}
use Rattle.ere_parser.specs.Reading.{rest_from}
use Rattle.ere_parser.specs.Standing.{size_of}

pub size-then : (S : Option (Ere Class)) (e : Ere Class) → places (and_then S e) ≡ size_of S + places e
unfolding size_of places
size-then none e = omega arith
size-then (some s) e = refl

pub size-or : (A : Option (Ere Class)) (e : Ere Class) → places (or_else A e) ≡ size_of A + places e
unfolding size_of places
size-or none e = omega arith
size-or (some a) e = refl

abbrev pub Grows : ℕ → Tree → Type 0
Grows N none = Unit {0}
Grows N (some g) = N ≤ places g.value

grows-cond : (N : ℕ) (b : Bool) (x y : Tree) → Grows N x → Grows N y → Grows N (cond b x y)
grows-cond N true x y p q = p
grows-cond N false x y p q = q

grows-less : (M N : ℕ) (x : Tree) → M ≤ N → Grows N x → Grows M x
grows-less M N none h p = tt
grows-less M N (some g) h p = omega arith

finished-grows : (A S : Option (Ere Class)) (t : List ℕ) → Grows (size_of A + size_of S) (finished A S t)
unfolding finished size_of
finished-grows A none t = tt
finished-grows A (some s) t = omega (arith, size-or A s)

module _ (rest : Rest) (h : (n : ℕ) (A S : Option (Ere Class)) (t : List ℕ) → Grows (size_of A + size_of S) (rest n A S t)) (n : ℕ) (A S : Option (Ere Class)) where
  -- with one piece more
  pub more-grows : (e : Ere Class) (t : List ℕ) → Grows (size_of A + size_of S + places e) (rest n A (some (and_then S e)) t)
  unfolding size_of
  more-grows e t = grows-less _ (size_of A + places (and_then S e)) (rest n A (some (and_then S e)) t) (omega (arith, size-then S e)) (h n A (some (and_then S e)) t)

  pub repeated-grows : (e : Ere Class) (t : List ℕ) → Grows (size_of A + size_of S + places e) (repeated rest n A S e t)
  unfolding repeated places
  repeated-grows e t =
      let N = size_of A + size_of S + places e in
      grows-cond N (begins (42 ∷ []) t) _ _ (more-grows (star e) (tail t))
      (grows-cond N (begins (43 ∷ []) t) _ _ (more-grows (plus e) (tail t))
      (grows-cond N (begins (63 ∷ []) t) _ _ (more-grows (opt e) (tail t)) (more-grows e t)))

  pub atom-grows : (o : Option (Parsed Class)) → Grows (size_of A + size_of S + 1) (after_atom rest n A S o)
  unfolding after_atom places
  atom-grows none = tt
  atom-grows (some g) = repeated-grows (place g.value) g.rest

  after-group-grows : (o : Tree) → Grows (size_of A + size_of S) (after_group rest n A S o)
  unfolding after_group
  after-group-grows none = tt
  after-group-grows (some g) =
      let N = size_of A + size_of S in
      grows-cond N (begins (41 ∷ []) g.rest) (repeated rest n A S g.value (tail g.rest)) none
      (grows-less N (N + places g.value) (repeated rest n A S g.value (tail g.rest)) (omega arith) (repeated-grows g.value (tail g.rest))) tt

bar-grows : (rest : Rest) (h : (n : ℕ) (A S : Option (Ere Class)) (t : List ℕ) → Grows (size_of A + size_of S) (rest n A S t)) (n : ℕ) (A S : Option (Ere Class)) (t : List ℕ)
    → Grows (size_of A + size_of S) (after_bar rest n A S t)
unfolding after_bar size_of
bar-grows rest h n A none t = tt
bar-grows rest h n A (some s) t =
    grows-less _ (places (or_else A s) + 0) (rest n (some (or_else A s)) none t) (omega (arith, size-or A s)) (h n (some (or_else A s)) none t)

group-grows : (rest : Rest) (h : (n : ℕ) (A S : Option (Ere Class)) (t : List ℕ) → Grows (size_of A + size_of S) (rest n A S t)) (n : ℕ) (A S : Option (Ere Class)) (t : List ℕ)
    → Grows (size_of A + size_of S) (read_group rest n A S t)
unfolding read_group
group-grows rest h zero A S t = tt
group-grows rest h (suc n) A S t = after-group-grows rest h (suc n) A S (rest n none none t)

pub rest-grows : (k n : ℕ) (A S : Option (Ere Class)) (t : List ℕ) → Grows (size_of A + size_of S) (read_rest k n A S t)
unfolding read_rest
rest-grows zero n A S t = tt
rest-grows (suc k) n A S [] = finished-grows A S []
rest-grows (suc k) n A S (b ∷ t) =
    let N = size_of A + size_of S in
    let r = read_rest k in
    let h = rest-grows k in
    let less : (M : ℕ) (x : Tree) → N ≤ M → Grows M x → Grows N x = λ M x l p. grows-less N M x l p in
    grows-cond N (eqb b 41) (finished A S (b ∷ t)) _ (finished-grows A S (b ∷ t))
    (grows-cond N (eqb b 124) (after_bar r n A S t) _ (bar-grows r h n A S t)
    (grows-cond N (eqb b 94) (r n A (some (and_then S bol)) t) _ (less (N + places {A = Class} bol) (r n A (some (and_then S bol)) t) (omega arith) (more-grows r h n A S bol t))
    (grows-cond N (eqb b 36) (r n A (some (and_then S eol)) t) _ (less (N + places {A = Class} eol) (r n A (some (and_then S eol)) t) (omega arith) (more-grows r h n A S eol t))
    (grows-cond N (eqb b 40) (read_group r n A S t) (after_atom r n A S (read_atom b t)) (group-grows r h n A S t)
    (less (N + 1) (after_atom r n A S (read_atom b t)) (omega arith) (atom-grows r h n A S (read_atom b t)))))))

pub from-grows : (n : ℕ) (A S : Option (Ere Class)) (t : List ℕ) → Grows (size_of A + size_of S) (rest_from n A S t)
unfolding rest_from
from-grows n A S t = rest-grows (suc (length t)) n A S t
