-- Reading with more turns than bytes are left does not depend on the turns: what is read from a text is one thing, and
-- each kind of byte has its law.
use mathlib.Core.Path.{◌≡◌, refl, ap, ◌∙◌}
use mathlib.Core.Bool.{Bool, true, false, not, cond, ◌&&◌}
use mathlib.Core.List.{List, [], ◌∷◌}
use mathlib.Core.Option.{Option, some, none}
use Prim.Native.Nat.{ℕ, zero, suc, ◌≤◌, ◌<◌}
use native.Mathlib.Omega.{arith}
use lib.ListN.{length}
use lib.Dec.{eqb, leb}
use Rattle.lists.specs.Parsing.{Parsed, parsed}
use Rattle.ere_meaning.specs.Tree.{Range, Class, only, any_byte, Ere, place, bol, eol, star, plus, opt}
use Rattle.ere_grammar.specs.Bytes.{escape_of, is_plain}
use Rattle.ere_grammar.specs.Grammar.{range}
use Rattle.ere_grammar.specs.Read.{begins, tail, escaped_byte, read_escape, read_member, joins, Items, with_range, last_hyphen, range_to, after_byte, read_items, bracket_of, read_bracket, only_byte, read_atom, and_then, or_else, Tree, Rest, finished, repeated, after_atom, after_group, after_bar, read_group, read_rest}

-- ---- what is read leaves fewer bytes

abbrev pub Leaves : {A : Type 0} → ℕ → Option (Parsed A) → Type 0
Leaves N none = Unit {0}
Leaves N (some g) = length g.rest ≤ N

leaves-cond : {A : Type 0} (N : ℕ) (b : Bool) (x y : Option (Parsed A)) → Leaves N x → Leaves N y → Leaves N (cond b x y)
leaves-cond N true x y p q = p
leaves-cond N false x y p q = q

leaves-more : {A : Type 0} (M N : ℕ) (x : Option (Parsed A)) → M ≤ N → Leaves M x → Leaves N x
leaves-more M N none h p = tt
leaves-more M N (some g) h p = omega arith

pub tail-le : (t : List ℕ) → length (tail t) ≤ length t
unfolding tail
tail-le [] = omega arith
tail-le (b ∷ t) = omega arith

escaped-leaves : (t : List ℕ) (o : Option ℕ) → Leaves (length t) (escaped_byte t o)
unfolding escaped_byte
escaped-leaves t none = tt
escaped-leaves t (some c) = omega arith

escape-leaves : (t : List ℕ) → Leaves (length t) (read_escape t)
unfolding read_escape
escape-leaves [] = tt
escape-leaves (b ∷ t) = leaves-more (length t) (length (b ∷ t)) (escaped_byte t (escape_of b)) (omega arith) (escaped-leaves t (escape_of b))

member-leaves : (b : ℕ) (t : List ℕ) → Leaves (length t) (read_member (b ∷ t))
unfolding read_member
member-leaves b t =
    leaves-cond (length t) (eqb b 92) _ _ (escape-leaves t)
    (leaves-cond (length t) (eqb b 91 && begins (58 ∷ 61 ∷ 46 ∷ []) t) none (parsed b t) tt (omega arith))

member-leaves-any : (t : List ℕ) → Leaves (length t) (read_member t)
unfolding read_member
member-leaves-any [] = tt
member-leaves-any (b ∷ t) = leaves-more (length t) (length (b ∷ t)) (read_member (b ∷ t)) (omega arith) (member-leaves b t)

range-leaves : (N : ℕ) (r : Range) (o : Items) → Leaves N o → Leaves N (with_range r o)
unfolding with_range
range-leaves N r none p = tt
range-leaves N r (some g) p = p

hyphen-leaves : (t : List ℕ) → Leaves (length t) (last_hyphen t)
unfolding last_hyphen
hyphen-leaves t = leaves-cond (length t) (begins (93 ∷ []) t) (parsed (range 45 45 ∷ []) (tail t)) none (tail-le t) tt

module _ (rest : List ℕ → Items) (h : (t : List ℕ) → Leaves (length t) (rest t)) where
  from-leaves : (N : ℕ) (t : List ℕ) (r : Range) → length t ≤ N → Leaves N (with_range r (rest t))
  from-leaves N t r l = range-leaves N r (rest t) (leaves-more (length t) N (rest t) l (h t))

  up-leaves : (N : ℕ) (a : ℕ) (o : Option (Parsed ℕ)) → Leaves N o → Leaves N (range_to rest a o)
  unfolding range_to
  up-leaves N a none p = tt
  up-leaves N a (some g) p = leaves-cond N (leb a g.value) _ none (from-leaves N g.rest (range a g.value) p) tt

  byte-leaves : (N : ℕ) (o : Option (Parsed ℕ)) → Leaves N o → Leaves N (after_byte rest o)
  unfolding after_byte
  byte-leaves N none p = tt
  byte-leaves N (some g) p =
      let t = tail g.rest in
      leaves-cond N (joins g.rest) _ _
      (up-leaves N g.value (read_member t) (leaves-more (length t) N (read_member t) (omega (arith, tail-le g.rest)) (member-leaves-any t)))
      (from-leaves N g.rest (range g.value g.value) p)

items-leaves : (k : ℕ) (first : Bool) (t : List ℕ) → Leaves (length t) (read_items k first t)
unfolding read_items
items-leaves zero first t = tt
items-leaves (suc k) first [] = tt
items-leaves (suc k) first (b ∷ t) =
    let N = length (b ∷ t) in
    leaves-cond N (not first && eqb b 93) (parsed [] t) _ (omega arith)
    (leaves-cond N (not first && eqb b 45) (last_hyphen t) _ (leaves-more (length t) N (last_hyphen t) (omega arith) (hyphen-leaves t))
    (byte-leaves (read_items k false) (items-leaves k false) N (read_member (b ∷ t)) (member-leaves-any (b ∷ t))))

bracket-of-leaves : (N : ℕ) (n : Bool) (o : Items) → Leaves N o → Leaves N (bracket_of n o)
unfolding bracket_of
bracket-of-leaves N n none p = tt
bracket-of-leaves N n (some g) p = p

pub bracket-leaves : (t : List ℕ) → Leaves (length t) (read_bracket t)
unfolding read_bracket
bracket-leaves t =
    leaves-cond (length t) (begins (94 ∷ []) t) _ _
    (bracket-of-leaves (length t) true _ (leaves-more (length (tail t)) (length t) (read_items (length t) true (tail t)) (tail-le t) (items-leaves (length t) true (tail t))))
    (bracket-of-leaves (length t) false _ (items-leaves (suc (length t)) true t))

only-leaves : (N : ℕ) (o : Option (Parsed ℕ)) → Leaves N o → Leaves N (only_byte o)
unfolding only_byte
only-leaves N none p = tt
only-leaves N (some g) p = p

pub atom-leaves : (b : ℕ) (t : List ℕ) → Leaves (length t) (read_atom b t)
unfolding read_atom
atom-leaves b t =
    let N = length t in
    leaves-cond N (eqb b 92) _ _ (only-leaves N (read_escape t) (escape-leaves t))
    (leaves-cond N (eqb b 46) (parsed any_byte t) _ (omega arith)
    (leaves-cond N (eqb b 91) (read_bracket t) _ (bracket-leaves t) (leaves-cond N (is_plain b) (parsed (only b) t) none (omega arith) tt)))

finished-leaves : (A S : Option (Ere Class)) (t : List ℕ) → Leaves (length t) (finished A S t)
unfolding finished
finished-leaves A none t = tt
finished-leaves A (some s) t = omega arith

module _ (rest : Rest) (h : (n : ℕ) (A S : Option (Ere Class)) (t : List ℕ) → Leaves (length t) (rest n A S t)) where
  within : (N n : ℕ) (A S : Option (Ere Class)) (t : List ℕ) → length t ≤ N → Leaves N (rest n A S t)
  within N n A S t l = leaves-more (length t) N (rest n A S t) l (h n A S t)

  repeated-leaves : (N n : ℕ) (A S : Option (Ere Class)) (e : Ere Class) (t : List ℕ) → length t ≤ N → Leaves N (repeated rest n A S e t)
  unfolding repeated
  repeated-leaves N n A S e t l =
      let m : length (tail t) ≤ N = omega (arith, tail-le t) in
      leaves-cond N (begins (42 ∷ []) t) _ _ (within N n A (some (and_then S (star e))) (tail t) m)
      (leaves-cond N (begins (43 ∷ []) t) _ _ (within N n A (some (and_then S (plus e))) (tail t) m)
      (leaves-cond N (begins (63 ∷ []) t) _ _ (within N n A (some (and_then S (opt e))) (tail t) m) (within N n A (some (and_then S e)) t l)))

  after-atom-leaves : (N n : ℕ) (A S : Option (Ere Class)) (o : Option (Parsed Class)) → Leaves N o → Leaves N (after_atom rest n A S o)
  unfolding after_atom
  after-atom-leaves N n A S none p = tt
  after-atom-leaves N n A S (some g) p = repeated-leaves N n A S (place g.value) g.rest p

  after-group-leaves : (N n : ℕ) (A S : Option (Ere Class)) (o : Tree) → Leaves N o → Leaves N (after_group rest n A S o)
  unfolding after_group
  after-group-leaves N n A S none p = tt
  after-group-leaves N n A S (some g) p =
      leaves-cond N (begins (41 ∷ []) g.rest) _ none (repeated-leaves N n A S g.value (tail g.rest) (omega (arith, tail-le g.rest))) tt

  bar-leaves : (n : ℕ) (A S : Option (Ere Class)) (t : List ℕ) → Leaves (length t) (after_bar rest n A S t)
  unfolding after_bar
  bar-leaves n A none t = tt
  bar-leaves n A (some s) t = h n (some (or_else A s)) none t

  group-leaves : (n : ℕ) (A S : Option (Ere Class)) (t : List ℕ) → Leaves (length t) (read_group rest n A S t)
  unfolding read_group
  group-leaves zero A S t = tt
  group-leaves (suc n) A S t = after-group-leaves (length t) (suc n) A S (rest n none none t) (h n none none t)

pub rest-leaves : (k n : ℕ) (A S : Option (Ere Class)) (t : List ℕ) → Leaves (length t) (read_rest k n A S t)
unfolding read_rest
rest-leaves zero n A S t = tt
rest-leaves (suc k) n A S [] = finished-leaves A S []
rest-leaves (suc k) n A S (b ∷ t) =
    let N = length (b ∷ t) in
    let r = read_rest k in
    let h = rest-leaves k in
    let up : (x : Tree) → Leaves (length t) x → Leaves N x = λ x p. leaves-more (length t) N x (omega arith) p in
    leaves-cond N (eqb b 41) (finished A S (b ∷ t)) _ (finished-leaves A S (b ∷ t))
    (leaves-cond N (eqb b 124) (after_bar r n A S t) _ (up (after_bar r n A S t) (bar-leaves r h n A S t))
    (leaves-cond N (eqb b 94) (r n A (some (and_then S bol)) t) _ (up (r n A (some (and_then S bol)) t) (h n A (some (and_then S bol)) t))
    (leaves-cond N (eqb b 36) (r n A (some (and_then S eol)) t) _ (up (r n A (some (and_then S eol)) t) (h n A (some (and_then S eol)) t))
    (leaves-cond N (eqb b 40) (read_group r n A S t) (after_atom r n A S (read_atom b t)) (up (read_group r n A S t) (group-leaves r h n A S t))
    (up (after_atom r n A S (read_atom b t)) (after-atom-leaves r h (length t) n A S (read_atom b t) (atom-leaves b t)))))))

-- ---- the turns do not matter

-- two readers agree on texts of at most N bytes
abbrev pub Agree : ℕ → Rest → Rest → Type 0
Agree N r q = (n : ℕ) (A S : Option (Ere Class)) (t : List ℕ) → length t ≤ N → r n A S t ≡ q n A S t

module _ (N : ℕ) (r q : Rest) (h : Agree N r q) where
  repeated-same : (n : ℕ) (A S : Option (Ere Class)) (e : Ere Class) (t : List ℕ) → length t ≤ N → repeated r n A S e t ≡ repeated q n A S e t
  unfolding repeated
  repeated-same n A S e t l =
      let m : length (tail t) ≤ N = omega (arith, tail-le t) in
      rw (h n A (some (and_then S (star e))) (tail t) m, h n A (some (and_then S (plus e))) (tail t) m, h n A (some (and_then S (opt e))) (tail t) m, h n A (some (and_then S e)) t l)

  pub after-atom-same : (n : ℕ) (A S : Option (Ere Class)) (o : Option (Parsed Class)) → Leaves N o → after_atom r n A S o ≡ after_atom q n A S o
  unfolding after_atom
  after-atom-same n A S none p = refl
  after-atom-same n A S (some g) p = repeated-same n A S (place g.value) g.rest p

  after-group-same : (n : ℕ) (A S : Option (Ere Class)) (o : Tree) → Leaves N o → after_group r n A S o ≡ after_group q n A S o
  unfolding after_group
  after-group-same n A S none p = refl
  after-group-same n A S (some g) p = rw (repeated-same n A S g.value (tail g.rest) (omega (arith, tail-le g.rest)))

  pub bar-same : (n : ℕ) (A S : Option (Ere Class)) (t : List ℕ) → length t ≤ N → after_bar r n A S t ≡ after_bar q n A S t
  unfolding after_bar
  bar-same n A none t l = refl
  bar-same n A (some s) t l = h n (some (or_else A s)) none t l

  pub group-same : (leaves : (n : ℕ) (A S : Option (Ere Class)) (t : List ℕ) → Leaves (length t) (q n A S t)) (n : ℕ) (A S : Option (Ere Class)) (t : List ℕ)
      → length t ≤ N → read_group r n A S t ≡ read_group q n A S t
  unfolding read_group
  group-same leaves zero A S t l = refl
  group-same leaves (suc n) A S t l =
      ap (after_group r (suc n) A S) (h n none none t l)
      ∙ after-group-same (suc n) A S (q n none none t) (leaves-more (length t) N (q n none none t) l (leaves n none none t))

pub rest-turns : (k m n : ℕ) (A S : Option (Ere Class)) (t : List ℕ) → length t < k → length t < m → read_rest k n A S t ≡ read_rest m n A S t
unfolding read_rest
rest-turns zero m n A S t hk hm = absurd (omega arith)
rest-turns (suc k) zero n A S t hk hm = absurd (omega arith)
rest-turns (suc k) (suc m) n A S [] hk hm = refl
rest-turns (suc k) (suc m) n A S (b ∷ t) hk hm =
    let N = length t in
    let h : Agree N (read_rest k) (read_rest m) = λ n' A' S' u l. rest-turns k m n' A' S' u (omega arith) (omega arith) in
    rw (
      bar-same N (read_rest k) (read_rest m) h n A S t (omega arith),
      h n A (some (and_then S bol)) t (omega arith),
      h n A (some (and_then S eol)) t (omega arith),
      group-same N (read_rest k) (read_rest m) h (rest-leaves m) n A S t (omega arith),
      after-atom-same N (read_rest k) (read_rest m) h n A S (read_atom b t) (atom-leaves b t),
    )
