-- Laws on parts of a list, and on lists with a part replaced.
use mathlib.Core.Path.{◌≡◌, refl, sym, ap, ap₂, ◌∙◌}
use mathlib.Core.List.{List, [], ◌∷◌, ◌++◌, append_assoc, append-nil}
use Prim.Native.Nat.{ℕ, zero, suc, ◌+◌, ◌-◌, ◌≤◌, ◌<◌}
use native.Mathlib.Nat.{add_assoc, add-suc}
use native.Mathlib.Numerals.{add-one}
use native.Mathlib.Omega.{arith}
use lib.ListN.{length, take, drop, get_or, set, length-append, length-take, length-drop, take-append-drop, drop_of_length-le, get_or-append}
use lib.Seq.{length-take-le, take-length, take_all, take-take, drop-drop, take-add, take_at, drop_at, take-append_seam, drop-append-le, drop-cons, take-suc, get_or-take, get_or-drop, set_split, sets, sets-eq, paste-zero}
use Rattle.buffer.specs.Parts.{part, put}

-- ---- parts

pub length_part : (a n : ℕ) (l : List ℕ) → a + n ≤ length l → length (part a n l) ≡ n
unfolding part
length_part a n l h = simp (length-take, length-drop) (omega arith)

pub get_d_part : (a n : ℕ) (l : List ℕ) (k : ℕ) → k < n → get_or (part a n l) k 0 ≡ get_or l (a + k) 0
unfolding part
get_d_part a n l k h = rw (get_or-take, get_or-drop)

pub part-all : (l : List ℕ) → part 0 (length l) l ≡ l
unfolding part
part-all l = take-length l

-- what is left at index k: the element there, and what is left after it
pub drop-next : (l : List ℕ) (k : ℕ) → k < length l → drop k l ≡ get_or l k 0 ∷ drop (k + 1) l
drop-next l k h = rw (add-one, drop-cons l k 0)

-- a part is a first part and the one right after it
pub part-add : (a n m : ℕ) (l : List ℕ) → part a (n + m) l ≡ part a n l ++ part (a + n) m l
unfolding part
part-add a n m l = take-add n m (drop a l) ∙ ap (λ (d : List ℕ). take n (drop a l) ++ take m d) (drop-drop n a l)

-- a part of the first n elements is that part of the list
pub part-take : (k m n : ℕ) (l : List ℕ) → k + m ≤ n → part k m (take n l) ≡ part k m l
unfolding part
part-take zero m n l h = take-take m n l (omega arith)
part-take (suc k) m zero l h = absurd (omega arith)
part-take (suc k) m (suc n) [] h = refl
part-take (suc k) m (suc n) (x ∷ l) h = part-take k m n l (omega arith)

-- a part of a part
pub part-part : (l : List ℕ) (a n k m : ℕ) → k + m ≤ n → part k m (part a n l) ≡ part (a + k) m l
unfolding part
part-part l a n k m h = part-take k m n (drop a l) h ∙ ap (take m) (drop-drop k a l)

-- what is before a part with the part's front, and the part's rest with what comes after it
take_part : (l : List ℕ) (a n m : ℕ) → m ≤ n → take a l ++ take m (part a n l) ≡ take (a + m) l
unfolding part
take_part l a n m h = ap (λ (x : List ℕ). take a l ++ x) (take-take m n (drop a l) h) ∙ sym (take-add a m l)

drop-part : (l : List ℕ) (a n m : ℕ) → m ≤ n → a + n ≤ length l → drop m (part a n l) ++ drop (a + n) l ≡ drop (a + m) l
unfolding part
drop-part l a n m h fits =
    ap (λ (x : List ℕ). drop m (take n (drop a l)) ++ x) (sym (drop-drop n a l))
    ∙ sym (drop-append-le m (take n (drop a l)) (drop n (drop a l)) (simp (length-take, length-drop) (omega arith)))
    ∙ ap (drop m) (take-append-drop n (drop a l))
    ∙ drop-drop m a l

-- ---- a list with b from index a on: what is before, in and after b

module _ (l : List ℕ) (a : ℕ) (b : List ℕ) (fits : a + length b ≤ length l) where
  length_before : length (take a l) ≡ a
  length_before = length-take-le a l (omega arith)

  length-through : length (take a l ++ b) ≡ a + length b
  length-through = length-append (take a l) b ∙ ap (λ (n : ℕ). n + length b) length_before

  pub length-put : length (put l a b) ≡ length l
  unfolding put
  length-put = simp (length-append, length-take, length-drop) (omega arith)

  pub take_put : take a (put l a b) ≡ take a l
  unfolding put
  take_put = rw append_assoc (take_at (take a l) (b ++ drop (a + length b) l) a length_before)

  pub drop-put : drop a (put l a b) ≡ b ++ drop (a + length b) l
  unfolding put
  drop-put = rw append_assoc (drop_at (take a l) (b ++ drop (a + length b) l) a length_before)

  pub take-put-through : take (a + length b) (put l a b) ≡ take a l ++ b
  unfolding put
  take-put-through = take_at (take a l ++ b) (drop (a + length b) l) (a + length b) length-through

  pub drop-put-behind : drop (a + length b) (put l a b) ≡ drop (a + length b) l
  unfolding put
  drop-put-behind = drop_at (take a l ++ b) (drop (a + length b) l) (a + length b) length-through

  pub get_d-put-below : (k : ℕ) → k < a → get_or (put l a b) k 0 ≡ get_or l k 0
  get_d-put-below k h = sym (get_or-take a (put l a b) k 0 h) ∙ ap (λ (x : List ℕ). get_or x k 0) take_put ∙ get_or-take a l k 0 h

  pub get_d-put-in : (k : ℕ) → k < length b → get_or (put l a b) (a + k) 0 ≡ get_or b k 0
  get_d-put-in k h =
      sym (get_or-drop a (put l a b) k 0)
      ∙ ap (λ (x : List ℕ). get_or x k 0) drop-put
      ∙ get_or-append b (drop (a + length b) l) 0 k h

  pub drop-put-above : (k : ℕ) → a + length b ≤ k → drop k (put l a b) ≡ drop k l
  drop-put-above k h =
      let m = a + length b in
      let e : m + (k - m) ≡ k = omega arith in
      let cut : (x : List ℕ) → drop (k - m) (drop m x) ≡ drop k x = λ x. drop-drop (k - m) m x ∙ ap (λ (n : ℕ). drop n x) e in
      sym (cut (put l a b)) ∙ ap (drop (k - m)) drop-put-behind ∙ cut l

  pub get_d-put-above : (k : ℕ) → a + length b ≤ k → get_or (put l a b) k 0 ≡ get_or l k 0
  get_d-put-above k h =
      let e : k + 0 ≡ k = omega arith in
      let read : (x : List ℕ) → get_or (drop k x) 0 0 ≡ get_or x k 0 = λ x. get_or-drop k x 0 0 ∙ ap (λ (n : ℕ). get_or x n 0) e in
      sym (read (put l a b)) ∙ ap (λ (x : List ℕ). get_or x 0 0) (drop-put-above k h) ∙ read l

  pub part-put-same : part a (length b) (put l a b) ≡ b
  unfolding part
  part-put-same = ap (take (length b)) drop-put ∙ take-append_seam b (drop (a + length b) l)

  pub part-put-below : (i n : ℕ) → i + n ≤ a → part i n (put l a b) ≡ part i n l
  part-put-below i n h = sym (part-take i n a (put l a b) h) ∙ ap (part i n) take_put ∙ part-take i n a l h

  pub part-put-above : (i n : ℕ) → a + length b ≤ i → part i n (put l a b) ≡ part i n l
  unfolding part
  part-put-above i n h = ap (take n) (drop-put-above i h)

  -- of two lists of one length at the same place, the second stays
  pub put-put : (c : List ℕ) → length c ≡ length b → put (put l a b) a c ≡ put l a c
  unfolding put
  put-put c e =
      ap₂ (λ (x y : List ℕ). x ++ c ++ y) take_put
      (ap (λ (n : ℕ). drop (a + n) (put l a b)) e ∙ drop-put-behind ∙ ap (λ (n : ℕ). drop (a + n) l) (sym e))

-- ---- lists that are put piece by piece

-- a part, with b put right after it
pub part-more : (l : List ℕ) (a n : ℕ) (b : List ℕ) → a + n + length b ≤ length l → part a (n + length b) (put l (a + n) b) ≡ part a n l ++ b
part-more l a n b h =
    part-add a n (length b) (put l (a + n) b)
    ∙ ap₂ ◌++◌ (part-put-below l (a + n) b h a n (omega arith)) (part-put-same l (a + n) b h)

pub put-none : (l : List ℕ) (a : ℕ) → l ≡ put l a []
unfolding put
put-none l a = paste-zero l a []

pub put_all : (l b : List ℕ) → length b ≡ length l → put l 0 b ≡ b
unfolding put
put_all l b e =
    ap (λ (r : List ℕ). b ++ r) (drop_of_length-le l {i = 0 + length b} (omega arith)) ∙ append-nil b

-- c right after b
pub put-append : (l : List ℕ) (a : ℕ) (b c : List ℕ) → a + length b + length c ≤ length l
    → put (put l a b) (a + length b) c ≡ put l a (b ++ c)
unfolding put
put-append l a b c h =
    let e : a + length b + length c ≡ a + length (b ++ c) = simp length-append (omega arith) in
    ap₂ (λ (x y : List ℕ). x ++ c ++ y) (take-put-through l a b (omega arith))
    (sym (drop-drop (length c) (a + length b) (put l a b))
    ∙ ap (drop (length c)) (drop-put-behind l a b (omega arith))
    ∙ drop-drop (length c) (a + length b) l
    ∙ ap (λ (n : ℕ). drop n l) e)
    ∙ ap (λ (x : List ℕ). x ++ drop (a + length (b ++ c)) l) (append_assoc (take a l) b c)

-- b right before c
pub put-prepend : (l : List ℕ) (a : ℕ) (b c : List ℕ) → a + length b + length c ≤ length l
    → put (put l (a + length b) c) a b ≡ put l a (b ++ c)
unfolding put
put-prepend l a b c h =
    let e : a + length b + length c ≡ a + length (b ++ c) = simp length-append (omega arith) in
    let p : List ℕ = put l (a + length b) c in
    ap₂ (λ (x y : List ℕ). x ++ b ++ y)
    (sym (take-take a (a + length b) p (omega arith)) ∙ ap (take a) (take_put l (a + length b) c h) ∙ take-take a (a + length b) l (omega arith))
    (drop-put l (a + length b) c h ∙ ap (λ (n : ℕ). c ++ drop n l) e)
    ∙ (simp append_assoc)

-- a store is a list of one element put
pub put_one : (l : List ℕ) (a x : ℕ) → a < length l → set l a x ≡ put l a (x ∷ [])
unfolding put
put_one l a x h = set_split l a x h ∙ rw (append_assoc, add-one)

-- one more element at the end of a front that is copied upward
pub put-more : (l : List ℕ) (a : ℕ) (s : List ℕ) (k : ℕ) → a + k < length l → k < length s
    → set (put l a (take k s)) (a + k) (get_or s k 0) ≡ put l a (take (k + 1) s)
put-more l a s k h hs =
    let b : List ℕ = take k s in
    let e : length b ≡ k = length-take-le k s (omega arith) in
    let x : List ℕ = get_or s k 0 ∷ [] in
    put_one (put l a b) (a + k) (get_or s k 0) (omega (arith, length-put l a b (omega arith)))
    ∙ ap (λ (n : ℕ). put (put l a b) (a + n) x) (sym e)
    ∙ put-append l a b x (omega arith)
    ∙ ap (put l a) (rw (add-one, take-suc s k 0))

-- the same for a loop whose list x is l with the first k elements of s copied: a store of the next one, and the end
pub copied_more : (l : List ℕ) (a : ℕ) (s : List ℕ) (k : ℕ) {x : List ℕ} {v : ℕ} → a + k < length l → k < length s
    → x ≡ put l a (take k s) → v ≡ get_or s k 0 → set x (a + k) v ≡ put l a (take (k + 1) s)
copied_more l a s k h hs e f = ap₂ (λ (y : List ℕ) (w : ℕ). set y (a + k) w) e f ∙ put-more l a s k h hs

pub copied_all : (l : List ℕ) (a : ℕ) (s : List ℕ) (k : ℕ) {x : List ℕ} → x ≡ put l a (take k s) → length s ≤ k → x ≡ put l a s
copied_all l a s k e h = e ∙ ap (put l a) (take_all k s h)

-- one more element at the front of a tail that is copied downward
pub put-down : (l : List ℕ) (a : ℕ) (b : List ℕ) (k : ℕ) → a + length b ≤ length l → k < length b
    → set (put l (a + (k + 1)) (drop (k + 1) b)) (a + k) (get_or b k 0) ≡ put l (a + k) (drop k b)
put-down l a b k h hk =
    let t : List ℕ = drop (k + 1) b in
    let e : length t ≡ length b - (k + 1) = length-drop (k + 1) b in
    let x : List ℕ = get_or b k 0 ∷ [] in
    put_one (put l (a + (k + 1)) t) (a + k) (get_or b k 0) (omega (arith, length-put l (a + (k + 1)) t (omega arith)))
    ∙ ap (λ (n : ℕ). put (put l n t) (a + k) x) (sym (add_assoc a k 1))
    ∙ put-prepend l (a + k) x t (omega arith)
    ∙ ap (put l (a + k)) (sym (drop-next b k hk))

-- b put into a part that is put back is b put
pub put-in-part : (l : List ℕ) (a n i : ℕ) (b : List ℕ) → a + n ≤ length l → i + length b ≤ n
    → put l a (put (part a n l) i b) ≡ put l (a + i) b
unfolding put
put-in-part l a n i b h hi =
    let p : List ℕ = part a n l in
    let ep : length p ≡ n = length_part a n l h in
    let e : length (put p i b) ≡ n = length-put p i b (omega arith) ∙ ep in
    ap (λ (k : ℕ). take a l ++ put p i b ++ drop (a + k) l) e
    ∙ (simp append_assoc)
    ∙ ap₂ (λ (x y : List ℕ). x ++ (b ++ y)) (take_part l a n i (omega arith)) (drop-part l a n (i + length b) (omega arith) h)
    ∙ ap (λ (k : ℕ). take (a + i) l ++ (b ++ drop k l)) (sym (add_assoc a i (length b)))
    ∙ sym (append_assoc (take (a + i) l) b (drop (a + i + length b) l))

-- ---- stores at an index and at the ones after it

-- vs stored at a + i, a + (i + 1) and so on: on a list that is written out, the stores themselves
abbrev pub stores_at : List ℕ → ℕ → ℕ → List ℕ → List ℕ
stores_at l a i [] = l
stores_at l a i (x ∷ vs) = stores_at (set l (a + i) x) a (suc i) vs

stores-sets : (vs l : List ℕ) (a i : ℕ) → stores_at l a i vs ≡ sets l (a + i) vs
stores-sets [] l a i = refl
stores-sets (x ∷ vs) l a i =
    stores-sets vs (set l (a + i) x) a (suc i) ∙ ap (λ (n : ℕ). sets (set l (a + i) x) n vs) (add-suc a i)

-- a store at a and those after it put their elements at a
pub put-stores : (x : ℕ) (vs l : List ℕ) (a : ℕ) → a + length (x ∷ vs) ≤ length l → stores_at (set l a x) a 1 vs ≡ put l a (x ∷ vs)
unfolding put
put-stores x vs l a h =
    stores-sets vs (set l a x) a 1 ∙ ap (λ (n : ℕ). sets (set l a x) n vs) (add-one a) ∙ sets-eq (x ∷ vs) l a h
