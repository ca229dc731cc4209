-- Parts of a list that were lent, and lists to which such a part came back, as `part` and `put`.
use mathlib.Core.Path.{◌≡◌, refl, sym, ap, ◌∙◌}
use mathlib.Core.List.{List, ◌++◌, append_assoc}
use Prim.Native.Nat.{ℕ, ◌+◌, ◌-◌, ◌≤◌}
use native.Mathlib.Nat.{add-zero, zero-add}
use native.Mathlib.Omega.{arith}
use lib.ListN.{length, take, drop, length-take, length-drop}
use lib.Seq.{drop-drop, take_all}
use borrow.Rule.Slice.PartMut.{put_mid, mid_of}
use Rattle.buffer.specs.Parts.{part, put}
use Rattle.buffer.proofs.Parts.{length_part, length-put, put-in-part}

-- ---- what is lent

-- `&l[a..e]` of n elements
pub part-lent : (l : List ℕ) (a e n : ℕ) → e ≡ a + n → mid_of a (e - a) l ≡ part a n l
unfolding part
part-lent l a e n h =
    let k : e - a ≡ n = omega arith in
    ap (λ (m : ℕ). take m (drop a l)) k

-- `&l[a..]`
pub tail-lent : (l : List ℕ) (a : ℕ) → mid_of a (length l - a) l ≡ drop a l
tail-lent l a = take_all (length l - a) (drop a l) (rw length-drop (omega arith))

-- `&l[..n]`
pub front-lent : (l : List ℕ) (n : ℕ) → take n l ≡ part 0 n l
unfolding part
front-lent l n = refl

-- ---- what came back: b, as long as what was lent

-- of length k
pub put-mid : (l : List ℕ) (a k : ℕ) (b : List ℕ) → length b ≡ k → put_mid a k l b ≡ put l a b
unfolding put
put-mid l a k b h =
    sym (append_assoc (take a l) b (drop k (drop a l)))
    ∙ ap (λ (r : List ℕ). take a l ++ b ++ r) (drop-drop k a l ∙ ap (λ (n : ℕ). drop (a + n) l) (sym h))

-- from `&mut l[a..e]`, with k the difference, and from `&mut l[a..]`, with k the rest of the length
pub part-came : (l : List ℕ) (a k : ℕ) (b : List ℕ) → a + k ≤ length l → length b ≡ length (mid_of a k l) → put_mid a k l b ≡ put l a b
part-came l a k b h kept = put-mid l a k b (omega (arith, simp (length-take, length-drop) at kept))

-- from `&mut l[..n]`
pub front-came : (l : List ℕ) (n : ℕ) (b : List ℕ) → n ≤ length l → length b ≡ length (take n l) → b ++ drop n l ≡ put l 0 b
unfolding put
front-came l n b h kept =
    let e : n ≡ 0 + length b = omega (arith, simp length-take at kept) in
    ap (λ (m : ℕ). b ++ drop m l) e

-- ---- what came back: x, the part that was lent with b put into it

-- from `&mut l[a..e]` and `&mut l[a..]`, with b at index i of the part
pub part-came-put : (l : List ℕ) (a k i : ℕ) (b : List ℕ) {x : List ℕ} → a + k ≤ length l → i + length b ≤ k
    → x ≡ put (mid_of a k l) i b → put_mid a k l x ≡ put l (a + i) b
unfolding part
part-came-put l a k i b h hi e =
    let f : length (mid_of a k l) ≡ k = length_part a k l h in
    ap (put_mid a k l) e
    ∙ put-mid l a k (put (mid_of a k l) i b) (length-put (mid_of a k l) i b (omega arith) ∙ f)
    ∙ put-in-part l a k i b h hi

-- the same with b at the front of the part
pub part-came-front : (l : List ℕ) (a k : ℕ) (b : List ℕ) {x : List ℕ} → a + k ≤ length l → length b ≤ k
    → x ≡ put (mid_of a k l) 0 b → put_mid a k l x ≡ put l a b
part-came-front l a k b h hi e = part-came-put l a k 0 b h (omega arith) e ∙ ap (λ (m : ℕ). put l m b) (add-zero a)

-- from `&mut l[..n]`, with b at index i
pub front-came-put : (l : List ℕ) (n i : ℕ) (b : List ℕ) {x : List ℕ} → n ≤ length l → i + length b ≤ n
    → x ≡ put (take n l) i b → x ++ drop n l ≡ put l i b
front-came-put l n i b h hi e =
    ap (λ (y : List ℕ). y ++ drop n l) e
    ∙ part-came-put l 0 n i b (omega arith) hi refl
    ∙ ap (λ (m : ℕ). put l m b) (zero-add i)
