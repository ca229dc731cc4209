-- What was read as an image is its parts, one after the other, and nothing after them.
use mathlib.Core.Path.{◌≡◌, refl, sym, ap, ◌∙◌}
use mathlib.Core.Bool.{Bool, true, false, cond}
use mathlib.Core.List.{List}
use mathlib.Core.Option.{Option, some, none}
use Prim.Native.Nat.{ℕ}
use lib.ListN.{length, drop}
use lib.Dec.{eqb}
use borrow.Author.Tests.{eq-eqb, eqb-true}
use Rattle.lists.proofs.Many.{same_item, same_left}
use Rattle.lists.proofs.Options.{some_one, none-some}
use Rattle.lists.specs.Parsing.{Parsed, parsed, Parser, bind}
use Rattle.image_format.specs.Image.{Constant, Instruction, Image, known}
use Rattle.image_format.specs.Numbers.{take_number}
use Rattle.image_format.specs.Reading.{from_bytes, word_up_to, counted, constant, instruction, parts, ended, read_image}
use Rattle.varint.specs.Take.{TakesAt}
use Rattle.std.specs.Prelude.{Some}
use Rattle.image_items.proofs.Standing.{never}
use Rattle.image_items.specs.Header.{ListsIn, IsHeader}

-- what was taken in two steps
bind-some : {A B : Type 0} (f : A → Parser B) (g : Parsed B) (o : Option (Parsed A)) → bind o f ≡ some g
    → (a : Parsed A) × (o ≡ some a) × (f a.value a.rest ≡ some g)
bind-some f g none h = absurd (none-some h)
bind-some f g (some a) h = (a, refl, h)

-- the number of users, and the lists
abbrev PartsIn : Image → List ℕ → Type 0
PartsIn i l = (t : List ℕ) × (take_number l ≡ parsed i.users t) × (ListsIn i t)

-- the edition, which is known, and the other parts
abbrev ImageIn : Image → List ℕ → Type 0
ImageIn i l = (t : List ℕ) × (take_number l ≡ parsed i.edition t) × (known i.edition ≡ true) × (PartsIn i t)

module _ (e : ℕ) (l : List ℕ) (g : Parsed Image) (last : length g.rest ≡ 0) where
  -- by what was taken of each part
  parts-made : (u : Parsed ℕ) → take_number l ≡ some u → (c : Parsed (List Constant)) → counted from_bytes (constant from_bytes) u.rest ≡ some c
      → (x : Parsed (List (List ℕ))) → counted from_bytes (counted from_bytes (word_up_to 255)) c.rest ≡ some x
      → (b : Parsed (List Instruction)) → counted from_bytes (instruction from_bytes e) x.rest ≡ some b
      → (r : Parsed (List Instruction)) → counted from_bytes (instruction from_bytes e) b.rest ≡ some r
      → (n : Parsed (List Instruction)) → counted from_bytes (instruction from_bytes e) r.rest ≡ some n
      → parsed (record { edition = e; users = u.value; constants = c.value; eres = x.value; begin = b.value; main = r.value; end = n.value }) n.rest ≡ some g
      → (e ≡ g.value.edition) × (PartsIn g.value l)
  parts-made u tu c tc x tx b tb r tr n tn h =
      let end : length n.rest ≡ 0 = ap (λ (q : Parsed Image). length q.rest) (some_one refl h) ∙ last in
      rw (← (some_one refl h))
      (refl, (u.rest, tu, (c.rest, tc, (x.rest, tx, (b.rest, tb, (r.rest, tr, (n.rest, tn, end)))))))

  parts-some : parts from_bytes e l ≡ some g → (e ≡ g.value.edition) × (PartsIn g.value l)
  parts-some h =
      let u = bind-some _ g (take_number l) h in
      let c = bind-some _ g (counted from_bytes (constant from_bytes) u.0.rest) u.2 in
      let x = bind-some _ g (counted from_bytes (counted from_bytes (word_up_to 255)) c.0.rest) c.2 in
      let b = bind-some _ g (counted from_bytes (instruction from_bytes e) x.0.rest) x.2 in
      let r = bind-some _ g (counted from_bytes (instruction from_bytes e) b.0.rest) b.2 in
      let n = bind-some _ g (counted from_bytes (instruction from_bytes e) r.0.rest) r.2 in
      parts-made u.0 u.1 c.0 c.1 x.0 x.1 b.0 b.1 r.0 r.1 n.0 n.1 n.2

-- nothing follows an image, and its edition is known
ended_some : (o : Option (Parsed Image)) (i : Image) → ended from_bytes o ≡ some i → (g : Parsed Image) × (o ≡ some g) × (g.value ≡ i) × (length g.rest ≡ 0)
ended_some none i h = absurd (none-some h)
ended_some (some g) i h = by (eqb (length g.rest) 0) refl h
  where
    by : (b : Bool) → eqb (length g.rest) 0 ≡ b → cond b (some g.value) none ≡ some i
        → (q : Parsed Image) × (some g ≡ some q) × (q.value ≡ i) × (length q.rest ≡ 0)
    by true e h = (g, refl, some_one refl h, eqb-true _ _ e)
    by false e h = absurd (none-some h)

known_some : (b : Bool) (o : Option (Parsed Image)) (g : Parsed Image) → cond b o none ≡ some g → (b ≡ true) × (o ≡ some g)
known_some true o g h = (refl, h)
known_some false o g h = absurd (none-some h)

read_some : (l : List ℕ) (i : Image) → read_image from_bytes l ≡ some i → ImageIn i l
unfolding read_image
read_some l i h =
    let d = ended_some _ i h in
    let e = bind-some _ d.0 (take_number l) d.1 in
    let k = known_some (known e.0.value) (parts from_bytes e.0.value e.0.rest) d.0 e.2 in
    let p = parts-some e.0.value e.0.rest d.0 d.3 k.1 in
    rw (← d.2) (e.0.rest, e.1 ∙ ap (λ (n : ℕ). parsed n e.0.rest) p.0, ap known (sym p.0) ∙ k.0, p.1)

-- and what is so laid out is read
pub read_made : (l : List ℕ) (i : Image) → ImageIn i l → read_image from_bytes l ≡ some i
unfolding read_image
read_made l i (t, te, k, (t1, tu, (t2, tc, (t3, tx, (t4, tb, (t5, tr, (t6, tn, z))))))) =
    rw (te, k, tu, tc, tx, tb, tr, tn, eq-eqb _ _ z)

-- what was taken is one thing, and leaves one thing
pub taken-same : {A : Type 0} {o : Option (Parsed A)} {a b : A} {s t : List ℕ} → o ≡ parsed a s → o ≡ parsed b t → (a ≡ b) × (s ≡ t)
taken-same p q = (same_item p q, same_left p q)

-- ---- the numbers before the lists

module _ (l : List ℕ) where
  pub edition-missing : take_number l ≡ none → (i : Image) → read_image from_bytes l ≡ some i → ⊥
  edition-missing m i r = none-some (sym m ∙ (read_some l i r).1)

  module _ (edition behind : ℕ) (x : TakesAt l 0 (Some (edition, behind))) where
    pub edition-unknown : known edition ≡ false → (i : Image) → read_image from_bytes l ≡ some i → ⊥
    edition-unknown n i r =
        let p = read_some l i r in
        never n (ap known (taken-same x.0 p.1).0 ∙ p.2)

    pub users-missing : take_number (drop behind l) ≡ none → (i : Image) → read_image from_bytes l ≡ some i → ⊥
    users-missing m i r =
        let p = read_some l i r in
        let same = taken-same x.0 p.1 in
        none-some (sym m ∙ ap take_number same.1 ∙ p.3.1)

    pub header-there : known edition ≡ true → (users at : ℕ) → TakesAt l behind (Some (users, at))
        → IsHeader l (record { edition = edition; users = users; at = at })
    header-there k users at y =
        record {
          found = λ i r.
              let p = read_some l i r in
              let first = taken-same x.0 p.1 in
              let second = taken-same y.0 (ap take_number first.1 ∙ p.3.1) in
              (first.0, second.0, rw second.1 p.3.2);
          inside = y.2;
          there = (drop behind l, x.0, k, y.0);
        }
