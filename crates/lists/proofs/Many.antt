-- Laws on n items that are read one after the other.
use mathlib.Core.Path.{◌≡◌, refl, sym, ap, subst, ◌∙◌}
use mathlib.Core.List.{List, [], ◌∷◌, ◌++◌}
use mathlib.Core.Option.{Option, some, none}
use Prim.Native.Nat.{ℕ, zero, suc, ◌<◌}
use native.Mathlib.Omega.{arith}
use lib.ListN.{length}
use Rattle.lists.specs.Elements.{Every, cons}
use Rattle.lists.specs.Parsing.{Parsed, parsed, Parser, bind, succeed, many}
use Rattle.lists.proofs.Options.{some_one, none-some}

-- what follows goes by what was taken
pub on : {A B : Type 0} (f : A → Parser B) {o p : Option (Parsed A)} → o ≡ p → bind o f ≡ bind p f
on {A} f e = ap (λ (o : Option (Parsed A)). bind o f) e

-- what was taken is one thing, and so is what is left
pub same_item : {A : Type 0} {o : Option (Parsed A)} {a b : A} {s t : List ℕ} → o ≡ parsed a s → o ≡ parsed b t → a ≡ b
same_item {A} p q = ap (λ (g : Parsed A). g.value) (some_one p q)

pub same_left : {A : Type 0} {o : Option (Parsed A)} {a b : A} {s t : List ℕ} → o ≡ parsed a s → o ≡ parsed b t → s ≡ t
same_left {A} p q = ap (λ (g : Parsed A). g.rest) (some_one p q)

module _ {A : Type 0} (one : Parser A) where
  -- the first item and the others
  record Split (n : ℕ) (l : List ℕ) (xs : List A) (t : List ℕ) : Type 0 where
    first : A
    rest : List A
    left : List ℕ
    taken : one l ≡ parsed first left
    others : many one n left ≡ parsed rest t
    same : xs ≡ first ∷ rest

  split : (n : ℕ) (l : List ℕ) (xs : List A) (t : List ℕ) → many one (suc n) l ≡ parsed xs t → Split n l xs t
  unfolding many
  split n l xs t e = by (one l) refl e
    where
      inner : (g : Parsed A) → one l ≡ some g → (m : Option (Parsed (List A))) → many one n g.rest ≡ m → bind m (λ rest. succeed (g.value ∷ rest)) ≡ parsed xs t → Split n l xs t
      inner g p none q e = absurd (none-some e)
      inner g p (some h) q e =
          let o = parsed (g.value ∷ h.value) h.rest in
          record {
            first = g.value;
            rest = h.value;
            left = g.rest;
            taken = p;
            others = q ∙ ap (parsed h.value) (same_left {o = o} refl e);
            same = sym (same_item {o = o} refl e);
          }

      by : (o : Option (Parsed A)) → one l ≡ o → bind o (λ a l. bind (many one n l) (λ rest. succeed (a ∷ rest))) ≡ parsed xs t → Split n l xs t
      by none p e = absurd (none-some e)
      by (some g) p e = inner g p (many one n g.rest) refl e

  -- as many as were asked for
  pub many-length : (n : ℕ) (l : List ℕ) (xs : List A) (t : List ℕ) → many one n l ≡ parsed xs t → length xs ≡ n
  unfolding many
  many-length zero l xs t e = sym (ap length (same_item {o = parsed [] l} refl e))
  many-length (suc n) l xs t e =
      let s = split n l xs t e in
      ap length s.same ∙ ap suc (many-length n s.left s.rest t s.others)

  -- one more after them
  pub many_more : (n : ℕ) (l : List ℕ) (xs : List A) (t : List ℕ) → many one n l ≡ parsed xs t → (a : A) (u : List ℕ) → one t ≡ parsed a u
      → many one (suc n) l ≡ parsed (xs ++ (a ∷ [])) u
  unfolding many
  many_more zero l xs t e a u h =
      on (λ b r. bind (many one 0 r) (λ rest. succeed (b ∷ rest))) (ap one (same_left {o = parsed [] l} refl e) ∙ h)
      ∙ ap (λ (x : List A). parsed (x ++ (a ∷ [])) u) (same_item {o = parsed [] l} refl e)
  many_more (suc n) l xs t e a u h =
      let s = split n l xs t e in
      on (λ b r. bind (many one (suc n) r) (λ rest. succeed (b ∷ rest))) s.taken
      ∙ on (λ rest. succeed (s.first ∷ rest)) (many_more n s.left s.rest t s.others a u h)
      ∙ ap (λ (x : List A). parsed (x ++ (a ∷ [])) u) (sym s.same)

  -- where fewer than could be taken were taken, the next one is there, and has what each has
  pub many-next : (P : A → Type 0) (k n : ℕ) → k < n → (l : List ℕ) (xs ys : List A) (t u : List ℕ) → many one k l ≡ parsed xs u → many one n l ≡ parsed ys t → Every P ys
      → (a : A) × (v : List ℕ) × (one u ≡ parsed a v) × (P a)
  unfolding many
  many-next P k zero h l xs ys t u e f all = absurd (omega arith)
  many-next P zero (suc n) h l xs ys t u e f all =
      let s = split n l ys t f in
      (s.first, s.left, ap one (sym (same_left {o = parsed [] l} refl e)) ∙ s.taken, first-has (subst (Every P) s.same all))
    where
      first-has : {a : A} {l : List A} → Every P (a ∷ l) → P a
      first-has (cons x y) = x
  many-next P (suc k) (suc n) h l xs ys t u e f all =
      let s = split k l xs u e in
      let r = split n l ys t f in
      many-next P k n (omega arith) s.left s.rest r.rest t u s.others (ap (many one n) (same_left s.taken r.taken) ∙ r.others) (others-have (subst (Every P) r.same all))
    where
      others-have : {a : A} {l : List A} → Every P (a ∷ l) → Every P l
      others-have (cons x y) = y
