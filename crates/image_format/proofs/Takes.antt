-- What it is for a reader and a writer to agree, and that agreement goes over from parts to the whole.
use mathlib.Core.Path.{◌≡◌, refl, ap}
use mathlib.Core.List.{List, [], ◌∷◌, ◌++◌, append_assoc}
use mathlib.Core.Option.{Option, some, none}
use Prim.Native.Nat.{ℕ, zero, suc}
use native.Mathlib.Omega.{arith}
use lib.ListN.{length}
use Rattle.lists.proofs.Options.{some_one, none-some}
use Rattle.lists.specs.Elements.{Every, empty, cons}
use Rattle.lists.specs.Parsing.{Parsed, parsed, Parser, bind, succeed, many}
use Rattle.image_format.specs.Writing.{all}

-- what was taken off the front of a list is one of those with P, and stood there as w writes it
abbrev pub Taken : {A : Type 0} → (A → Type 0) → (A → List ℕ) → List ℕ → Parsed A → Type 0
Taken P w l g = (P g.value) × (l ≡ w g.value ++ g.rest)

-- p takes exactly what w writes, of those a with P a
pub record Takes {A : Type 0} (p : Parser A) (P : A → Type 0) (w : A → List ℕ) : Type 0 where
  pub back : (a : A) → P a → (l : List ℕ) → p (w a ++ l) ≡ parsed a l
  pub only : (l : List ℕ) (g : Parsed A) → p l ≡ some g → Taken P w l g

-- the same condition and the same writer, said in another way
pub same : {A : Type 0} {p : Parser A} {P Q : A → Type 0} {v w : A → List ℕ} → Takes p P v → ((a : A) → P a → Q a) → ((a : A) → Q a → P a)
    → ((a : A) → Q a → v a ≡ w a) → Takes p Q w
same {A} {p} {P} {Q} {v} {w} t into out e = record {
  back = λ a q l. rw (e a q) at (t.back a (out a q) l);
  only = λ l g h.
      let x = t.only l g h in
      let q = into g.value x.0 in
      (q, rw (e g.value q) at x.1);
}

-- nothing, where there is nothing to take
pub nothing-takes : {A : Type 0} {p : Parser A} {P : A → Type 0} {w : A → List ℕ} → ((l : List ℕ) → p l ≡ none) → ((a : A) → P a → ⊥) → Takes p P w
nothing-takes e h = record { back = λ a k l. absurd (h a k); only = λ l g k. absurd (none-some (rw (e l) at k)) }

-- One thing a, and then, by what a is, something b that a can be told from. K is what is already known of b.
module _ {A B : Type 0} {p : Parser A} {P : A → Type 0} {w : A → List ℕ} (first : B → A) (K : B → Type 0) where
  pub bind-takes : {f : A → Parser B} {Q : B → Type 0} {v : B → List ℕ} → Takes p P w
      → ((a : A) → P a → Takes (f a) (λ b. ((first b ≡ a) × (K b)) × (Q b)) v)
      → Takes (λ l. bind (p l) f) (λ b. (K b) × ((P (first b)) × (Q b))) (λ b. w (first b) ++ v b)
  bind-takes {f} {Q} {v} t u = record {
    back = λ b h l. rw (append_assoc, t.back (first b) h.1.0 (v b ++ l)) ((u (first b) h.1.0).back b ((refl, h.0), h.1.1) l);
    only = λ l g h. by l g (p l) refl h;
  }
    where
      by : (l : List ℕ) (g : Parsed B) (o : Option (Parsed A)) → p l ≡ o → bind o f ≡ some g
          → Taken (λ b. (K b) × ((P (first b)) × (Q b))) (λ b. w (first b) ++ v b) l g
      by l g none e h = absurd (none-some h)
      by l g (some r) e h =
          let x = t.only l r e in
          let y = (u r.value x.0).only r.rest g h in
          ((y.0.0.1, (rw y.0.0.0 x.0, y.0.1)), rw (append_assoc, y.0.0.0, ← y.1) x.1)

  -- the last thing, of which something is made
  pub made-takes : (make : A → B) → Takes p P w → ((a : A) → P a → (first (make a) ≡ a) × (K (make a))) → ((b : B) → K b → make (first b) ≡ b)
      → Takes (λ l. bind (p l) (λ a. succeed (make a))) (λ b. (K b) × (P (first b))) (λ b. w (first b))
  made-takes make t k e = record {
    back = λ b h l. rw (t.back (first b) h.1 l, e b h.0);
    only = λ l g h. by l g (p l) refl h;
  }
    where
      by : (l : List ℕ) (g : Parsed B) (o : Option (Parsed A)) → p l ≡ o → bind o (λ a. succeed (make a)) ≡ some g
          → Taken (λ b. (K b) × (P (first b))) (λ b. w (first b)) l g
      by l g none q h = absurd (none-some h)
      by l g (some r) q h =
          let x = t.only l r q in
          let y = k r.value x.0 in
          rw (← (some_one refl h)) ((y.1, rw y.0 x.0), rw y.0 x.1)

-- ---- lists: so many, each with P

abbrev pub Many : {A : Type 0} → (A → Type 0) → ℕ → List A → Type 0
Many P n xs = (length xs ≡ n) × (Every P xs)

module _ {A : Type 0} {one : Parser A} {P : A → Type 0} {w : A → List ℕ} (t : Takes one P w) where
  many-back : (n : ℕ) (xs : List A) → length xs ≡ n → Every P xs → (l : List ℕ) → many one n (all w xs ++ l) ≡ parsed xs l
  unfolding many all
  many-back zero [] e h l = refl
  many-back zero (a ∷ xs) e h l = absurd (omega arith)
  many-back (suc n) [] e h l = absurd (omega arith)
  many-back (suc n) (a ∷ xs) e (cons h k) l = rw (append_assoc, t.back a h (all w xs ++ l), many-back n xs (omega arith) k l)

  many-only : (n : ℕ) (l : List ℕ) (g : Parsed (List A)) → many one n l ≡ some g → Taken (Many P n) (all w) l g
  unfolding many all
  many-only zero l g h = rw (← (some_one refl h)) ((refl, empty), refl)
  many-only (suc n) l g h = by (one l) refl h (many-only n)
    where
      on : (r : Parsed A) → one l ≡ some r → (o : Option (Parsed (List A))) → many one n r.rest ≡ o → bind o (λ rest. succeed (r.value ∷ rest)) ≡ some g
          → ((q : Parsed (List A)) → many one n r.rest ≡ some q → Taken (Many P n) (all w) r.rest q)
          → Taken (Many P (suc n)) (all w) l g
      on r e none f h i = absurd (none-some h)
      on r e (some q) f h i =
          let x = t.only l r e in
          let y = i q f in
          rw (← (some_one refl h)) ((ap suc y.0.0, cons x.0 y.0.1), rw (append_assoc, ← y.1) x.1)

      by : (o : Option (Parsed A)) → one l ≡ o → bind o (λ a l. bind (many one n l) (λ rest. succeed (a ∷ rest))) ≡ some g
          → ((l : List ℕ) (g : Parsed (List A)) → many one n l ≡ some g → Taken (Many P n) (all w) l g)
          → Taken (Many P (suc n)) (all w) l g
      by none e h i = absurd (none-some h)
      by (some r) e h i = on r e (many one n r.rest) refl h (i r.rest)

  pub many-takes : (n : ℕ) → Takes (many one n) (Many P n) (all w)
  many-takes n = record { back = λ xs h. many-back n xs h.0 h.1; only = many-only n }
