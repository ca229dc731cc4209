-- Which codes name an entry of each table.
use mathlib.Core.Path.{◌≡◌, refl}
use mathlib.Core.Bool.{Bool, true, false, cond, ◌&&◌, ◌||◌}
use Prim.Native.Nat.{ℕ}
use native.Mathlib.Omega.{arith}
use lib.Dec.{eqb}
use borrow.Author.Tests.{eqb-true, ne_eqb}
use Rattle.program_entries.specs.Named.{is_named}

pub constant-named : (op : ℕ) → eqb op 1 ≡ is_named 0 op
unfolding is_named
constant-named op = go (eqb op 1) (eqb op 2 || eqb op 3) (eqb op 22 || eqb op 23)
  where
    go : (x y z : Bool) → x ≡ cond x true (cond y false (z && false))
    go true y z = refl
    go false true z = refl
    go false false true = refl
    go false false false = refl

-- a code is one only
not-one : (op n : ℕ) → (n ≡ 1 → ⊥) → eqb op n ≡ true → eqb op 1 ≡ false
not-one op n h e = let same = eqb-true op n e in ne_eqb op 1 (λ k. h (omega (arith, same, k)))

pub variable-named : (op : ℕ) → (eqb op 2 || eqb op 3) ≡ is_named 1 op
unfolding is_named
variable-named op = go (eqb op 2) refl (eqb op 3) refl
  where
    go : (x : Bool) → eqb op 2 ≡ x → (y : Bool) → eqb op 3 ≡ y
        → (eqb op 2 || eqb op 3) ≡ cond (eqb op 1) false (cond (eqb op 2 || eqb op 3) true ((eqb op 22 || eqb op 23) && false))
    go true e y f = rw (not-one op 2 (λ k. omega (arith, k)) e, e)
    go false e true f = rw (not-one op 3 (λ k. omega (arith, k)) f, e, f)
    go false e false f = rw (e, f) (rest (eqb op 1) (eqb op 22 || eqb op 23))
      where
        rest : (a b : Bool) → false ≡ cond a false (b && false)
        rest true b = refl
        rest false true = refl
        rest false false = refl

pub ere-named : (op : ℕ) → (eqb op 22 || eqb op 23) ≡ is_named 2 op
unfolding is_named
ere-named op = go (eqb op 1) refl (eqb op 2) refl (eqb op 3) refl
  where
    other : (n : ℕ) → (n ≡ 22 → ⊥) → (n ≡ 23 → ⊥) → eqb op n ≡ true → (eqb op 22 || eqb op 23) ≡ false
    other n h k e =
        let same = eqb-true op n e in
        rw (ne_eqb op 22 (λ q. h (omega (arith, same, q))), ne_eqb op 23 (λ q. k (omega (arith, same, q))))

    and-self : (b : Bool) → b ≡ (b && true)
    and-self true = refl
    and-self false = refl

    go : (x : Bool) → eqb op 1 ≡ x → (y : Bool) → eqb op 2 ≡ y → (z : Bool) → eqb op 3 ≡ z
        → (eqb op 22 || eqb op 23) ≡ cond (eqb op 1) false (cond (eqb op 2 || eqb op 3) false ((eqb op 22 || eqb op 23) && true))
    go true e y f z g = rw (other 1 (λ k. omega (arith, k)) (λ k. omega (arith, k)) e, e)
    go false e true f z g = rw (other 2 (λ k. omega (arith, k)) (λ k. omega (arith, k)) f, e, f)
    go false e false f true g = rw (other 3 (λ k. omega (arith, k)) (λ k. omega (arith, k)) g, e, f, g)
    go false e false f false g = rw (e, f, g) (and-self (eqb op 22 || eqb op 23))

-- no code names an entry of another table
pub other-named : (what op : ℕ) → (what ≡ 0 → ⊥) → (what ≡ 1 → ⊥) → (what ≡ 2 → ⊥) → false ≡ is_named what op
unfolding is_named
other-named what op f g h =
    rw (ne_eqb what 0 f, ne_eqb what 1 g, ne_eqb what 2 h) (go (eqb op 1) (eqb op 2 || eqb op 3) (eqb op 22 || eqb op 23))
  where
    go : (x y z : Bool) → false ≡ cond x false (cond y false (z && false))
    go true y z = refl
    go false true z = refl
    go false false true = refl
    go false false false = refl
