-- Laws of the sets that the states stand for.
use mathlib.Core.Path.{◌≡◌, refl, sym, subst, ◌∙◌}
use mathlib.Core.List.{List}
use Prim.Native.Nat.{ℕ, ◌+◌, ◌*◌, ◌≤◌}
use native.Mathlib.Omega.{arith}
use lib.ListN.{length, get_or, set, length-set}
use lib.Seq.{get_or-set_same, get_or-set_other}
use Rattle.ere_sets.specs.Growth.{Fair, Grows, Has, Put, Leads}
use Rattle.ere_classes.proofs.Columns.{up_to}
use Rattle.ere_classes.proofs.Framed.{three, spelled}

pub put_is : (a : List ℕ) (i : ℕ) (s : List ℕ) → 3 * i + 3 ≤ length a → length s ≡ 3
    → Put a i s (set (set (set a (3 * i) (get_or s 0 0)) (3 * i + 1) (get_or s 1 0)) (3 * i + 2) (get_or s 2 0))
put_is a i s room l = record {
  size = simp length-set;
  is =
      three _ _ _ _ _ _
      (get_or-set_other b (3 * i + 2) (3 * i) z 0 (omega arith) ∙ get_or-set_other c (3 * i + 1) (3 * i) y 0 (omega arith) ∙ get_or-set_same a (3 * i) x 0 (omega arith))
      (get_or-set_other b (3 * i + 2) (3 * i + 1) z 0 (omega arith) ∙ get_or-set_same c (3 * i + 1) y 0 (simp length-set (omega arith)))
      (get_or-set_same b (3 * i + 2) z 0 (simp length-set (omega arith)))
      ∙ spelled s l;
  kept = λ j ne. three _ _ _ _ _ _ (other (3 * j) (omega arith) (omega arith) (omega arith)) (other (3 * j + 1) (omega arith) (omega arith) (omega arith)) (other (3 * j + 2) (omega arith) (omega arith) (omega arith));
}
  where
    x : ℕ
    x = get_or s 0 0

    y : ℕ
    y = get_or s 1 0

    z : ℕ
    z = get_or s 2 0

    c : List ℕ
    c = set a (3 * i) x

    b : List ℕ
    b = set c (3 * i + 1) y

    other : (q : ℕ) → (q ≡ 3 * i → ⊥) → (q ≡ 3 * i + 1 → ⊥) → (q ≡ 3 * i + 2 → ⊥) → get_or (set b (3 * i + 2) z) q 0 ≡ get_or a q 0
    other q e f g = get_or-set_other b (3 * i + 2) q z 0 g ∙ get_or-set_other c (3 * i + 1) q y 0 f ∙ get_or-set_other a (3 * i) q x 0 e

-- ---- sets become more

pub grows_none : (a : List ℕ) (n : ℕ) → Grows a n a n
grows_none a n = record { more = omega arith; kept = λ j h. refl; fair = λ f. f }

pub grows-on : {a b c : List ℕ} {n m l : ℕ} → Grows a n b m → Grows b m c l → Grows a n c l
grows-on g h = record {
  more = omega (arith, g.more, h.more);
  kept = λ j l. h.kept j (omega (arith, g.more)) ∙ g.kept j l;
  fair = λ f. h.fair (g.fair f);
}

pub grows-put : {a : List ℕ} {n : ℕ} {s b : List ℕ} → Put a n s b → Fair s → Grows a n b (n + 1)
grows-put {n = n} p f = record {
  more = omega arith;
  kept = λ j h. p.kept j (omega arith);
  fair = λ all. up_to n (λ j h. subst Fair (sym (p.kept j (omega arith))) (all j h)) (subst Fair (sym p.is) f);
}

pub has_on : {a b : List ℕ} {n m i : ℕ} {s : List ℕ} → Has a n i s → Grows a n b m → Has b m i s
has_on {i = i} h g = record { low = omega (arith, h.low, g.more); is = g.kept i h.low ∙ h.is }

pub leads-on : {mode : ℕ} {t a c : List ℕ} {n m stride : ℕ} {s : List ℕ} {b q : ℕ} → Leads mode t a n stride s b q → Grows a n c m → Leads mode t c m stride s b q
leads-on l g = record { number = l.number; is = l.is; has = has_on l.has g }
