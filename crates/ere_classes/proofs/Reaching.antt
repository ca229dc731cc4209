-- Laws of what comes next after sets inside of others, and of how long something is left of them.
use mathlib.Core.Path.{◌≡◌, sym, ap, subst, ◌∙◌}
use mathlib.Core.Bool.{false}
use mathlib.Core.List.{List}
use Prim.Native.Nat.{ℕ, suc, ◌+◌, ◌≤◌}
use Rattle.std.specs.Prelude.{Option, Some, None, IfSome}
use Rattle.std.specs.Option.{unwrap_or}
use native.Mathlib.Omega.{arith}
use lib.ListN.{get_or}
use lib.Bits.{or_zero_r}
use Rattle.lists.proofs.Tests.{or-false}
use Rattle.ere_table.specs.Table.{row, join, no_place}
use Rattle.ere_table.specs.Wiring.{stop_in}
use Rattle.ere_table.proofs.Sets.{mem-join}
use Rattle.ere_search.specs.Walk.{step}
use Rattle.ere_automaton.specs.Sets.{spent}
use Rattle.ere_automaton.specs.Layout.{class_in}
use Rattle.ere_automaton.proofs.Joins.{join-right, join-comm, join-self, step-join}
use Rattle.ere_classes.specs.Column.{Classified}
use Rattle.ere_classes.specs.Reach.{Inside, Nexts, Ends, Reaches}
use Rattle.ere_classes.proofs.Columns.{up_to}

inside_on : (a b c : List ℕ) → Inside a b → Inside b c → Inside a c
inside_on a b c p q =
    ap (join a) (sym q) ∙ join-right a b c ∙ ap (λ (u : List ℕ). join u c) p ∙ q

inside-left : (a o x : List ℕ) → Inside a o → Inside a (join o x)
inside-left a o x p = join-right a o x ∙ ap (λ (u : List ℕ). join u x) p

pub inside-right : (o x : List ℕ) → Inside x (join o x)
inside-right o x = join-comm x (join o x) ∙ sym (join-right o x x) ∙ join-self x o

pub inside_both : (o x : List ℕ) → Inside o (join o x)
inside_both o x = join-right o o x ∙ join-comm (join o o) x ∙ join-self o x ∙ join-comm x o

-- one more class
pub nexts-more : (t bytes : List ℕ) (c : ℕ) (s out x r : List ℕ) → x ≡ step t s (get_or bytes c 0) → r ≡ join out x
    → Nexts t bytes c s out → Nexts t bytes (c + 1) s r
nexts-more t bytes c s out x r e f N =
    subst (Nexts t bytes (c + 1) s) (sym f)
    (up_to c (λ i h. inside-left (step t s (get_or bytes i 0)) out x (N i h))
    (subst (λ (u : List ℕ). Inside u (join out x)) e (inside-right out x)))

-- nothing is in no place
pub ends-none : (t : List ℕ) → Ends t 0 no_place
unfolding spent
ends-none t s p = (
  sym (or_zero_r (get_or s 0 0)) ∙ ap (λ (u : List ℕ). get_or u 0 0) p,
  sym (or_zero_r (get_or s 1 0)) ∙ ap (λ (u : List ℕ). get_or u 1 0) p,
  sym (or_zero_r (get_or s 2 0)) ∙ ap (λ (u : List ℕ). get_or u 2 0) p,
)

-- a byte before
pub ends_next : (t bytes : List ℕ) (k : ℕ) (d u next : List ℕ) → Classified t bytes k d → stop_in u false ≡ false
    → Nexts t bytes k u next → (n : ℕ) → Ends t n next → Ends t (suc n) u
unfolding spent
ends_next t bytes k d u next C z N n E s p = (
  (or-false (stop_in s false) (stop_in u false)
      (sym (mem-join s u 128 (omega arith)) ∙ ap (λ (v : List ℕ). stop_in v false) p ∙ z)).0,
  λ b h.
      let moved = sym (step-join t s u b) ∙ ap (λ (v : List ℕ). step t v b) p in
      let there = subst (λ (v : List ℕ). Inside v next) (sym (C.same u b h)) (N (class_in d b) (C.is b h)) in
      E (step t s b) (inside_on (step t s b) (step t u b) next moved there),
)

-- both rows of a start
reaches : (t : List ℕ) (r : ℕ) → ((n : ℕ) → r ≡ suc n → Ends t (suc n) (join (row t 0) (row t 1))) → Reaches t r
reaches t r E n e =
    (E n e (row t 0) (inside_both (row t 0) (row t 1)), E n e (row t 1) (inside-right (row t 0) (row t 1)))

-- what is found of them
pub reached : (t bytes : List ℕ) (k : ℕ) (r : Option ℕ)
    → IfSome r (λ n. (n ≤ 17) × ((d : List ℕ) → Classified t bytes k d → Ends t n (join (row t 0) (row t 1))))
    → (unwrap_or r 0 ≤ 17) × ((d : List ℕ) → Classified t bytes k d → Reaches t (unwrap_or r 0))
reached t bytes k None h = (omega arith, λ d C n e. absurd (omega arith))
reached t bytes k (Some m) h =
    (h.0, λ d C. reaches t m (λ n e. subst (λ (i : ℕ). Ends t i (join (row t 0) (row t 1))) e (h.1 d C)))
