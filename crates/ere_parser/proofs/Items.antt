-- The turns of `item` that are left: a `|`, a group too deep, and where a group ends.
use mathlib.Core.Path.{◌≡◌, refl, sym, ap, subst, ◌∙◌}
use mathlib.Core.Bool.{Bool, true, false, cond}
use mathlib.Core.List.{List, [], ◌∷◌}
use Prim.Native.Nat.{ℕ, zero, suc, ◌+◌, ◌-◌, ◌≤◌, ◌<◌}
use native.Mathlib.Nat.{le_refl}
use native.Mathlib.Omega.{arith}
use lib.ListN.{length, get_or, drop}
use Rattle.std.specs.Prelude.{Option, Some, None, MatchOption}
use Rattle.edition.specs.Limits.{ere_places}
use Rattle.ere_grammar.specs.Read.{read_group, after_group}
use Rattle.ere_parser.specs.Reading.{rest_from}
use Rattle.ere_pieces.specs.State.{bar_of, choice_of, start_of}
use Rattle.ere_parser.specs.Standing.{unread, Closed, at-end, at_paren, Safe, Moves, Turns, base_of, Under, GroupReads}
use Rattle.ere_pieces.specs.declared.rows.State.{State}
use Rattle.ere_parser.proofs.Steps.{rest-group}
use Rattle.ere_parser.proofs.Turning.{below-refl, below-trans, below_less}
use Rattle.ere_parser.proofs.Moving.{opened, moves-refused, moves-bar, moves-no-bar, started}

-- nothing is left at the end
pub drop_all : (l : List ℕ) (at : ℕ) → length l ≤ at → drop at l ≡ []
drop_all [] zero h = refl
drop_all [] (suc at) h = refl
drop_all (x ∷ l) zero h = absurd (omega (arith, h))
drop_all (x ∷ l) (suc at) h = drop_all l at (omega (arith, h))

pub closed-end : (l : List ℕ) (at : ℕ) → length l ≤ at → Closed (drop at l)
closed-end l at h = subst Closed (sym (drop_all l at h)) at-end

pub closed-paren : (l : List ℕ) (at : ℕ) → at < length l → get_or l at 0 ≡ 41 → Closed (drop at l)
closed-paren l at h e = subst Closed (sym (opened l at 41 h e)) at_paren

module _ {l : List ℕ} (t : List ℕ) (s : State) (safe : Safe l s) (h : s.at < length l) where
  choice-by : (n : ℕ) → get_or l s.at 0 ≡ 124 → (b : Bool) → s.some ≡ b → Turns l n t t s (cond b (Some (bar_of s)) None)
  choice-by n e true k = moves-bar n s safe h e k
  choice-by n e false k = moves-no-bar n s safe h e k

  pub moves-choice : (n : ℕ) → get_or l s.at 0 ≡ 124 → Turns l n t t s (choice_of s)
  moves-choice n e = choice-by n e s.some refl

  -- no level is left for a group
  pub moves-deep : get_or l s.at 0 ≡ 40 → Turns l zero t t s None
  unfolding read_group after_group
  moves-deep e =
      moves-refused zero s safe
      (λ b st. unread (sym st.same ∙ ap (rest_from zero st.A st.S) (opened l s.at 40 h e) ∙ rest-group zero st.A st.S (drop (s.at + 1) l)))

-- a move, with the state and the table as they were computed
pub moved : (l : List ℕ) (n : ℕ) (t : List ℕ) (s : State) {u u' : List ℕ} {r r' : Option State} → r ≡ r' → u ≡ u' → Turns l n t u s r → Turns l n t u' s r'
moved l n t s {u' = u'} {r = r} p q m = subst (λ (x : Option State). Turns l n t u' s x) p (subst (λ (x : List ℕ). Turns l n t x s r) q m)

-- the same where the state is: it is the one that was computed, or none was
pub moved-in : (l : List ℕ) (n : ℕ) (t : List ℕ) (s : State) {A : Type 0} {u u' : List ℕ} (x : State) (r : Option State) (o : Option A)
    → MatchOption o (None ≡ r) (λ y. Some x ≡ r) → u ≡ u' → Turns l n t u s r → MatchOption o (Turns l n t u' s None) (λ y. Moves l n t u' s x)
moved-in l n t s x r None p q m = moved l n t s (sym p) q m
moved-in l n t s x r (Some y) p q m = moved l n t s (sym p) q m

-- a group from its start to its end
pub under-start : (l : List ℕ) (n at lo count : ℕ) (t : List ℕ) → at ≤ length l → lo ≤ count → count ≤ ere_places → Under l n at lo count t t (start_of at lo count)
under-start l n at lo count t i j k =
    record {
      safe = record { order = le_refl lo; fewer = j; few = k; inside = i };
      later = le_refl lo;
      onward = le_refl at;
      kept = below-refl lo t;
      means = started l n at lo count t;
    }

module _ {l : List ℕ} {n at lo count : ℕ} {t₀ t u : List ℕ} (s : State) (under : Under l n at lo count t₀ t s) where
  pub under-turn : (r : State) → Moves l n t u s r → Under l n at lo count t₀ u r
  under-turn r m =
      record {
        safe = m.safe;
        later = omega (arith, under.later, m.later);
        onward = omega (arith, under.onward, m.ahead);
        kept = below-trans under.kept (below_less under.later m.kept);
        means = m.means (base_of l n at lo count) under.later under.means;
      }

  -- a turn leaves fewer bytes
  pub turn-less : (r : State) → Moves l n t u s r → suc (length l - r.at) < suc (length l - s.at)
  turn-less r m = omega (arith, m.ahead, m.safe.inside)

  pub under-refused : Turns l n t u s None → GroupReads l n at lo count t₀ u None
  under-refused m = (below-trans under.kept (below_less under.later m.0), m.1 (base_of l n at lo count) under.means)
