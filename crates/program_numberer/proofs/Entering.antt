-- What a table holds once a thing is entered.
use mathlib.Core.Path.{◌≡◌, refl, sym, ap, subst, ◌∙◌}
use mathlib.Core.Bool.{Bool, true, false, cond}
use mathlib.Core.List.{List, [], ◌∷◌, ◌++◌}
use Prim.Native.Nat.{ℕ, zero, suc, ◌+◌, ◌*◌, ◌≤◌, ◌<◌}
use native.Mathlib.Numerals.{add-one}
use native.Mathlib.Omega.{arith}
use lib.ListN.{length, set, length-set, length-append}
use lib.Dec.{eqb, ltb}
use borrow.Author.Tests.{eq-eqb, ne_eqb, eqb-true, eqb-false}
use Rattle.edition.specs.Limits.{number_bound}
use Rattle.image_format.specs.Image.{Constant}
use Rattle.program_numbering.specs.Names.{has, with_new, number_of}
use Rattle.program_numbering.specs.Numbering.{same_constant}
use Rattle.program_numbering.proofs.Numbers.{number-below}
use Rattle.program_parser.proofs.Tokens.{choose}
use Rattle.program_tables.specs.declared.tables.Entry.{Entry}
use Rattle.program_tables.specs.Tables.{entry_in, meant, AllInside, entries_from, with_entry}
use Rattle.program_tables.proofs.Entries.{entry_kept, entry-added, entries-added, inside-added}
use Rattle.program_entries.specs.Named.{Stands}
use Rattle.program_numberer.specs.Numbered.{AllBounded, Holds}
use Rattle.program_numberer.proofs.Lists.{longer, number-most, number-none}

pub entry_length : (t : List ℕ) (n : ℕ) (e : Entry) → length (with_entry t n e) ≡ length t
unfolding with_entry
entry_length t n e =
    choose (λ (u : List ℕ). length u ≡ length t) (ltb (2 * n + 1) (length t)) _ t
    (λ h. length-set (set t (2 * n) e.value) (2 * n + 1) e.stop ∙ length-set t (2 * n) e.value) (λ h. refl)

pub entries-length : (s : List ℕ) (escapes : Bool) (t : List ℕ) (k n : ℕ) → length (entries_from s escapes t k n) ≡ n
unfolding entries_from
entries-length s escapes t k zero = refl
entries-length s escapes t k (suc n) = ap suc (entries-length s escapes t (suc k) n)

bounded-added : (t : List ℕ) (n : ℕ) (e : Entry) → 2 * n + 1 < length t → AllBounded t n → e.value ≤ number_bound
    → AllBounded (with_entry t n e) (suc n)
bounded-added t n e fits all one k h = go (eqb k n) refl
  where
    go : (x : Bool) → eqb k n ≡ x → (entry_in (with_entry t n e) k).value ≤ number_bound
    go true g =
        subst (λ (j : ℕ). (entry_in (with_entry t n e) j).value ≤ number_bound) (sym (eqb-true k n g))
        (subst (λ (f : Entry). f.value ≤ number_bound) (sym (entry-added t n e fits)) one)
    go false g =
        let below : k < n = omega (arith, h, eqb-false k n g) in
        subst (λ (f : Entry). f.value ≤ number_bound) (sym (entry_kept t n e fits k below)) (all k below)

module _ (s : List ℕ) (escapes : Bool) (table : List ℕ) (n : ℕ) (l : List Constant)
    (holds : Holds s escapes table n l) where
  -- a table that is full stays too small
  pub full-holds : (m : List Constant) → length table < 2 * n → Holds s escapes table n (with_new same_constant l m)
  full-holds m h =
      record {
        held = record {
          few = λ g. absurd (omega (arith, g, h));
          many = λ g. omega (arith, holds.held.many h, longer same_constant m l);
        };
        bounded = λ t g. absurd (omega (arith, g, h));
      }

  -- how many there are
  pub size : 2 * n ≤ length table → length l ≡ n
  size fits = ap length (sym (holds.held.few fits).0) ∙ entries-length s escapes table 0 n

  module _ (fits : 2 * n ≤ length table) (thing : Constant) (e : Entry) (stands : Stands s escapes thing e) (k : ℕ)
      (which : k ≡ number_of same_constant (entries_from s escapes table 0 n) (meant s escapes e)) where
    pub number_is : k ≡ number_of same_constant l thing
    number_is =
        which ∙ (ap (λ (m : List Constant). number_of same_constant m (meant s escapes e)) (holds.held.few fits).0
        ∙ ap (number_of same_constant l) stands.means)

    pub number-within : k ≤ n
    number-within = omega (arith, number_is, number-most same_constant l thing, size fits)

    known : k < n → has same_constant l thing ≡ true
    known h = go (has same_constant l thing) refl
      where
        go : (b : Bool) → has same_constant l thing ≡ b → b ≡ true
        go true g = refl
        go false g = absurd (omega (arith, h, number_is, number-none same_constant l thing g, size fits))

    unknown : n ≤ k → has same_constant l thing ≡ false
    unknown h = go (has same_constant l thing) refl
      where
        go : (b : Bool) → has same_constant l thing ≡ b → b ≡ false
        go false g = refl
        go true g = absurd (omega (arith, h, number_is, number-below same_constant l thing g, size fits))

    module _ (after : List ℕ) (stores : after ≡ cond (eqb k n) (with_entry table n e) table) where
      pub known-holds : k < n → Holds s escapes after n (with_new same_constant l (thing ∷ []))
      unfolding with_new
      known-holds h =
          let same : after ≡ table = stores ∙ rw (ne_eqb k n (λ z. omega (arith, z, h))) in
          rw (same, known h) holds

      pub new-holds : n ≤ k → Holds s escapes after (n + 1) (with_new same_constant l (thing ∷ []))
      unfolding with_new
      new-holds h =
          let at : k ≡ n = omega (arith, h, number-within) in
          let new : after ≡ with_entry table n e = stores ∙ rw (eq-eqb k n at) in
          rw (new, unknown h)
          (record {
            held = record {
              few = λ g. roomy (omega (arith, g, entry_length table n e));
              many = λ g. omega (arith, g, entry_length table n e, length-append l (thing ∷ []), size fits);
            };
            bounded = λ t g. small t (omega (arith, g, entry_length table n e));
          })
        where
          roomy : 2 * n + 1 < length table
              → (entries_from s escapes (with_entry table n e) 0 (n + 1) ≡ l ++ (thing ∷ []))
              × AllInside s (with_entry table n e) (n + 1)
          roomy room = (
            rw (add-one n) (entries-added table n e room s escapes ∙ rw ((holds.held.few fits).0, stands.means)),
            rw (add-one n) (inside-added table n e room s (holds.held.few fits).1 stands.inside),
          )

          small : escapes ≡ true → 2 * n + 1 < length table → AllBounded (with_entry table n e) (n + 1)
          small t room =
              rw (add-one n) (bounded-added table n e room (holds.bounded t fits) stands.bounded)
