-- Document 01, "Values" and "Splitting": what a record and its fields are after a field, or `$0`, is assigned, and what
-- `match` sets. Frames.antt says what stays.
use mathlib.Core.Path.{◌≡◌, refl, ap, sym, ◌∙◌}
use mathlib.Core.Bool.{Bool, true, false, cond}
use mathlib.Core.List.{List, [], ◌∷◌, ◌++◌, map}
use mathlib.Core.Option.{Option, some, none}
use Prim.Native.Nat.{ℕ, zero, suc, ◌+◌, ◌-◌, ◌≤◌, ◌<◌}
use native.Mathlib.Omega.{arith}
use lib.ListN.{length, set as set_at, replicate, length-set, length-append, length-replicate}
use lib.IntN.{pos, negsuc}
use lib.Dec.{leb}
use borrow.Author.Tests.{leb-true, leb-false}
use Rattle.edition.specs.Limits.{text_bytes, field_count}
use Rattle.edition.specs.Outcomes.{text_too_long, bad_separator, bad_field_number}
use Rattle.lists.specs.Elements.{nth}
use Rattle.lists.proofs.Options.{some_one}
use Rattle.ere_meaning.specs.Tree.{Class, Ere, accepts}
use Rattle.ere_meaning.specs.Meaning.{Match, found, nowhere}
use Rattle.ere_meaning.specs.Search.{best_of}
use Rattle.splitting.specs.Field.{Span, fields_of}
use Rattle.splitting.specs.Separator.{Separator, separator_of}
use Rattle.splitting.specs.Splitting.{separated, text_of as span_text}
use Rattle.values.specs.Value.{Value, unset, number, field_text, Stop, stop, Result, gives, stops, bind, text_of}
use Rattle.semantics.specs.Variables.{FS, OFS, RSTART, RLENGTH}
use Rattle.semantics.specs.World.{World, with_record, special, field_values, split_by}
use Rattle.semantics.specs.Operations.{Effect, grown, joined, assigned, rebuilt, by_ere, match_marked, marked}
use Rattle.semantics.proofs.Frames.{SameButRecord, SameButVariables, set_there, set-elsewhere}

-- ---- a list grown by unset values

-- an element of the list, and one of what is put after it
nth-front : {A : Type 0} (l m : List A) (j : ℕ) → j < length l → nth (l ++ m) j ≡ nth l j
unfolding nth
nth-front [] m j h = absurd (omega arith)
nth-front (a ∷ l) m zero h = refl
nth-front (a ∷ l) m (suc j) h = nth-front l m j (omega arith)

nth-behind : {A : Type 0} (l m : List A) (j : ℕ) → length l ≤ j → nth (l ++ m) j ≡ nth m (j - length l)
unfolding nth
nth-behind [] m j h = let z : j - 0 ≡ j = omega arith in rw z
nth-behind (a ∷ l) m zero h = absurd (omega arith)
nth-behind (a ∷ l) m (suc j) h =
    let z : suc j - suc (length l) ≡ j - length l = omega arith in
    nth-behind l m j (omega arith) ∙ ap (nth m) (sym z)

nth-replicate : {A : Type 0} (n : ℕ) (a : A) (j : ℕ) → j < n → nth (replicate n a) j ≡ some a
unfolding nth
nth-replicate zero a j h = absurd (omega arith)
nth-replicate (suc n) a zero h = refl
nth-replicate (suc n) a (suc j) h = nth-replicate n a j (omega arith)

-- ---- `$k = v`, k from 1 on

-- "Assigning `$k`, k >= 1, grows NF if needed and joins all fields with the present OFS into `$0`, without splitting
-- again."; "an assigned field keeps its value's kind"; "gaps filled by growth, are unset". Field k + 1 is element k of
-- the fields.
pub record FieldAssigned (w : World) (k : ℕ) (a : Value) (x : World) : Type 0 where
  pub there : nth x.current.fields k ≡ some a
  pub others : (j : ℕ) → j < length w.current.fields → (j ≡ k → ⊥) → nth x.current.fields j ≡ nth w.current.fields j
  pub gaps : (j : ℕ) → length w.current.fields ≤ j → j < k → nth x.current.fields j ≡ some unset
  pub grows : length w.current.fields ≤ k → length x.current.fields ≡ suc k
  pub stays : k < length w.current.fields → length x.current.fields ≡ length w.current.fields
  pub line : x.current.line ≡ joined (special w OFS) x.current.fields
  pub short : length x.current.line ≤ text_bytes
  pub rest : SameButRecord w x

module _ (w : World) (k : ℕ) (a : Value) where
  abbrev old : List Value
  old = w.current.fields

  abbrev new : List Value
  new = set_at (grown (suc k) old) k a

  grown-length : length (grown (suc k) old) ≡ length old + (suc k - length old)
  grown-length = length-append old (replicate (suc k - length old) unset) ∙ ap (λ (n : ℕ). length old + n) (length-replicate (suc k - length old) unset)

  new-length : length new ≡ length old + (suc k - length old)
  new-length = length-set (grown (suc k) old) k a ∙ grown-length

  new-other : (j : ℕ) → (j ≡ k → ⊥) → nth new j ≡ nth (grown (suc k) old) j
  new-other j n = set-elsewhere (grown (suc k) old) k j a n

  new-gap : (j : ℕ) → length old ≤ j → j < k → nth new j ≡ some unset
  new-gap j l h =
      new-other j (λ e. omega arith) ∙ nth-behind old (replicate (suc k - length old) unset) j l
      ∙ nth-replicate (suc k - length old) unset (j - length old) (omega arith)

  pub field-assigned : (edition : ℕ) (x : World) → assigned edition w (suc k) a ≡ gives x → FieldAssigned w k a x
  field-assigned edition x h = by (leb (length (joined (special w OFS) new)) text_bytes) refl
    where
      made : length (joined (special w OFS) new) ≤ text_bytes → FieldAssigned w k a (with_record w (joined (special w OFS) new) new)
      made s =
          record {
            there = set_there (grown (suc k) old) k a (omega (arith, grown-length));
            others = λ j l n. new-other j n ∙ nth-front old (replicate (suc k - length old) unset) j l;
            gaps = new-gap;
            grows = λ l. omega (arith, new-length);
            stays = λ l. omega (arith, new-length);
            line = refl;
            short = s;
            rest = record { variables = refl; feed = refl; output = refl };
          }

      by : (b : Bool) → leb (length (joined (special w OFS) new)) text_bytes ≡ b → FieldAssigned w k a x
      by true e =
          let same : with_record w (joined (special w OFS) new) new ≡ x = gives_one (rw e at h) in
          rw (← same) (made (leb-true _ _ e))
        where
          gives_one : {y z : World} → gives y ≡ gives z → y ≡ z
          gives_one q = cc
      by false e = absurd (never (rw e at h))
        where
          never : {s : Stop} {z : World} → stops s ≡ gives z → ⊥
          never q = let z : ◌≡◌ {A = ℕ} 0 1 = cc in omega arith

  -- 14 exactly where the record would be too long; nothing else stops it
  pub field-refused : (edition : ℕ) (s : Stop) → assigned edition w (suc k) a ≡ stops s
      → (s ≡ stop text_too_long) × (text_bytes < length (joined (special w OFS) new))
  field-refused edition s h = by (leb (length (joined (special w OFS) new)) text_bytes) refl
    where
      by : (b : Bool) → leb (length (joined (special w OFS) new)) text_bytes ≡ b
          → (s ≡ stop text_too_long) × (text_bytes < length (joined (special w OFS) new))
      by true e = absurd (never (rw e at h))
        where
          never : {y : World} {s : Stop} → gives y ≡ stops s → ⊥
          never q = let z : ◌≡◌ {A = ℕ} 0 1 = cc in omega arith
      by false e = (stops-one (rw e at h), leb-false _ _ e)
        where
          stops-one : {x y : Stop} → ◌≡◌ {A = Result World} (stops x) (stops y) → y ≡ x
          stops-one q = cc

-- ---- the fields of a split

-- "`$0` always, and split fields, are field text": the fields are those of the separator that FS is, at most as many as
-- there may be
pub record SplitInto (edition : ℕ) (w : World) (text : List ℕ) (vs : List Value) : Type 0 where
  pub separator : Separator
  pub in-force : separator_of edition (special w FS) ≡ some separator
  pub fields : vs ≡ map (λ (f : Span). field_text (span_text text f)) (fields_of text separator)
  pub few : length (fields_of text separator) ≤ field_count

pub split-into : (edition : ℕ) (w : World) (text : List ℕ) (vs : List Value) → split_by edition w text ≡ gives vs → SplitInto edition w text vs
unfolding split_by
split-into edition w text vs h = by (separator_of edition (special w FS)) refl h
  where
    never : {s : Stop} {z : List Value} → stops s ≡ gives z → ⊥
    never q = let z : ◌≡◌ {A = ℕ} 0 1 = cc in omega arith

    gives_one : {y z : List Value} → gives y ≡ gives z → z ≡ y
    gives_one q = cc

    on : (s : Separator) → separator_of edition (special w FS) ≡ some s → (b : Bool) → leb (length (fields_of text s)) field_count ≡ b
        → field_values text (separated text (some s)) ≡ gives vs → SplitInto edition w text vs
    on s e true f g = record { separator = s; in-force = e; fields = gives_one (rw f at g); few = leb-true _ _ f }
    on s e false f g = absurd (never (rw f at g))

    by : (o : Option Separator) → separator_of edition (special w FS) ≡ o → field_values text (separated text o) ≡ gives vs → SplitInto edition w text vs
    by none e g = absurd (never g)
    by (some s) e g = on s e (leb (length (fields_of text s)) field_count) refl g

-- "The FS in force .. when `$0` is assigned, splits it."
pub record RecordAssigned (edition : ℕ) (w : World) (a : Value) (x : World) : Type 0 where
  pub line : x.current.line ≡ text_of a
  pub fields : SplitInto edition w (text_of a) x.current.fields
  pub rest : SameButRecord w x

pub record-assigned : (edition : ℕ) (w : World) (a : Value) (x : World) → assigned edition w 0 a ≡ gives x → RecordAssigned edition w a x
record-assigned edition w a x h = by (split_by edition w (text_of a)) refl h
  where
    gives_one : {y z : World} → gives y ≡ gives z → y ≡ z
    gives_one q = cc

    never : {s : Stop} {z : World} → stops s ≡ gives z → ⊥
    never q = let z : ◌≡◌ {A = ℕ} 0 1 = cc in omega arith

    by : (r : Result (List Value)) → split_by edition w (text_of a) ≡ r → bind r (λ fs. gives (with_record w (text_of a) fs)) ≡ gives x → RecordAssigned edition w a x
    by (stops s) e g = absurd (never g)
    by (gives fs) e g =
        let same : with_record w (text_of a) fs ≡ x = gives_one g in
        rw (← same)
        (record { line = refl; fields = split-into edition w (text_of a) fs e; rest = record { variables = refl; feed = refl; output = refl } })

-- ---- match

-- "`match` sets RSTART (from 1) and RLENGTH, 0 and -1 if none, and answers RSTART."
abbrev pub start_of : Match → Value
start_of (found s n) = number (pos (suc s))
start_of nowhere = number (pos 0)

abbrev pub size_of : Match → Value
size_of (found s n) = number (pos n)
size_of nowhere = number (negsuc 0)

pub record MatchSet (m : Match) (w : World) (e : Effect) : Type 0 where
  pub left : e.left ≡ start_of m ∷ []
  pub start : nth e.world.variables RSTART ≡ some (start_of m)
  pub size : nth e.world.variables RLENGTH ≡ some (size_of m)
  pub rest : SameButVariables w e.world

marked-set : (m : Match) (w : World) → RLENGTH < length w.variables → MatchSet m w (marked w (start_of m) (size_of m))
marked-set m w h =
    let first = set_at w.variables RSTART (start_of m) in
    record {
      left = refl;
      start = set-elsewhere first RLENGTH RSTART (size_of m) (λ e. omega arith) ∙ set_there w.variables RSTART (start_of m) (omega arith);
      size = set_there first RLENGTH (size_of m) (omega (arith, length-set w.variables RSTART (start_of m)));
      rest = record { current = refl; feed = refl; output = refl };
    }

pub match-set : (x : Ere Class) (a : Value) (w : World) (e : Effect) → RLENGTH < length w.variables → by_ere match_marked (some x) a w ≡ some (gives e)
    → MatchSet (best_of accepts (text_of a) x) w e
match-set x a w e h g = by (best_of accepts (text_of a) x) g
  where
    one : {y z : Effect} → some (gives y) ≡ some (gives z) → y ≡ z
    one q = cc

    by : (m : Match) → some (match_marked w m) ≡ some (gives e) → MatchSet m w e
    by (found s n) q = rw (← (one q)) (marked-set (found s n) w h)
    by nowhere q = rw (← (one q)) (marked-set nowhere w h)
