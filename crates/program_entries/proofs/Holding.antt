-- What a table holds: the special variables, and one name more.
use mathlib.Core.Path.{◌≡◌, refl, sym, ap, ◌∙◌}
use mathlib.Core.Bool.{Bool, true, false, not, cond, ◌||◌}
use mathlib.Core.Logic.{⊎_elim}
use mathlib.Core.List.{List, [], ◌∷◌, ◌++◌}
use Prim.Native.Nat.{ℕ, zero, suc, ◌+◌, ◌*◌, ◌/◌, ◌≤◌, ◌<◌}
use native.Mathlib.Numerals.{add-one}
use native.Mathlib.Omega.{arith}
use lib.ListN.{length, set, length-set, length-append}
use lib.Dec.{eqb, ltb}
use borrow.Author.Tests.{eq-eqb, ne_eqb, eqb-true, ltb-true, ltb-false, not-true, not-false}
use Rattle.lists.proofs.Tests.{or_cases, or-false}
use Rattle.image_format.specs.Image.{Constant, number, text}
use Rattle.program_tokens.specs.Kinds.{user_name, among, rank}
use Rattle.program_tokens.specs.Tokens.{Token, is, is_one_of, spelling}
use Rattle.program_lexer.specs.Coded.{decoded}
use Rattle.program_lexer.specs.declared.tokens.Token.{Token as Coded}
use Rattle.program_lexer.proofs.Coding.{kind-test}
use Rattle.program_numbering.specs.Names.{has, with_new, number_of}
use Rattle.program_numbering.specs.Numbering.{same_constant}
use Rattle.program_numbering.proofs.Numbers.{number-below}
use Rattle.program_parser.proofs.Tokens.{choose}
use Rattle.program_tables.specs.declared.tables.Entry.{Entry}
use Rattle.program_tables.specs.Tables.{meant, InsideText, AllInside, entries_from, with_entry}
use Rattle.program_tables.proofs.Entries.{stored, entries-added, inside-added}
use Rattle.program_entries.specs.Named.{variable_of, Stands, special_kinds, WordToken}
use Rattle.program_entries.specs.Variables.{special_count, specials, numbers_in, specials_in, Held, with_name, Enters}

-- ---- lengths

entry_length : (t : List ℕ) (n : ℕ) (e : Entry) → length (with_entry t n e) ≡ length t
unfolding with_entry
entry_length t n e =
    choose (λ (u : List ℕ). length u ≡ length t) (ltb (2 * n + 1) (length t)) _ t
    (λ h. length-set (set t (2 * n) e.value) (2 * n + 1) e.stop ∙ length-set t (2 * n) e.value) (λ h. refl)

entries-length : (s : List ℕ) (escapes : Bool) (t : List ℕ) (k n : ℕ) → length (entries_from s escapes t k n) ≡ n
unfolding entries_from
entries-length s escapes t k zero = refl
entries-length s escapes t k (suc n) = ap suc (entries-length s escapes t (suc k) n)

-- a table that has room holds so many
pub held-count : (s : List ℕ) (escapes : Bool) (table : List ℕ) (n : ℕ) (l : List Constant) → Held s escapes table n l
    → 2 * n ≤ length table → length l ≡ n
held-count s escapes table n l held fits =
    ap length (sym (held.few fits).0) ∙ entries-length s escapes table 0 n

-- ---- the special variables

numbers-length : (n : ℕ) (t : List ℕ) → length (numbers_in n t) ≡ length t
unfolding numbers_in
numbers-length zero t = refl
numbers-length (suc n) t =
    entry_length (numbers_in n t) n (record { value = n; stop = 0 }) ∙ numbers-length n t

-- one number more
pub number_more : (n : ℕ) (t : List ℕ) → 2 * n + 1 < length t
    → set (set (numbers_in n t) (2 * n) n) (2 * n + 1) 0 ≡ numbers_in (n + 1) t
unfolding numbers_in
number_more n t h =
    let fits : 2 * n + 1 < length (numbers_in n t) = omega (arith, numbers-length n t) in
    rw (add-one n) (sym (stored (numbers_in n t) n (record { value = n; stop = 0 }) fits))

up_to : ℕ → List Constant
up_to zero = []
up_to (suc n) = up_to n ++ (number n ∷ [])

number-last : (s : List ℕ) (n : ℕ)
    → up_to n ++ (meant s false (record { value = n; stop = 0 }) ∷ []) ≡ up_to n ++ (number n ∷ [])
unfolding meant
number-last s n = refl

module _ (s : List ℕ) (t : List ℕ) where
  abbrev Numbers : ℕ → Type 0
  Numbers n = (entries_from s false (numbers_in n t) 0 n ≡ up_to n) × AllInside s (numbers_in n t) n

  numbers : (n : ℕ) → 2 * n ≤ length t → Numbers n
  unfolding numbers_in up_to entries_from
  numbers zero h = (refl, λ k g. absurd (omega (arith, g)))
  numbers (suc n) h =
      let before = numbers n (omega arith) in
      let fits : 2 * n + 1 < length (numbers_in n t) = omega (arith, numbers-length n t) in
      let e : Entry = record { value = n; stop = 0 } in (
        entries-added (numbers_in n t) n e fits s false
            ∙ (ap (λ (m : List Constant). m ++ (meant s false e ∷ [])) before.0 ∙ number-last s n),
        inside-added (numbers_in n t) n e fits s before.1 (λ g. absurd (omega (arith, g))),
      )

  pub specials-held : 14 ≤ length t → Held s false (specials_in t) special_count specials
  unfolding up_to
  specials-held h =
      let q = numbers 7 (omega arith) in
      record { few = λ g. (q.0, q.1); many = λ g. absurd (omega (arith, g, numbers-length 7 t)) }

-- ---- one name more

module _ (l : List Constant) (a : Constant) where
  abbrev added : List Constant
  added = cond (has same_constant l a) l (l ++ (a ∷ []))

  added-longer : length l ≤ length added
  added-longer =
      choose (λ (m : List Constant). length l ≤ length m) (has same_constant l a) l (l ++ (a ∷ [])) (λ e. omega arith)
      (λ e. omega (arith, length-append l (a ∷ [])))

number-new : (l : List Constant) (a : Constant) → has same_constant l a ≡ false → number_of same_constant l a ≡ length l
unfolding has number_of
number-new [] a h = refl
number-new (b ∷ l) a h =
    let both = or-false (same_constant a b) (has same_constant l a) h in
    rw both.0 (ap suc (number-new l a both.1))

module _ (s : List ℕ) (t : Token) where
  abbrev Name : Constant
  Name = text (spelling s t)

  module _ (table : List ℕ) (n : ℕ) (l : List Constant) (held : Held s false table n l) where
    pub held-other : is user_name t ≡ false → Held s false table n (with_name s t l)
    unfolding with_name
    held-other e = rw e held

    longer : length l ≤ length (with_name s t l)
    unfolding with_name with_new
    longer =
        choose (λ (m : List Constant). length l ≤ length m) (is user_name t) (added l Name) l (λ e. added-longer l Name)
        (λ e. omega arith)

    pub held-full : length table < 2 * n → Held s false table n (with_name s t l)
    held-full h =
        record { few = λ g. absurd (omega (arith, g)); many = λ g. omega (arith, held.many h, longer) }

    module _ (user : is user_name t ≡ true) (fits : 2 * n ≤ length table) where
      named_by : with_name s t l ≡ added l Name
      unfolding with_name with_new
      named_by = rw user

      size : length l ≡ n
      size = held-count s false table n l held fits

      module _ (e : Entry) (k : ℕ) (means : meant s false e ≡ Name)
          (which : k ≡ number_of same_constant (entries_from s false table 0 n) (meant s false e)) where
        number_in : k ≡ number_of same_constant l Name
        number_in =
            which ∙ (ap (λ (m : List Constant). number_of same_constant m (meant s false e)) (held.few fits).0
            ∙ ap (number_of same_constant l) means)

        -- a name that is there
        known : k < n → has same_constant l Name ≡ true
        known h = go (has same_constant l Name) refl
          where
            go : (b : Bool) → has same_constant l Name ≡ b → b ≡ true
            go true g = refl
            go false g = absurd (omega (arith, h, number_in, number-new l Name g, size))

        unknown : n ≤ k → has same_constant l Name ≡ false
        unknown h = go (has same_constant l Name) refl
          where
            go : (b : Bool) → has same_constant l Name ≡ b → b ≡ false
            go false g = refl
            go true g = absurd (omega (arith, h, number_in, number-below same_constant l Name g, size))

        at-end : n ≤ k → k ≡ n
        at-end h = number_in ∙ (number-new l Name (unknown h) ∙ size)

        module _ (after : List ℕ) (stores : after ≡ cond (eqb k n) (with_entry table n e) table) where
          pub held-known : k < n → Held s false after n (with_name s t l)
          held-known h =
              let same : after ≡ table = stores ∙ rw (ne_eqb k n (λ z. omega (arith, z, h))) in
              let list : with_name s t l ≡ l = named_by ∙ rw (known h) in
              rw (same, list) held

          pub held_new : n ≤ k → InsideText s e → Held s false after (n + 1) (with_name s t l)
          held_new h one =
              let new : after ≡ with_entry table n e = stores ∙ rw (eq-eqb k n (at-end h)) in
              let list : with_name s t l ≡ l ++ (Name ∷ []) = named_by ∙ rw (unknown h) in
              rw (new, list)
              (record {
                few = λ g. roomy (omega (arith, g, entry_length table n e));
                many = λ g. omega (arith, g, entry_length table n e, length-append l (Name ∷ []), size);
              })
            where
              roomy : 2 * n + 1 < length table
                  → (entries_from s false (with_entry table n e) 0 (n + 1) ≡ l ++ (Name ∷ []))
                  × AllInside s (with_entry table n e) (n + 1)
              roomy room = (
                rw (add-one n) (entries-added table n e room s false ∙ rw ((held.few fits).0, means)),
                rw (add-one n) (inside-added table n e room s (held.few fits).1 one),
              )

-- ---- as the code has it

user-test : (t : Coded) → is user_name (decoded t) ≡ eqb t.kind 7
unfolding rank
user-test t = kind-test t.kind 7 (omega arith) (λ q. omega (arith, q))

module _ (s : List ℕ) (t : Coded) (table : List ℕ) (n : ℕ) where
  -- no user's name, or a table that is full
  pub enter-skips : (not (eqb t.kind 7) || ltb (length table / 2) n) ≡ true → Enters s (decoded t) table n table n
  enter-skips e l held =
      ⊎_elim (λ f. held-other s (decoded t) table n l held (user-test t ∙ not-true (eqb t.kind 7) f))
      (λ f. let full = ltb-true (length table / 2) n f in held-full s (decoded t) table n l held (omega arith))
      (or_cases (not (eqb t.kind 7)) (ltb (length table / 2) n) e)

  pub enter-user : (not (eqb t.kind 7) || ltb (length table / 2) n) ≡ false
      → (is user_name (decoded t) ≡ true) × (2 * n ≤ length table)
  enter-user e =
      let both = or-false (not (eqb t.kind 7)) (ltb (length table / 2) n) e in
      let room = ltb-false (length table / 2) n both.1 in
      (user-test t ∙ not-false (eqb t.kind 7) both.0, omega arith)

-- a user's name is no special variable
user-means : (s : List ℕ) (t : Token) → WordToken s t → is user_name t ≡ true
    → variable_of (spelling s t) ≡ text (spelling s t)
unfolding variable_of among rank
user-means s t w e =
    let seven : rank t.kind ≡ 7 = eqb-true (rank t.kind) 7 e in
    let no : is_one_of special_kinds t ≡ false = rw seven in
    rw (← w.special, no)

module _ (s : List ℕ) (t : Token) (table : List ℕ) (n : ℕ) (user : is user_name t ≡ true)
    (fits : 2 * n ≤ length table) (w : WordToken s t) (e : Entry)
    (stands : Stands s false (variable_of (spelling s t)) e) (k : ℕ)
    (which : k ≡ number_of same_constant (entries_from s false table 0 n) (meant s false e)) (after : List ℕ)
    (stores : after ≡ cond (eqb k n) (with_entry table n e) table) where
  means : meant s false e ≡ Name s t
  means = stands.means ∙ user-means s t w user

  pub enter-known : k < n → Enters s t table n after n
  enter-known h l held = held-known s t table n l held user fits e k means which after stores h

  pub enter-new : n ≤ k → Enters s t table n after (n + 1)
  enter-new h l held = held_new s t table n l held user fits e k means which after stores h stands.inside
