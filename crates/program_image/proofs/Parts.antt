-- Laws on the bytes of entries and instructions.
use mathlib.Core.Path.{◌≡◌, refl, sym, ap, ◌∙◌}
use mathlib.Core.Bool.{Bool, true, false, cond, beq}
use mathlib.Core.List.{List, [], ◌∷◌, ◌++◌, map, append-nil}
use Prim.Native.Nat.{ℕ, zero, suc, ◌+◌, ◌-◌, ◌*◌, ◌≤◌, ◌<◌}
use native.Mathlib.Numerals.{add-one}
use native.Mathlib.Omega.{arith}
use lib.ListN.{length, get_or, take, length-append, length-drop, length-map}
use lib.Seq.{length-take-le}
use lib.Dec.{eqb, ltb, leb}
use borrow.Author.Tests.{eq-eqb, ne_eqb, eqb-true, ltb-true, ltb-false}
use Rattle.lists.specs.Elements.{nth, all_below}
use Rattle.lists.proofs.Tests.{beq_same}
use Rattle.lists.proofs.Elements.{below_at}
use Rattle.edition.specs.Limits.{filter_text}
use Rattle.image_format.specs.Codes.{codes, code_count, code_of}
use Rattle.image_format.specs.Image.{Constant, number, text, Instruction}
use Rattle.image_format.specs.Numbers.{coded}
use Rattle.image_format.specs.Writing.{all, bytes, instruction_in}
use Rattle.opcodes.specs.Rows.{operands_in}
use Rattle.varint.proofs.Puts.{coded-short}
use Rattle.program_words.specs.Words.{op_in, depth_in, first_in}
use Rattle.program_tables.specs.declared.tables.Entry.{Entry}
use Rattle.program_tables.specs.Texts.{unescape, value_of, between, value_in}
use Rattle.program_tables.specs.Tables.{entry_in, meant, InsideText, entries_from}
use Rattle.program_tables.proofs.Values.{between_more, between-end}
use Rattle.program_image.specs.Written.{text_of, entry_bytes, has_operand, instruction_of, instructions_of}

-- the most bytes of an entry, two numbers and a text, and of an instruction, three numbers
abbrev pub entry_most : ℕ
entry_most = 8208

abbrev pub instruction_most : ℕ
instruction_most = 24

-- ---- values

unescape-short : (x : Bool) (l : List ℕ) → length (unescape x l) ≤ cond x (suc (length l)) (length l)
unfolding unescape
unescape-short true [] = omega arith
unescape-short false [] = omega arith
unescape-short true (b ∷ l) =
    let h = unescape-short false l in
    omega (arith, h)
unescape-short false (b ∷ l) = go (eqb b 92) (unescape-short true l) (unescape-short false l)
  where
    go : (x : Bool) → length (unescape true l) ≤ suc (length l) → length (unescape false l) ≤ length l
        → length (cond x (unescape true l) (b ∷ unescape false l)) ≤ suc (length l)
    go true g h = g
    go false g h = omega (arith, h)

taken-short : (n : ℕ) (s : List ℕ) → length (take n s) ≤ length s
taken-short zero s = omega arith
taken-short (suc n) [] = omega arith
taken-short (suc n) (b ∷ s) = omega (arith, taken-short n s)

between-short : (s : List ℕ) (a b : ℕ) → length (between s a b) ≤ length s
between-short s a b = omega (arith, length-drop a (take b s), taken-short b s)

-- a value is no longer than the text
pub value-short : (s : List ℕ) (escapes : Bool) (a b : ℕ) → length (value_in s escapes a b) ≤ length s
unfolding value_of
value-short s true a b = omega (arith, unescape-short false (between s a b), between-short s a b)
value-short s false a b = between-short s a b

-- ---- entries

-- places between which there is something are in the text
pub inside-short : (s : List ℕ) (e : Entry) → InsideText s e → e.stop - e.value ≤ length s
inside-short s e inside = go (ltb e.value e.stop) refl
  where
    go : (x : Bool) → ltb e.value e.stop ≡ x → e.stop - e.value ≤ length s
    go true h =
        let small = inside (ltb-true e.value e.stop h) in
        omega (arith, small)
    go false h =
        let less = ltb-false e.value e.stop h in
        omega (arith, less)

module _ (s : List ℕ) (e : Entry) where
  abbrev EntryBytes : Bool → List ℕ
  EntryBytes constants = entry_bytes constants (meant s constants e)

  false-bytes : EntryBytes false ≡ bytes coded (value_in s false e.value e.stop)
  unfolding entry_bytes meant text_of value_of
  false-bytes = go (eqb e.stop 0) refl
    where
      go : (x : Bool) → eqb e.stop 0 ≡ x
          → bytes coded (text_of (cond x (number e.value) (text (value_in s false e.value e.stop))))
          ≡ bytes coded (value_in s false e.value e.stop)
      go true f =
          let none = eqb-true e.stop 0 f in
          ap (λ (l : List ℕ). bytes coded l) (sym (between-end s e.value e.stop (omega (arith, none))))
      go false f = refl

  pub ere-bytes : (constants : Bool) → constants ≡ false
      → bytes coded (value_in s false e.value e.stop) ≡ EntryBytes constants
  ere-bytes constants h = sym (ap EntryBytes h ∙ false-bytes)

  true-number : e.stop ≡ 0 → EntryBytes true ≡ coded 0 ++ coded e.value
  unfolding entry_bytes meant
  true-number z = rw (eq-eqb e.stop 0 z)

  pub number-bytes : (constants : Bool) → constants ≡ true → e.stop ≡ 0
      → coded 0 ++ coded e.value ≡ EntryBytes constants
  number-bytes constants h z = sym (ap EntryBytes h ∙ true-number z)

  true_text : (e.stop ≡ 0 → ⊥) → EntryBytes true ≡ coded 1 ++ bytes coded (value_in s true e.value e.stop)
  unfolding entry_bytes meant
  true_text d = rw (ne_eqb e.stop 0 d)

  pub text-bytes : (constants : Bool) → constants ≡ true → (e.stop ≡ 0 → ⊥)
      → coded 1 ++ bytes coded (value_in s true e.value e.stop) ≡ EntryBytes constants
  text-bytes constants h d = sym (ap EntryBytes h ∙ true_text d)

  text-short : (escapes : Bool) → length (text_of (meant s escapes e)) ≤ length s
  unfolding meant text_of
  text-short escapes = go (eqb e.stop 0)
    where
      go : (x : Bool)
          → length (text_of (cond x (number e.value) (text (value_in s escapes e.value e.stop)))) ≤ length s
      go true = omega arith
      go false = value-short s escapes e.value e.stop

constant-short : (constants : Bool) (c : Constant) → length (text_of c) ≤ filter_text
    → length (entry_bytes constants c) ≤ entry_most
unfolding entry_bytes text_of
constant-short true (number n) h =
    omega (arith, coded-short 0, coded-short n, length-append (coded 0) (coded n))
constant-short true (text l) h =
    omega (
      arith,
      h,
      coded-short 1,
      coded-short (length l),
      length-append (coded 1) (coded (length l) ++ l),
      length-append (coded (length l)) l,
    )
constant-short false (number n) h = omega (arith, coded-short 0, length-append (coded 0) [])
constant-short false (text l) h = omega (arith, h, coded-short (length l), length-append (coded (length l)) l)

pub entry-short : (s : List ℕ) (constants : Bool) (e : Entry) → length s ≤ filter_text
    → length (entry_bytes constants (meant s constants e)) ≤ entry_most
entry-short s constants e h =
    let t = text-short s e constants in
    constant-short constants (meant s constants e) (omega (arith, t, h))

module _ (s : List ℕ) (constants : Bool) (table : List ℕ) where
  pub entries-short : (k n : ℕ) → length s ≤ filter_text
      → length (all (entry_bytes constants) (entries_from s constants table k n)) ≤ entry_most * n
  unfolding all entries_from
  entries-short k zero h = omega arith
  entries-short k (suc n) h =
      let e = meant s constants (entry_in table k) in
      omega (
        arith,
        entry-short s constants (entry_in table k) h,
        entries-short (suc k) n h,
        length-append (entry_bytes constants e) (all (entry_bytes constants) (entries_from s constants table (suc k) n)),
      )

  -- the entries from k on: one more, and none
  pub entries-start : (n : ℕ) → entries_from s constants table 0 (n - 0) ≡ entries_from s constants table 0 n
  entries-start n =
      let same : n - 0 ≡ n = omega arith in
      ap (entries_from s constants table 0) same

  pub entries-more : (k n : ℕ) → k < n
      → entries_from s constants table k (n - k)
      ≡ meant s constants (entry_in table k) ∷ entries_from s constants table (k + 1) (n - (k + 1))
  unfolding entries_from
  entries-more k n h =
      let one : n - k ≡ suc (n - (k + 1)) = omega (arith, h) in
      ap (entries_from s constants table k) one
      ∙ ap (λ (j : ℕ). meant s constants (entry_in table k) ∷ entries_from s constants table j (n - (k + 1)))
      (sym (add-one k))

  pub entries-end : (k n : ℕ) → n ≤ k → entries_from s constants table k (n - k) ≡ []
  unfolding entries_from
  entries-end k n h =
      let none : n - k ≡ 0 = omega (arith, h) in
      rw none

  -- and their bytes
  abbrev pub entries_left : ℕ → ℕ → List ℕ
  entries_left k n = all (entry_bytes constants) (entries_from s constants table k n)

  pub entries-first : (n : ℕ) → entries_left 0 (n - 0) ≡ entries_left 0 n
  entries-first n = ap (all (entry_bytes constants)) (entries-start n)

  pub entries_next : (k n : ℕ) → k < n
      → entries_left k (n - k)
      ≡ entry_bytes constants (meant s constants (entry_in table k)) ++ entries_left (k + 1) (n - (k + 1))
  unfolding all
  entries_next k n h = ap (all (entry_bytes constants)) (entries-more k n h)

  pub entries_none : (k n : ℕ) → n ≤ k → entries_left k (n - k) ≡ []
  unfolding all
  entries_none k n h = ap (all (entry_bytes constants)) (entries-end k n h)

pub entries-count : (s : List ℕ) (escapes : Bool) (table : List ℕ) (k n : ℕ)
    → length (entries_from s escapes table k n) ≡ n
unfolding entries_from
entries-count s escapes table k zero = refl
entries-count s escapes table k (suc n) = ap suc (entries-count s escapes table (suc k) n)

-- ---- instructions

pub operand-none : (op : ℕ) → (op ≡ 1 → ⊥) → (op ≡ 2 → ⊥) → (op ≡ 3 → ⊥) → (op ≡ 22 → ⊥) → (op ≡ 23 → ⊥)
    → (op ≡ 27 → ⊥) → (op ≡ 28 → ⊥) → (op ≡ 29 → ⊥) → false ≡ has_operand op
unfolding has_operand
operand-none op a b c d e f g h =
    rw (
      ne_eqb op 1 a,
      ne_eqb op 2 b,
      ne_eqb op 3 c,
      ne_eqb op 22 d,
      ne_eqb op 23 e,
      ne_eqb op 27 f,
      ne_eqb op 28 g,
      ne_eqb op 29 h,
    )

-- the codes that name a number are those of the table that do
operand_rows : (edition : ℕ)
    → all_below (λ n. beq (has_operand n) (leb 1 (operands_in (code_of edition n)))) 32 ≡ true
unfolding all_below has_operand code_of code_count codes nth
operand_rows edition = refl

pub operand-table : (edition op : ℕ) → op < code_count edition
    → has_operand op ≡ leb 1 (operands_in (code_of edition op))
unfolding code_count
operand-table edition op h =
    beq_same (has_operand op) (leb 1 (operands_in (code_of edition op)))
    (below_at (λ n. beq (has_operand n) (leb 1 (operands_in (code_of edition n)))) 32 (operand_rows edition) op h)

module _ (w : ℕ) where
  pub operand-bytes : has_operand (op_in w) ≡ true
      → instruction_in coded (instruction_of w) ≡ coded (op_in w) ++ (coded (depth_in w) ++ coded (first_in w))
  unfolding instruction_of all
  operand-bytes h = rw (h, append-nil (coded (first_in w)))

  pub plain-bytes : has_operand (op_in w) ≡ false
      → instruction_in coded (instruction_of w) ≡ coded (op_in w) ++ coded (depth_in w)
  unfolding instruction_of all
  plain-bytes h = rw (h, append-nil (coded (depth_in w)))

  pub instruction-short : length (instruction_in coded (instruction_of w)) ≤ instruction_most
  instruction-short = go (has_operand (op_in w)) refl
    where
      a : List ℕ
      a = coded (op_in w)

      b : List ℕ
      b = coded (depth_in w)

      x : List ℕ
      x = coded (first_in w)

      go : (t : Bool) → has_operand (op_in w) ≡ t → length (instruction_in coded (instruction_of w)) ≤ instruction_most
      go true h =
          omega (
            arith,
            ap length (operand-bytes h),
            coded-short (op_in w),
            coded-short (depth_in w),
            coded-short (first_in w),
            length-append a (b ++ x),
            length-append b x,
          )
      go false h =
          omega (
            arith,
            ap length (plain-bytes h),
            coded-short (op_in w),
            coded-short (depth_in w),
            length-append a b,
          )

pub instructions-short : (section : List ℕ) (n : ℕ)
    → length (all (instruction_in coded) (instructions_of section n)) ≤ instruction_most * n
unfolding all
instructions-short section zero = omega arith
instructions-short [] (suc n) = omega arith
instructions-short (w ∷ section) (suc n) =
    omega (
      arith,
      instruction-short w,
      instructions-short section n,
      length-append (instruction_in coded (instruction_of w)) (all (instruction_in coded) (instructions_of section n)),
    )

-- the instructions from i on: one more, and none
abbrev pub instructions_from : List ℕ → ℕ → ℕ → List Instruction
instructions_from section i n = map instruction_of (between section i n)

-- and their bytes
abbrev pub code_left : List ℕ → ℕ → ℕ → List ℕ
code_left section i n = all (instruction_in coded) (instructions_from section i n)

module _ (section : List ℕ) (i n : ℕ) where
  pub instructions-more : i < n → n ≤ length section
      → instructions_from section i n ≡ instruction_of (get_or section i 0) ∷ instructions_from section (i + 1) n
  instructions-more h g = ap (map instruction_of) (between_more section i n h g)

  pub instructions-end : n ≤ i → instructions_from section i n ≡ []
  instructions-end h = ap (map instruction_of) (between-end section i n h)

  pub code-next : i < n → n ≤ length section
      → code_left section i n ≡ instruction_in coded (instruction_of (get_or section i 0)) ++ code_left section (i + 1) n
  unfolding all
  code-next h g = ap (all (instruction_in coded)) (instructions-more h g)

  pub code-none : n ≤ i → code_left section i n ≡ []
  unfolding all
  code-none h = ap (all (instruction_in coded)) (instructions-end h)

pub instructions-count : (section : List ℕ) (n : ℕ) → n ≤ length section → length (instructions_of section n) ≡ n
instructions-count section n h = length-map (take n section) instruction_of ∙ length-take-le n section h
