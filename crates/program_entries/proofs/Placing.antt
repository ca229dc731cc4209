-- The token at a place: what it may be, and the constants and names that are there.
use mathlib.Core.Path.{◌≡◌, refl, sym, ap, subst, ◌∙◌}
use mathlib.Core.Bool.{Bool, true, false, not, ◌||◌}
use mathlib.Core.List.{List, [], ◌∷◌}
use mathlib.Core.Option.{Option, some, none}
use Prim.Native.Nat.{ℕ, suc, ◌+◌, ◌-◌, ◌≤◌, ◌<◌, min}
use native.Mathlib.Numerals.{add-one}
use native.Mathlib.Omega.{arith}
use lib.ListN.{length, get_or, take, drop, length-drop, drop_of_length-le}
use lib.Seq.{drop-cons}
use lib.Dec.{eqb, ltb}
use borrow.Author.Tests.{eqb-true, le-leb, lt-leb, ltb-false, ne_eqb, not-true}
use borrow.Rule.Slice.PartMut.{mid_of}
use Rattle.lists.specs.Elements.{leading}
use Rattle.lists.specs.Parsing.{Parsed}
use Rattle.lists.proofs.Tests.{clash, or-false}
use Rattle.edition.specs.Limits.{filter_text, number_bound}
use Rattle.buffer.proofs.Lent.{tail-lent}
use Rattle.numeral.specs.Form.{is_digit}
use Rattle.numeral.specs.Judgement.{digits_value}
use Rattle.numeral.specs.Capped.{capped, ReadsDigits}
use Rattle.numeral.specs.declared.digits.Digits.{Digits}
use Rattle.image_format.specs.Image.{Constant, number, text}
use Rattle.program_tokens.specs.Kinds.{Kind, text_end, newline, bad, NUMBER, STRING, slash, div_assign, user_name, variable, fixed_variable, same, among, rank}
use Rattle.program_tokens.specs.Words.{words, operators, same_bytes, word_kind, operator_kind}
use Rattle.program_tokens.specs.Tokens.{Token, token, is, is_one_of, is_letter, is_word_byte, begins_with, number_token, word_token, read_string, string_token, operator_token, token_of, spelling, number_in, string_in}
use Rattle.program_reader.proofs.Tokens.{kind-has}
use Rattle.program_numbering.specs.Names.{has}
use Rattle.program_numbering.specs.Numbering.{special_names}
use Rattle.program_parser.specs.Meaning.{token_from, constant_at, name_at}
use Rattle.program_parser.proofs.Tokens.{choose, good-from}
use Rattle.program_tables.specs.declared.tables.Entry.{Entry}
use Rattle.program_tables.specs.Tables.{meant}
use Rattle.program_tables.proofs.Values.{value-end}
use Rattle.program_entries.specs.Named.{operand_bound, variable_of, string_from, Stands, special_kinds, WordToken}
use Rattle.program_entries.proofs.SpecialNames.{kind-special, other-plain}

-- ---- a token by its cases: a word, a NUMBER, or another

abbrev pub slashes : List Kind
slashes = slash ∷ div_assign ∷ []

-- kinds of tokens that are neither words nor NUMBERs
abbrev is_other : Kind → Bool
is_other k = not (among (text_end ∷ NUMBER ∷ variable ∷ fixed_variable ∷ []) k)

-- only operators are slashes, and an operator has two bytes at most
abbrev pub Short : Kind → ℕ → Type 0
Short k n = among slashes k ≡ true → n ≤ 2

-- kinds of words
abbrev is_word : Kind → Bool
is_word k = not (among (text_end ∷ NUMBER ∷ slashes) k)

word-is : (edition : ℕ) (w : List ℕ) → is_word (word_kind edition w) ≡ true
unfolding among rank
word-is edition w = kind-has is_word edition user_name w words refl refl

-- what the tests say
other-says : (k : Kind) → is_other k ≡ true
    → (same k text_end ≡ false) × ((same k NUMBER ≡ false) × (among special_kinds k ≡ false))
unfolding among
other-says k o =
    let first = or-false (same k text_end) (among (NUMBER ∷ variable ∷ fixed_variable ∷ []) k) (not-true _ o) in
    (first.0, or-false (same k NUMBER) (among special_kinds k) first.1)

word-says : (edition : ℕ) (w : List ℕ)
    → (same (word_kind edition w) text_end ≡ false)
    × ((same (word_kind edition w) NUMBER ≡ false) × (among slashes (word_kind edition w) ≡ false))
unfolding among
word-says edition w =
    let k : Kind = word_kind edition w in
    let first = or-false (same k text_end) (among (NUMBER ∷ slashes) k) (not-true _ (word-is edition w)) in
    (first.0, or-false (same k NUMBER) (among slashes k) first.1)

operator-is : (edition : ℕ) (w : List ℕ) → is_other (operator_kind edition w) ≡ true
unfolding among rank
operator-is edition w = kind-has is_other edition bad w operators refl refl

module _ (edition a : ℕ) (P : Token → Type 0) (b : ℕ) (l : List ℕ) where
  abbrev WordLength : ℕ
  WordLength = leading is_word_byte (b ∷ l)

  abbrev DigitCount : ℕ
  DigitCount = leading is_digit (b ∷ l)

  abbrev IfWord : Type 0
  IfWord = is_letter b ≡ true → P (token a (word_kind edition (take WordLength (b ∷ l))) WordLength)

  abbrev IfNumber : Type 0
  IfNumber = is_letter b ≡ false → digits_value (take DigitCount (b ∷ l)) ≤ number_bound → P (token a NUMBER DigitCount)

  abbrev IfOther : Type 0
  IfOther = (k : Kind) (n : ℕ) → is_letter b ≡ false → is_other k ≡ true → Short k n → P (token a k n)

  no-letter : eqb b 10 ≡ true → is_letter b ≡ false
  no-letter e = rw (eqb-true b 10 e)

  number-case : IfNumber → IfOther → is_letter b ≡ false → P (number_token a (b ∷ l))
  unfolding number_token among rank
  number-case f g e =
      let large = ltb number_bound (digits_value (take DigitCount (b ∷ l))) in
      let after = begins_with (λ c. is_letter c || eqb c 46) (drop DigitCount (b ∷ l)) in
      choose P (large || after) (token a bad DigitCount) (token a NUMBER DigitCount)
      (λ h. g bad DigitCount e refl (λ z. absurd (clash (sym z))))
      (λ h. f e (ltb-false number_bound (digits_value (take DigitCount (b ∷ l))) (or-false large after h).0))

  string-case : IfOther → is_letter b ≡ false → (r : Option (Parsed (List ℕ))) → P (string_token a l r)
  unfolding string_token among rank
  string-case g e none = g bad 1 e refl (λ z. absurd (clash (sym z)))
  string-case g e (some r) = g STRING (suc (length l - length r.rest)) e refl (λ z. absurd (clash (sym z)))

  two_bytes : length (take 2 (b ∷ l)) ≤ 2
  two_bytes = go l
    where
      go : (m : List ℕ) → length (take 2 (b ∷ m)) ≤ 2
      go [] = omega arith
      go (c ∷ m) = omega arith

  operator-case : IfOther → is_letter b ≡ false → P (operator_token edition a (b ∷ l))
  unfolding operator_token
  operator-case g e =
      choose P (same (operator_kind edition (take 2 (b ∷ l))) bad) (token a (operator_kind edition (take 1 (b ∷ l))) 1)
      (token a (operator_kind edition (take 2 (b ∷ l))) (length (take 2 (b ∷ l))))
      (λ h. g (operator_kind edition (take 1 (b ∷ l))) 1 e (operator-is edition (take 1 (b ∷ l))) (λ z. omega arith))
      (λ h.
      g (operator_kind edition (take 2 (b ∷ l))) (length (take 2 (b ∷ l))) e (operator-is edition (take 2 (b ∷ l)))
      (λ z. two_bytes))

  pub token-cases : IfWord → IfNumber → IfOther → P (token_of edition a (b ∷ l))
  unfolding token_of word_token among rank
  token-cases w f g =
      choose P (eqb b 10) (token a newline 1) _ (λ e. g newline 1 (no-letter e) refl (λ z. omega arith)) (λ e.
      choose P (is_letter b) (word_token edition a (b ∷ l)) _ (λ h. w h) (λ h.
      choose P (is_digit b) (number_token a (b ∷ l)) _ (λ d. number-case f g h) (λ d.
      choose P (eqb b 34) (string_token a l (read_string false l)) (operator_token edition a (b ∷ l))
      (λ q. string-case g h (read_string false l)) (λ q. operator-case g h))))

-- ---- where it starts, and that it is there

module _ (edition a : ℕ) where
  starts : (l : List ℕ) → (token_of edition a l).start ≡ a
  unfolding token_of
  starts [] = refl
  starts (b ∷ l) =
      token-cases edition a (λ t. t.start ≡ a) b l (λ h. refl) (λ h v. refl) (λ k n h o q. refl)

  begun : (b : ℕ) (l : List ℕ) → is text_end (token_of edition a (b ∷ l)) ≡ false
  unfolding rank
  begun b l =
      token-cases edition a (λ t. is text_end t ≡ false) b l
      (λ h. (word-says edition (take (leading is_word_byte (b ∷ l)) (b ∷ l))).0) (λ h v. refl)
      (λ k n h o q. (other-says k o).0)

  short : (l : List ℕ) → is_one_of slashes (token_of edition a l) ≡ true → (token_of edition a l).stop ≤ a + 2
  unfolding token_of among rank
  short [] = λ e. omega arith
  short (b ∷ l) =
      token-cases edition a (λ t. is_one_of slashes t ≡ true → t.stop ≤ a + 2) b l
      (λ h e. absurd (clash (sym e ∙ (word-says edition (take (leading is_word_byte (b ∷ l)) (b ∷ l))).1.1)))
      (λ h v e. absurd (clash (sym e))) (λ k n h o q e. omega (arith, q e))

  -- ---- NUMBERs

  abbrev NumberThere : List ℕ → Token → Type 0
  NumberThere m t =
      is NUMBER t ≡ true
      → (t ≡ token a NUMBER (leading is_digit m))
      × ((digits_value (take (leading is_digit m) m) ≤ number_bound) × (0 < length m))

  number-there : (l : List ℕ) → NumberThere l (token_of edition a l)
  unfolding token_of rank
  number-there [] = λ e. absurd (clash (sym e))
  number-there (b ∷ l) =
      token-cases edition a (NumberThere (b ∷ l)) b l
      (λ h e. absurd (clash (sym e ∙ (word-says edition (take (leading is_word_byte (b ∷ l)) (b ∷ l))).1.0)))
      (λ h v e. (refl, (v, omega arith))) (λ k n h o q e. absurd (clash (sym e ∙ (other-says k o).1.0)))

  -- ---- names

  abbrev SpecialThere : List ℕ → Token → Type 0
  SpecialThere m t = is_one_of special_kinds t ≡ has same_bytes special_names (take (t.stop - a) m)

  special-there : 1 ≤ edition → (b : ℕ) (l : List ℕ) → SpecialThere (b ∷ l) (token_of edition a (b ∷ l))
  unfolding among rank
  special-there first b l =
      token-cases edition a (SpecialThere (b ∷ l)) b l
      (λ h.
      let n : ℕ = leading is_word_byte (b ∷ l) in
      let counted : a + n - a ≡ n = omega arith in
      rw counted (kind-special edition (take n (b ∷ l)) first))
      (λ h v. sym (other-plain b l (a + leading is_digit (b ∷ l) - a) h))
      (λ k n h o q. (other-says k o).1.1 ∙ sym (other-plain b l (a + n - a) h))

-- ---- the same at a place of the text

module _ (edition : ℕ) (s : List ℕ) (x : ℕ) where
  pub from_start : (token_from edition s x).start ≡ x
  from_start = starts edition x (drop x s)

  pub from-short : is_one_of slashes (token_from edition s x) ≡ true → (token_from edition s x).stop ≤ x + 2
  from-short = short edition x (drop x s)

  pub from_past : length s ≤ x → token_from edition s x ≡ token x text_end 0
  unfolding token_of
  from_past h = rw (drop_of_length-le s {i = x} h)

  pub number-inside : is NUMBER (token_from edition s x) ≡ true → x < length s
  number-inside e = omega (arith, (number-there edition x (drop x s) e).1.1, length-drop x s)

  from-begun : x < length s → is text_end (token_from edition s x) ≡ false
  from-begun h = rw (drop-cons s x 0 h) (begun edition x (get_or s x 0) (drop (suc x) s))

  -- a name's token
  pub word_at : 1 ≤ edition → x < length s → WordToken s (token_from edition s x)
  unfolding spelling
  word_at first h =
      let g = good-from edition s 0 x (omega arith) (omega arith) in
      let longer = g.longer (from-begun h) in
      record {
        some = omega (arith, longer);
        ordered = g.ordered;
        within = g.within;
        special =
            rw (from_start, drop-cons s x 0 h) (special-there edition x first (get_or s x 0) (drop (suc x) s));
      }

  -- past the text's end the name is empty
  pub past-stands : length s ≤ x → x < operand_bound
      → Stands s false (variable_of (name_at edition s x)) (record { value = x + 1; stop = x + 1 })
  unfolding meant variable_of spelling has same_bytes
  past-stands h small =
      let none : x + 0 - x ≡ 0 = omega arith in
      let empty : name_at edition s x ≡ [] = rw (from_past h, none) in
      record {
        means = rw (ne_eqb (x + 1) 0 (λ z. omega (arith, z)), value-end s (x + 1) (x + 1) false (omega arith), empty);
        inside = λ g. absurd (omega (arith, g));
        bounded = omega arith;
      }

  -- ---- constants

  pub implied-stands : filter_text ≤ x → x < operand_bound
      → Stands s true (constant_at edition s x) (record { value = x - filter_text; stop = 0 })
  unfolding meant
  implied-stands h small =
      record { means = rw (le-leb filter_text x h); inside = λ g. absurd (omega (arith, g)); bounded = omega arith }

  module _ (h : x < filter_text) where
    pub text-stands : (e : Entry) → is NUMBER (token_from edition s x) ≡ false
        → Stands s true (text (string_from s (x + 1))) e → Stands s true (constant_at edition s x) e
    unfolding string_from string_in
    text-stands e n p =
        let same : text (string_from s (x + 1)) ≡ constant_at edition s x =
        rw (lt-leb filter_text x h, n, from_start, add-one x) in
        subst (λ (c : Constant). Stands s true c e) same p

    pub number-stands : is NUMBER (token_from edition s x) ≡ true → (r : Digits)
        → ReadsDigits r (mid_of x (length s - x) s)
        → Stands s true (constant_at edition s x) (record { value = r.value; stop = 0 })
    unfolding meant number_in spelling capped
    number-stands e r reads =
        let q = number-there edition x (drop x s) e in
        let n : ℕ = leading is_digit (drop x s) in
        let v : ℕ = digits_value (take n (drop x s)) in
        let kept : min v (number_bound + 1) ≡ v = omega (arith, q.1.0) in
        let read : r.value ≡ v =
        reads.valued
        ∙ (ap (λ (u : List ℕ). capped (digits_value (take (leading is_digit u) u))) (tail-lent s x) ∙ kept) in
        let counted : x + n - x ≡ n = omega arith in
        let said : number_in s (token_from edition s x) ≡ v = ap (number_in s) q.0 ∙ rw counted in
        record {
          means = rw (lt-leb filter_text x h, e) (ap number (read ∙ sym said));
          inside = λ g. absurd (omega (arith, g));
          bounded = omega (arith, read, q.1.0);
        }
