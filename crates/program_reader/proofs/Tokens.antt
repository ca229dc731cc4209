-- What a token says: an ERE token's bytes read, a name's are a name, a NUMBER's number is in range, and a STRING's
-- value has bytes where the text has.
use mathlib.Core.Path.{◌≡◌, refl, sym, ap, subst, ◌∙◌}
use mathlib.Core.Bool.{Bool, true, false, true≢false, not, cond, ◌&&◌, ◌||◌}
use mathlib.Core.List.{List, [], ◌∷◌}
use mathlib.Core.Option.{Option, some, none}
use Prim.Native.Nat.{ℕ, zero, suc, ◌+◌, ◌-◌, ◌≤◌, ◌<◌}
use native.Mathlib.Omega.{arith}
use lib.ListN.{length, take, drop}
use lib.Dec.{eqb, leb, ltb}
use borrow.Author.Tests.{not-true, ltb-true, ltb-false}
use Rattle.lists.specs.Elements.{Every, empty, cons, all, leading}
use Rattle.lists.specs.Parsing.{Parsed}
use Rattle.lists.proofs.Tests.{and-true}
use Rattle.edition.specs.Limits.{number_bound}
use Rattle.ere_meaning.specs.Tree.{Class, Ere}
use Rattle.ere_grammar.specs.Bytes.{Escape, lookup, string_escapes}
use Rattle.ere_grammar.specs.Read.{read_ere}
use Rattle.numeral.specs.Form.{is_digit}
use Rattle.numeral.specs.Judgement.{digits_value}
use Rattle.image_format.specs.Image.{Constant, number, text}
use Rattle.program_tokens.specs.Kinds.{Kind, text_end, newline, bad, bad-ere, NUMBER, STRING, ERE, user_name, slash, div_assign, call_paren, same, among, rank}
use Rattle.program_tokens.specs.Words.{Word, words, operators, kind_in, word_kind, operator_kind, same_bytes}
use Rattle.program_tokens.specs.Tokens.{Token, token, is, is_one_of, is_letter, is_word_byte, begins_with, skipped}
use Rattle.program_tokens.specs.Tokens.{number_token, word_token, with_byte, with_escape, read_string, string_token}
use Rattle.program_tokens.specs.Tokens.{operator_token, token_of, token_at, token_after, ere_length, ere_read, ere_token}
use Rattle.program_tokens.specs.Tokens.{as_operand, spelling, number_in, value_of, string_in, ere_in}
use Rattle.program_grammar.specs.Sets.{names}
use Rattle.program_reader.specs.Programs.{read_program}
use Rattle.program_reader.proofs.Fine.{Honest, Good, FineProgram, program-good}

-- a kind that is neither an ERE nor a name
abbrev pub Quiet : Kind → Bool
Quiet k = not (same k ERE) && not (among names k)

-- a kind that says nothing of its bytes: none of these, and no constant
abbrev Silent : Kind → Bool
Silent k = Quiet k && (not (same k NUMBER) && not (same k STRING))

choose : {A : Type 0} (P : A → Type 0) (b : Bool) (x y : A) → P x → P y → P (cond b x y)
choose P true x y p q = p
choose P false x y p q = q

-- what a test says of each kind of a table, and of the other kind, it says of the kind that the table gives
pub kind-has : (test : Kind → Bool) (edition : ℕ) (other : Kind) (w : List ℕ) (l : List Word) → test other ≡ true
    → all (λ (x : Word). test x.kind) l ≡ true → test (kind_in edition other w l) ≡ true
unfolding kind_in
kind-has test edition other w [] h each = h
kind-has test edition other w (x ∷ l) h each =
    let both = and-true (test x.kind) (all (λ (y : Word). test y.kind) l) each in
    choose (λ (k : Kind). test k ≡ true) (leb x.since edition && same_bytes w x.spelling) x.kind
    (kind_in edition other w l) both.0 (kind-has test edition other w l h both.1)

pub operator-quiet : (edition : ℕ) (w : List ℕ) → Quiet (operator_kind edition w) ≡ true
unfolding rank among
operator-quiet edition w = kind-has Quiet edition bad w operators refl refl

operator-silent : (edition : ℕ) (w : List ℕ) → Silent (operator_kind edition w) ≡ true
unfolding rank among
operator-silent edition w = kind-has Silent edition bad w operators refl refl

-- a word is no ERE and no constant
word-no : (k : Kind) → not (same user_name k) ≡ true → all (λ (x : Word). not (same x.kind k)) words ≡ true
    → (edition : ℕ) (w : List ℕ) → same (word_kind edition w) k ≡ false
word-no k h each edition w = not-true _ (kind-has (λ j. not (same j k)) edition user_name w words h each)

-- ---- bytes of a text

abbrev pub Bytes : List ℕ → Type 0
Bytes l = Every (λ b. b < 256) l

drop-bytes : (n : ℕ) (l : List ℕ) → Bytes l → Bytes (drop n l)
drop-bytes zero l h = h
drop-bytes (suc n) [] h = empty
drop-bytes (suc n) (b ∷ l) (cons x h) = drop-bytes n l h

take-bytes : (n : ℕ) (l : List ℕ) → Bytes l → Bytes (take n l)
take-bytes zero l h = empty
take-bytes (suc n) [] h = empty
take-bytes (suc n) (b ∷ l) (cons x h) = cons x (take-bytes n l h)

-- the value of a STRING

abbrev Value : Option (Parsed (List ℕ)) → Type 0
Value none = Unit
Value (some g) = Bytes g.value

with_byte_lem : (b : ℕ) (r : Option (Parsed (List ℕ))) → b < 256 → Value r → Value (with_byte b r)
unfolding with_byte
with_byte_lem b none h v = tt
with_byte_lem b (some g) h v = cons h v

abbrev spells_byte : Escape → Bool
spells_byte e = ltb e.byte 256

escape-byte : (l : List Escape) (b : ℕ) → all spells_byte l ≡ true → (r : Option (Parsed (List ℕ))) → Value r
    → Value (with_escape (lookup l b) r)
unfolding lookup with_escape
escape-byte [] b each r v = tt
escape-byte (e ∷ l) b each r v =
    let both = and-true (spells_byte e) (all spells_byte l) each in
    choose (λ (o : Option ℕ). Value (with_escape o r)) (eqb b e.letter) _ _
    (with_byte_lem e.byte r (ltb-true e.byte 256 both.0) v) (escape-byte l b both.1 r v)

string_bytes : (escaped : Bool) (l : List ℕ) → Bytes l → Value (read_string escaped l)
unfolding read_string
string_bytes escaped [] h = tt
string_bytes escaped (b ∷ l) (cons x h) =
    choose Value escaped _ _ (escape-byte string_escapes b refl (read_string false l) (string_bytes false l h))
    (choose Value (eqb b 34) _ _ empty
    (choose Value (eqb b 10) _ _ tt
    (choose Value (eqb b 92) _ _ (string_bytes true l h)
    (with_byte_lem b (read_string false l) x (string_bytes false l h)))))

value-bytes : (r : Option (Parsed (List ℕ))) → Value r → Bytes (value_of r)
unfolding value_of
value-bytes none v = empty
value-bytes (some g) v = v

module _ (edition : ℕ) (s : List ℕ) where
  -- bytes, where the text has bytes alone
  abbrev pub OfBytes : List ℕ → Type 0
  OfBytes l = Bytes s → Bytes l

  -- an ERE that reads, and one of the text; a name
  abbrev pub Readable : List ℕ → Type 0
  Readable r = (e : Ere Class) × (read_ere edition r ≡ some e)

  abbrev pub Spelled : List ℕ → Type 0
  Spelled r = (Readable r) × (OfBytes r)

  abbrev pub IsName : List ℕ → Type 0
  IsName v = among names (word_kind edition v) ≡ true

  -- a constant that a token can say
  abbrev pub Said : Constant → Type 0
  Said (number n) = n ≤ number_bound
  Said (text l) = OfBytes l

  abbrev True : Token → Type 0
  True t = Honest edition s Spelled IsName Said t

  quiet : (a : ℕ) (k : Kind) (n : ℕ) → Silent k ≡ true → True (token a k n)
  quiet a k n q =
      let both = and-true (Quiet k) (not (same k NUMBER) && not (same k STRING)) q in
      let first = and-true (not (same k ERE)) (not (among names k)) both.0 in
      let last = and-true (not (same k NUMBER)) (not (same k STRING)) both.1 in (
        (λ e. absurd (true≢false (sym e ∙ not-true _ first.0))),
        (λ e. absurd (true≢false (sym e ∙ not-true _ first.1))),
        (λ e. absurd (true≢false (sym e ∙ not-true _ last.0))),
        (λ e. absurd (true≢false (sym e ∙ not-true _ last.1))),
      )

  operator-true : (a : ℕ) (l : List ℕ) → True (operator_token edition a l)
  unfolding operator_token
  operator-true a l =
      choose True (same (operator_kind edition (take 2 l)) bad) _ _
      (quiet a (operator_kind edition (take 1 l)) 1 (operator-silent edition (take 1 l)))
      (quiet a (operator_kind edition (take 2 l)) (length (take 2 l)) (operator-silent edition (take 2 l)))

  string-true : (a : ℕ) (l : List ℕ) (m : Option (Parsed (List ℕ))) → True (string_token a l m)
  unfolding string_token string_in rank among
  string-true a l none = quiet a bad 1 refl
  string-true a l (some g) = (
    (λ q. absurd (true≢false (sym q))),
    (λ q. absurd (true≢false (sym q))),
    (λ q. absurd (true≢false (sym q))),
    (λ q b. let l = drop (suc a) s in
        value-bytes (read_string false l) (string_bytes false l (drop-bytes (suc a) s b))),
  )

  number-true : (a : ℕ) (l : List ℕ) → l ≡ drop a s → True (number_token a l)
  unfolding number_token number_in spelling rank among
  number-true a l e =
      let n : ℕ = leading is_digit l in
      by n (ltb number_bound (digits_value (take n l))) refl (begins_with (λ b. is_letter b || eqb b 46) (drop n l))
    where
      small : (n : ℕ) → ltb number_bound (digits_value (take n l)) ≡ false → number_in s (token a NUMBER n) ≤ number_bound
      small n h =
          let counted : n ≡ a + n - a = omega arith in
          let same_bytes_lem : take n l ≡ take (a + n - a) (drop a s) =
          subst (λ (m : List ℕ). take n l ≡ take (a + n - a) m) e (ap (λ (k : ℕ). take k l) counted) in
          subst (λ (m : List ℕ). digits_value m ≤ number_bound) same_bytes_lem
          (ltb-false number_bound (digits_value (take n l)) h)

      by : (n : ℕ) (large : Bool) → ltb number_bound (digits_value (take n l)) ≡ large → (letter : Bool)
          → True (cond (large || letter) (token a bad n) (token a NUMBER n))
      by n true h letter = quiet a bad n refl
      by n false h true = quiet a bad n refl
      by n false h false = (
        (λ q. absurd (true≢false (sym q))),
        (λ q. absurd (true≢false (sym q))),
        (λ q. small n h),
        (λ q. absurd (true≢false (sym q))),
      )

  word-true : (a : ℕ) (l : List ℕ) → l ≡ drop a s → True (word_token edition a l)
  unfolding word_token spelling rank
  word-true a l e =
      let n : ℕ = leading is_word_byte l in
      let w : List ℕ = take n l in
      let counted : n ≡ a + n - a = omega arith in
      let same_bytes_lem : w ≡ take (a + n - a) (drop a s) =
      subst (λ (m : List ℕ). take n l ≡ take (a + n - a) m) e (ap (λ (k : ℕ). take k l) counted) in (
        (λ q. absurd (true≢false (sym q ∙ word-no ERE refl refl edition w))),
        (λ q. subst IsName same_bytes_lem q),
        (λ q. absurd (true≢false (sym q ∙ word-no NUMBER refl refl edition w))),
        (λ q. absurd (true≢false (sym q ∙ word-no STRING refl refl edition w))),
      )

  of-true : (a : ℕ) (l : List ℕ) → l ≡ drop a s → True (token_of edition a l)
  unfolding token_of rank among
  of-true a [] e = quiet a text_end 0 refl
  of-true a (b ∷ l) e =
      choose True (eqb b 10) _ _ (quiet a newline 1 refl)
      (choose True (is_letter b) _ _ (word-true a (b ∷ l) e)
      (choose True (is_digit b) _ _ (number-true a (b ∷ l) e)
      (choose True (eqb b 34) _ _ (string-true a l (read_string false l)) (operator-true a (b ∷ l)))))

  pub at_true : (p : ℕ) → True (token_at edition s p)
  unfolding token_at
  at_true p = of-true (p + skipped false (drop p s)) _ refl

  pub after-true : (t : Token) → True (token_after edition s t)
  unfolding token_after rank among
  after-true t =
      choose True (is user_name t && begins_with (λ b. eqb b 40) (drop t.stop s)) (token t.stop call_paren 1) (token_at edition s t.stop) (quiet t.stop call_paren 1 refl)
      (at_true t.stop)

  ere-true : (a n : ℕ) (m : Option (Ere Class)) → read_ere edition (take n (drop (suc a) s)) ≡ m → True (ere_read a (2 + n) m)
  unfolding ere_read ere_in rank among
  ere-true a n none e = quiet a bad-ere (2 + n) refl
  ere-true a n (some x) e =
      let counted : n ≡ a + (2 + n) - a - 2 = omega arith in
      let bytes : take n (drop (suc a) s) ≡ take (a + (2 + n) - a - 2) (drop (suc a) s) = ap (λ (k : ℕ). take k (drop (suc a) s)) counted in (
        (λ q. (
          (x, subst (λ (l : List ℕ). read_ere edition l ≡ some x) bytes e),
          (λ b. subst Bytes bytes (take-bytes n (drop (suc a) s) (drop-bytes (suc a) s b))),
        )),
        (λ q. absurd (true≢false (sym q))),
        (λ q. absurd (true≢false (sym q))),
        (λ q. absurd (true≢false (sym q))),
      )

  ere-token-true : (a : ℕ) (m : Option ℕ) → True (ere_token edition a (drop (suc a) s) m)
  unfolding ere_token rank among
  ere-token-true a none = quiet a bad 1 refl
  ere-token-true a (some n) = ere-true a n _ refl

  pub operand-true : (t : Token) → True t → True (as_operand edition s t)
  unfolding as_operand
  operand-true t h = choose True (is_one_of (slash ∷ div_assign ∷ []) t) _ t (ere-token-true t.start (ere_length false (drop (suc t.start) s))) h

  -- every tree that is read is fine
  pub read-fine : Good edition s Spelled IsName Said (FineProgram edition s Spelled IsName Said after-true operand-true)
      (read_program edition s)
  read-fine = program-good edition s Spelled IsName Said after-true operand-true (at_true 0)
