-- Laws on tokens as the code has them.
use mathlib.Core.Path.{◌≡◌, refl, sym, ap, ◌∙◌}
use mathlib.Core.Bool.{Bool, true, false, not, cond, ◌&&◌, ◌||◌}
use mathlib.Core.List.{List, [], ◌∷◌}
use mathlib.Core.Option.{Option, some, none}
use Prim.Native.Nat.{ℕ, suc, ◌+◌, ◌-◌, ◌≤◌, ◌<◌, min}
use native.Mathlib.Numerals.{add-one}
use native.Mathlib.Omega.{arith}
use lib.Dec.{eqb, leb, ltb}
use lib.ListN.{length, get_or, take, drop, drop_of_length-le, length-drop, get_or-eq_default}
use lib.Seq.{drop-cons, drop-drop, take_all}
use borrow.Author.Tests.{leb-true, leb-false, eqb-true, eq-eqb, ne_eqb, ltb-true, ltb-false, lt-ltb, le-ltb, not-true}
use borrow.Rule.Slice.PartMut.{mid_of}
use Rattle.std.specs.Prelude.{Some, None}
use Rattle.lists.specs.Elements.{all_below, leading}
use Rattle.lists.specs.Parsing.{Parsed, parsed}
use Rattle.lists.proofs.Tests.{and-true, clash}
use Rattle.lists.proofs.Elements.{below_at}
use Rattle.lists.proofs.Leading.{leading_le}
use Rattle.edition.specs.Limits.{number_bound}
use Rattle.buffer.proofs.Lent.{tail-lent}
use Rattle.ere_meaning.specs.Tree.{Class, Ere}
use Rattle.ere_grammar.specs.Bytes.{lookup, string_escapes}
use Rattle.ere_grammar.specs.Read.{read_ere}
use Rattle.numeral.specs.Form.{is_digit}
use Rattle.numeral.specs.Judgement.{digits_value}
use Rattle.numeral.specs.Capped.{capped, ReadsDigits}
use Rattle.numeral.specs.declared.digits.Digits.{Digits}
use Rattle.program_tokens.specs.Kinds.{Kind, kinds, newline, bad, NUMBER, slash, div_assign, user_name, rank, among}
use Rattle.program_tokens.specs.Words.{word_kind, operator_kind}
use Rattle.program_tokens.specs.Tokens.{token, is, is_one_of, is_letter, is_word_byte, begins_with, skipped, number_token, word_token, read_string, with_byte, with_escape, string_token, operator_token, token_of, token_at, token_after, ere_length, one_more, ere_read, ere_token, as_operand}
use Rattle.program_lexer.specs.Coded.{kind_count, coded, kind_of, decoded}
use Rattle.program_scanner.specs.Closings.{string_close, ere_close}
use Rattle.program_lexer.specs.declared.tokens.Token.{Token as Coded}

-- a token of the code
abbrev pub made : ℕ → ℕ → ℕ → Coded
made a k e = record { start = a; kind = k; stop = e }

-- what a list goes on with at a place; where a byte 0 is not of the kind, the text's end may count as one
pub begins-at : (kind : ℕ → Bool) (s : List ℕ) (k : ℕ) → kind 0 ≡ false → begins_with kind (drop k s) ≡ kind (get_or s k 0)
unfolding begins_with
begins-at kind s k h = go (ltb k (length s)) refl
  where
    go : (b : Bool) → ltb k (length s) ≡ b → begins_with kind (drop k s) ≡ kind (get_or s k 0)
    go true e = ap (begins_with kind) (drop-cons s k 0 (ltb-true k (length s) e))
    go false e =
        let past = ltb-false k (length s) e in
        ap (begins_with kind) (drop_of_length-le s {i = k} past) ∙ sym h ∙ ap kind (sym (get_or-eq_default s 0 past))

-- ---- words

pub word-coded : (edition a n k : ℕ) (s : List ℕ) → n ≡ leading is_word_byte (drop a s)
    → k ≡ rank (word_kind edition (mid_of a (a + n - a) s)) → made a k (a + n) ≡ coded (word_token edition a (drop a s))
unfolding word_token
word-coded edition a n k s e f =
    let count : a + n - a ≡ n = omega arith in
    let same : k ≡ rank (word_kind edition (take n (drop a s))) = f ∙ ap (λ (m : ℕ). rank (word_kind edition (take m (drop a s)))) count in
    rw (same, e)

-- ---- numbers

capped-large : (n : ℕ) → ltb number_bound (capped n) ≡ ltb number_bound n
unfolding capped
capped-large n = go (ltb number_bound n) refl
  where
    go : (b : Bool) → ltb number_bound n ≡ b → ltb number_bound (min n (number_bound + 1)) ≡ b
    go true e = let large = ltb-true number_bound n e in lt-ltb number_bound (min n (number_bound + 1)) (omega arith)
    go false e = let small = ltb-false number_bound n e in le-ltb number_bound (min n (number_bound + 1)) (omega arith)

module _ (s : List ℕ) (a : ℕ) (r : Digits) (reads : ReadsDigits r (mid_of a (length s - a) s)) where
  counted : r.count ≡ leading is_digit (drop a s)
  counted = reads.counted ∙ ap (leading is_digit) (tail-lent s a)

  pub number-inside : a ≤ length s → a + r.count ≤ length s
  number-inside h = omega (arith, counted, leading_le is_digit (drop a s), length-drop a s)

  large : ltb number_bound r.value ≡ ltb number_bound (digits_value (take (leading is_digit (drop a s)) (drop a s)))
  large =
      ap (ltb number_bound) (reads.valued ∙ ap (λ (u : List ℕ). capped (digits_value (take (leading is_digit u) u))) (tail-lent s a))
      ∙ capped-large (digits_value (take (leading is_digit (drop a s)) (drop a s)))

  followed : begins_with (λ b. is_letter b || eqb b 46) (drop (leading is_digit (drop a s)) (drop a s))
      ≡ (is_letter (get_or s (a + r.count) 0) || eqb (get_or s (a + r.count) 0) 46)
  followed =
      ap (begins_with (λ b. is_letter b || eqb b 46)) (drop-drop (leading is_digit (drop a s)) a s ∙ ap (λ (n : ℕ). drop (a + n) s) (sym counted))
      ∙ begins-at (λ b. is_letter b || eqb b 46) s (a + r.count) refl

  -- the code's test says which token it is
  pub number-coded : (b : ℕ) (letter x : Bool) → b ≡ get_or s (a + r.count) 0 → letter ≡ is_letter b
      → (ltb number_bound r.value || (letter || eqb b 46)) ≡ x → made a (cond x 2 4) (a + r.count) ≡ coded (number_token a (drop a s))
  unfolding number_token rank
  number-coded b letter x p f e =
      let test : (ltb number_bound r.value || (is_letter (get_or s (a + r.count) 0) || eqb (get_or s (a + r.count) 0) 46)) ≡ x = rw (← p, ← f) e in
      rw counted (rw (followed, ← large, test) (go x))
    where
      go : (x : Bool) → made a (cond x 2 4) (a + leading is_digit (drop a s))
          ≡ coded (cond x (token a bad (leading is_digit (drop a s))) (token a NUMBER (leading is_digit (drop a s))))
      go true = refl
      go false = refl

-- ---- STRINGs

-- how many bytes are left after a STRING
rest_length : Option (Parsed (List ℕ)) → ℕ
rest_length none = 0
rest_length (some g) = length g.rest

byte-rest : (b : ℕ) (r : Option (Parsed (List ℕ))) → rest_length (with_byte b r) ≡ rest_length r
unfolding rest_length with_byte
byte-rest b none = refl
byte-rest b (some g) = refl

escape_rest : (o : Option ℕ) (r : Option (Parsed (List ℕ))) → rest_length (with_escape o r) ≤ rest_length r
unfolding rest_length with_escape
escape_rest none r = omega arith
escape_rest (some b) r = omega (arith, byte-rest b r)

-- no more bytes than there were
string-rest : (escaped : Bool) (l : List ℕ) → rest_length (read_string escaped l) ≤ length l
unfolding rest_length read_string
string-rest escaped [] = omega arith
string-rest true (b ∷ l) = omega (arith, escape_rest (lookup string_escapes b) (read_string false l), string-rest false l)
string-rest false (b ∷ l) = go (eqb b 34) (eqb b 10) (eqb b 92) (string-rest false l) (string-rest true l)
  where
    go : (x y z : Bool) → rest_length (read_string false l) ≤ length l → rest_length (read_string true l) ≤ length l
        → rest_length (cond x (parsed [] l) (cond y none (cond z (read_string true l) (with_byte b (read_string false l))))) ≤ suc (length l)
    go true y z f g = omega arith
    go false true z f g = omega arith
    go false false true f g = omega arith
    go false false false f g = omega (arith, byte-rest b (read_string false l))

module _ (s : List ℕ) (a : ℕ) (inside : a < length s) where
  string-none : (r : Option (Parsed (List ℕ))) → string_close s r ≡ None
      → made a 2 (a + 1) ≡ coded (string_token a (drop (suc a) s) r)
  unfolding string_close string_token rank
  string-none none e = refl
  string-none (some g) e = let z : ◌≡◌ {A = ℕ} 0 1 = cc in absurd (omega arith)

  string-some : (r : Option (Parsed (List ℕ))) (stop : ℕ) → string_close s r ≡ Some stop → rest_length r ≤ length (drop (suc a) s)
      → made a 5 stop ≡ coded (string_token a (drop (suc a) s) r)
  unfolding string_close string_token rest_length rank
  string-some none stop e h = let z : ◌≡◌ {A = ℕ} 0 1 = cc in absurd (omega arith)
  string-some (some g) stop e h =
      let at : length s - length g.rest ≡ stop = cc in
      let same : stop ≡ a + suc (length (drop (suc a) s) - length g.rest) = omega (arith, at, h, inside, length-drop (suc a) s) in
      ap (made a 5) same

  pub string-bad : string_close s (read_string false (drop (a + 1) s)) ≡ None
      → made a 2 (a + 1) ≡ coded (string_token a (drop (suc a) s) (read_string false (drop (suc a) s)))
  string-bad e = string-none (read_string false (drop (suc a) s)) (rw (← add-one a) e)

  pub string-good : (stop : ℕ) → string_close s (read_string false (drop (a + 1) s)) ≡ Some stop
      → made a 5 stop ≡ coded (string_token a (drop (suc a) s) (read_string false (drop (suc a) s)))
  string-good stop e =
      string-some (read_string false (drop (suc a) s)) stop (rw (← add-one a) e) (string-rest false (drop (suc a) s))

-- ---- EREs

-- a closing slash is inside the text
abbrev Below : Option ℕ → ℕ → Type 0
Below none m = Unit
Below (some n) m = n < m

more-below : (o : Option ℕ) (m : ℕ) → Below o m → Below (one_more o) (suc m)
unfolding one_more
more-below none m h = tt
more-below (some n) m h = omega arith

ere-below : (escaped : Bool) (l : List ℕ) → Below (ere_length escaped l) (length l)
unfolding ere_length
ere-below escaped [] = tt
ere-below escaped (b ∷ l) =
    go (eqb b 10) (not escaped && eqb b 47) (more-below (ere_length (not escaped && eqb b 92) l) (length l) (ere-below (not escaped && eqb b 92) l))
  where
    go : (x y : Bool) → Below (one_more (ere_length (not escaped && eqb b 92) l)) (suc (length l))
        → Below (cond x none (cond y (some 0) (one_more (ere_length (not escaped && eqb b 92) l)))) (suc (length l))
    go true y h = tt
    go false true h = omega arith
    go false false h = h

module _ (edition : ℕ) (s : List ℕ) (a : ℕ) where
  ere-none : (o : Option ℕ) → ere_close (a + 1) o ≡ None → made a 2 (a + 1) ≡ coded (ere_token edition a (drop (suc a) s) o)
  unfolding ere_close ere_token rank
  ere-none none e = refl
  ere-none (some n) e = let z : ◌≡◌ {A = ℕ} 0 1 = cc in absurd (omega arith)

  -- where the slash is, by what is read between the slashes
  ere-some : (o : Option ℕ) (end : ℕ) (m : Option (Ere Class)) → ere_close (a + 1) o ≡ Some end
      → read_ere edition (mid_of (a + 1) (end - (a + 1)) s) ≡ m → coded (ere_read a (end + 1 - a) m) ≡ coded (ere_token edition a (drop (suc a) s) o)
  unfolding ere_close ere_token
  ere-some none end m e h = let z : ◌≡◌ {A = ℕ} 0 1 = cc in absurd (omega arith)
  ere-some (some n) end m e h =
      let at : a + 1 + n ≡ end = cc in
      let count : end - (a + 1) ≡ n = omega (arith, at) in
      let size : end + 1 - a ≡ 2 + n = omega (arith, at) in
      let part : read_ere edition (take n (drop (suc a) s)) ≡ m = rw (← count, ← add-one a) h in
      rw (size, part)

  at-inside : (o : Option ℕ) (end : ℕ) → ere_close (a + 1) o ≡ Some end → Below o (length (drop (suc a) s)) → (a + 1 ≤ end) × (end < length s)
  unfolding ere_close
  at-inside none end e h = let z : ◌≡◌ {A = ℕ} 0 1 = cc in absurd (omega arith)
  at-inside (some n) end e h =
      let at : a + 1 + n ≡ end = cc in
      (omega (arith, at), omega (arith, at, h, length-drop (suc a) s))

  abbrev Length : Option ℕ
  Length = ere_length false (drop (suc a) s)

  pub ere-inside : (end : ℕ) → ere_close (a + 1) (ere_length false (drop (a + 1) s)) ≡ Some end → (a + 1 ≤ end) × (end < length s)
  ere-inside end e = at-inside Length end (rw (← add-one a) e) (ere-below false (drop (suc a) s))

  pub ere-bad : ere_close (a + 1) (ere_length false (drop (a + 1) s)) ≡ None
      → made a 2 (a + 1) ≡ coded (ere_token edition a (drop (suc a) s) (ere_length false (drop (suc a) s)))
  ere-bad e = ere-none Length (rw (← add-one a) e)

  module _ (end : ℕ) (closed : ere_close (a + 1) (ere_length false (drop (a + 1) s)) ≡ Some end) where
    size : a + (end + 1 - a) ≡ end + 1
    size = omega (arith, (ere-inside end closed).0)

    pub ere-good : (e : Ere Class) → read_ere edition (mid_of (a + 1) (end - (a + 1)) s) ≡ some e
        → made a 6 (end + 1) ≡ coded (ere_token edition a (drop (suc a) s) (ere_length false (drop (suc a) s)))
    unfolding ere_read rank
    ere-good e h = ap (made a 6) (sym size) ∙ ere-some Length end (some e) (rw (← add-one a) closed) h

    pub ere-unread : read_ere edition (mid_of (a + 1) (end - (a + 1)) s) ≡ none
        → made a 3 (end + 1) ≡ coded (ere_token edition a (drop (suc a) s) (ere_length false (drop (suc a) s)))
    unfolding ere_read rank
    ere-unread h = ap (made a 3) (sym size) ∙ ere-some Length end none (rw (← add-one a) closed) h

-- ---- operators

module _ (s : List ℕ) (a : ℕ) where
  -- `&s[a..s.len().min(a + 2)]`
  pub pair-lent : mid_of a (min (length s) (a + 2) - a) s ≡ take 2 (drop a s)
  pair-lent = go (leb (a + 2) (length s)) refl
    where
      go : (b : Bool) → leb (a + 2) (length s) ≡ b → mid_of a (min (length s) (a + 2) - a) s ≡ take 2 (drop a s)
      go true e =
          let long = leb-true (a + 2) (length s) e in
          let n : min (length s) (a + 2) - a ≡ 2 = omega arith in
          ap (λ (m : ℕ). take m (drop a s)) n
      go false e =
          let short = leb-false (a + 2) (length s) e in
          let n : min (length s) (a + 2) - a ≡ length s - a = omega arith in
          ap (λ (m : ℕ). take m (drop a s)) n
          ∙ take_all (length s - a) (drop a s) (rw length-drop (omega arith))
          ∙ sym (take_all 2 (drop a s) (rw length-drop (omega arith)))

  -- `&s[a..a + 1]`
  pub first-lent : mid_of a (a + 1 - a) s ≡ take 1 (drop a s)
  first-lent =
      let n : a + 1 - a ≡ 1 = omega arith in
      ap (λ (m : ℕ). take m (drop a s)) n

module _ (edition : ℕ) (s : List ℕ) (a two : ℕ) (e : two ≡ rank (operator_kind edition (mid_of a (min (length s) (a + 2) - a) s))) where
  kind-two : rank (operator_kind edition (take 2 (drop a s))) ≡ two
  kind-two = sym (e ∙ ap (λ (w : List ℕ). rank (operator_kind edition w)) (pair-lent s a))

  pub operator-longer : (two ≡ 2 → ⊥)
      → made a two (a + length (mid_of a (min (length s) (a + 2) - a) s)) ≡ coded (operator_token edition a (drop a s))
  unfolding operator_token rank
  operator-longer n =
      rw (ne_eqb (rank (operator_kind edition (take 2 (drop a s)))) 2 (λ q. n (sym kind-two ∙ q)), pair-lent s a)
      (ap (λ (k : ℕ). made a k (a + length (take 2 (drop a s)))) (sym kind-two))

  pub operator-shorter : two ≡ 2 → (one : ℕ) → one ≡ rank (operator_kind edition (mid_of a (a + 1 - a) s))
      → made a one (a + 1) ≡ coded (operator_token edition a (drop a s))
  unfolding operator_token rank
  operator-shorter n one f =
      rw (eq-eqb (rank (operator_kind edition (take 2 (drop a s)))) 2 (kind-two ∙ n))
      (ap (λ (k : ℕ). made a k (a + 1)) (f ∙ ap (λ (w : List ℕ). rank (operator_kind edition w)) (first-lent s a)))

-- ---- any token

pub at-coded : (edition : ℕ) (s : List ℕ) (p i : ℕ) (r : Coded) → i ≡ p + skipped false (drop p s)
    → r ≡ coded (token_of edition i (drop i s)) → r ≡ coded (token_at edition s p)
unfolding token_at
at-coded edition s p i r e f = f ∙ ap (λ (k : ℕ). coded (token_of edition k (drop k s))) e

module _ (edition : ℕ) (s : List ℕ) (a : ℕ) where
  pub of_end : length s ≤ a → made a 0 a ≡ coded (token_of edition a (drop a s))
  unfolding token_of rank
  of_end h =
      let same : a + 0 ≡ a = omega arith in
      rw (drop_of_length-le s {i = a} h) (ap (made a 0) (sym same))

  of_at : a < length s
      → token_of edition a (drop a s)
      ≡ cond (eqb (get_or s a 0) 10) (token a newline 1)
      (cond (is_letter (get_or s a 0)) (word_token edition a (drop a s))
      (cond (is_digit (get_or s a 0)) (number_token a (drop a s))
      (cond (eqb (get_or s a 0) 34) (string_token a (drop (suc a) s) (read_string false (drop (suc a) s))) (operator_token edition a (drop a s)))))
  unfolding token_of
  of_at h = rw (drop-cons s a 0 h)

  module _ (h : a < length s) where
    pub of-newline : get_or s a 0 ≡ 10 → made a 1 (a + 1) ≡ coded (token_of edition a (drop a s))
    unfolding rank
    of-newline e = rw (of_at h, eq-eqb (get_or s a 0) 10 e)

    module _ (n : get_or s a 0 ≡ 10 → ⊥) (letter : Bool) (l : letter ≡ is_letter (get_or s a 0)) where
      pub of_word : letter ≡ true → coded (word_token edition a (drop a s)) ≡ coded (token_of edition a (drop a s))
      of_word e = rw (of_at h, ne_eqb (get_or s a 0) 10 n, ← l, e)

      module _ (m : letter ≡ false) (digit : Bool) (d : digit ≡ is_digit (get_or s a 0)) where
        pub of_number : digit ≡ true → coded (number_token a (drop a s)) ≡ coded (token_of edition a (drop a s))
        of_number e = rw (of_at h, ne_eqb (get_or s a 0) 10 n, ← l, m, ← d, e)

        pub of-string : digit ≡ false → get_or s a 0 ≡ 34
            → coded (string_token a (drop (suc a) s) (read_string false (drop (suc a) s))) ≡ coded (token_of edition a (drop a s))
        of-string f e = rw (of_at h, ne_eqb (get_or s a 0) 10 n, ← l, m, ← d, f, eq-eqb (get_or s a 0) 34 e)

        pub of-operator : digit ≡ false → (get_or s a 0 ≡ 34 → ⊥)
            → coded (operator_token edition a (drop a s)) ≡ coded (token_of edition a (drop a s))
        of-operator f e = rw (of_at h, ne_eqb (get_or s a 0) 10 n, ← l, m, ← d, f, ne_eqb (get_or s a 0) 34 e)

-- ---- kinds by their numbers

rank_agrees : ℕ → Bool
rank_agrees n = eqb (rank (kind_of n)) n

pub rank-of : (n : ℕ) → n < kind_count → rank (kind_of n) ≡ n
unfolding all_below rank_agrees rank kind_of
rank-of n h = eqb-true (rank (kind_of n)) n (below_at rank_agrees 76 refl n h)

-- a test of a kind is a test of its number
pub kind-test : (n r : ℕ) → r < kind_count → (r ≡ 2 → ⊥) → eqb (rank (kind_of n)) r ≡ eqb n r
unfolding kind_of rank
kind-test n r h k = go (ltb n 76) refl
  where
    go : (b : Bool) → ltb n 76 ≡ b → eqb (rank (kind_of n)) r ≡ eqb n r
    go true e = ap (λ (m : ℕ). eqb m r) (rank-of n (ltb-true n 76 e))
    go false e =
        let past = ltb-false n 76 e in
        ap (λ (q : Kind). eqb (rank q) r) (get_or-eq_default kinds bad past)
        ∙ ne_eqb 2 r (λ q. k (sym q))
        ∙ sym (ne_eqb n r (λ q. omega (arith, past, h, q)))

module _ (edition : ℕ) (s : List ℕ) (t : Coded) where
  called : (is user_name (decoded t) && begins_with (λ b. eqb b 40) (drop t.stop s)) ≡ (eqb t.kind 7 && eqb (get_or s t.stop 0) 40)
  unfolding rank
  called = rw (kind-test t.kind 7 (omega arith) (λ q. omega (arith, q)), begins-at (λ b. eqb b 40) s t.stop refl)

  pub after_call : (b : ℕ) → b ≡ get_or s t.stop 0 → (eqb t.kind 7 && eqb b 40) ≡ true
      → made t.stop 44 (t.stop + 1) ≡ coded (token_after edition s (decoded t))
  unfolding token_after rank
  after_call b e h =
      let test : (eqb t.kind 7 && eqb (get_or s t.stop 0) 40) ≡ true = rw (← e) h in
      rw (called, test)

  pub call-inside : (b : ℕ) → b ≡ get_or s t.stop 0 → (eqb t.kind 7 && eqb b 40) ≡ true → t.stop < length s
  call-inside b e h = go (ltb t.stop (length s)) refl
    where
      go : (x : Bool) → ltb t.stop (length s) ≡ x → t.stop < length s
      go true q = ltb-true t.stop (length s) q
      go false q =
          let none = e ∙ get_or-eq_default s 0 (ltb-false t.stop (length s) q) in
          let paren = eqb-true b 40 (and-true (eqb t.kind 7) (eqb b 40) h).1 in
          absurd (omega (arith, none, paren))

  pub after-other : (b : ℕ) → b ≡ get_or s t.stop 0 → (eqb t.kind 7 && eqb b 40) ≡ false
      → coded (token_at edition s t.stop) ≡ coded (token_after edition s (decoded t))
  unfolding token_after
  after-other b e h =
      let test : (eqb t.kind 7 && eqb (get_or s t.stop 0) 40) ≡ false = rw (← e) h in
      rw (called, test)

  slashed : is_one_of (slash ∷ div_assign ∷ []) (decoded t) ≡ (eqb t.kind 48 || (eqb t.kind 70 || false))
  unfolding among rank
  slashed = rw (kind-test t.kind 48 (omega arith) (λ q. omega (arith, q)), kind-test t.kind 70 (omega arith) (λ q. omega (arith, q)))

  pub operand_same : t.kind < kind_count → (not (eqb t.kind 48) && not (eqb t.kind 70)) ≡ true
      → t ≡ coded (as_operand edition s (decoded t))
  unfolding as_operand
  operand_same h e =
      let both = and-true (not (eqb t.kind 48)) (not (eqb t.kind 70)) e in
      rw (slashed, not-true (eqb t.kind 48) both.0, not-true (eqb t.kind 70) both.1)
      (ap (λ (k : ℕ). made t.start k t.stop) (sym (rank-of t.kind h)))

  pub operand-ere : (not (eqb t.kind 48) && not (eqb t.kind 70)) ≡ false
      → coded (ere_token edition t.start (drop (suc t.start) s) (ere_length false (drop (suc t.start) s)))
      ≡ coded (as_operand edition s (decoded t))
  unfolding as_operand
  operand-ere e = rw (slashed, go (eqb t.kind 48) (eqb t.kind 70) e)
    where
      go : (x y : Bool) → (not x && not y) ≡ false → (x || (y || false)) ≡ true
      go true y h = refl
      go false true h = refl
      go false false h = absurd (clash h)
