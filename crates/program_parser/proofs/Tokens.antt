-- The tokens of a text: each is inside the text, and no token but the text's end is empty.
use mathlib.Core.Path.{◌≡◌, refl, sym, ap, subst, ◌∙◌}
use mathlib.Core.Bool.{Bool, true, false, not, cond, ◌&&◌, ◌||◌}
use mathlib.Core.List.{List, [], ◌∷◌}
use mathlib.Core.Logic.{inl, inr}
use mathlib.Core.Option.{Option, some, none}
use Prim.Native.Nat.{ℕ, zero, suc, ◌+◌, ◌-◌, ◌≤◌, ◌<◌}
use native.Mathlib.Omega.{arith}
use lib.Dec.{eqb, ltb}
use lib.ListN.{length, take, drop, length-drop}
use borrow.Author.Tests.{eqb-true, ne_eqb}
use Rattle.lists.specs.Elements.{leading}
use Rattle.lists.specs.Parsing.{Parsed}
use Rattle.lists.proofs.Leading.{leading_le}
use Rattle.lists.proofs.Tests.{clash, or_left, and-true}
use Rattle.edition.specs.Limits.{number_bound}
use Rattle.ere_meaning.specs.Tree.{Class, Ere}
use Rattle.ere_grammar.specs.Read.{read_ere}
use Rattle.numeral.specs.Form.{is_digit, is_blank}
use Rattle.numeral.specs.Judgement.{digits_value}
use Rattle.program_tokens.specs.Kinds.{Kind, text_end, newline, bad, bad-ere, NUMBER, STRING, ERE, user_name, slash, div_assign, call_paren, same, among, rank}
use Rattle.program_tokens.specs.Words.{word_kind, operator_kind}
use Rattle.program_tokens.specs.Tokens.{Token, token, is, is_one_of, is_letter, is_word_byte, begins_with, skipped, number_token, word_token, read_string, string_token, operator_token, token_of, token_at, token_after, ere_length, one_more, ere_read, ere_token, as_operand}
use Rattle.program_reader.specs.Read.{past_in}
use Rattle.program_parser.specs.Meaning.{token_from}
use Rattle.program_parser.specs.Reading.{Placed, Good}

-- a test, with what it says in each branch
pub choose : {A : Type 0} (P : A → Type 0) (b : Bool) (x y : A) → (b ≡ true → P x) → (b ≡ false → P y) → P (cond b x y)
choose P true x y p q = p refl
choose P false x y p q = q refl

-- a token that starts at a, of the m bytes that are there
record Shaped (a m : ℕ) (t : Token) : Type 0 where
  pub starts : t.start ≡ a
  pub ordered : t.start ≤ t.stop
  pub within : t.stop ≤ a + m
  pub longer : is text_end t ≡ false → t.start < t.stop

shaped : (a m : ℕ) (k : Kind) (n : ℕ) → n ≤ m → 0 < n → Shaped a m (token a k n)
shaped a m k n h l = record { starts = refl; ordered = omega arith; within = omega arith; longer = λ e. omega arith }

-- ---- runs of bytes

skipped-le : (c : Bool) (l : List ℕ) → skipped c l ≤ length l
unfolding skipped
skipped-le c [] = omega arith
skipped-le c (b ∷ l) =
    choose (λ (n : ℕ). n ≤ suc (length l)) (eqb b 10) 0 (cond ((c || eqb b 35) || is_blank b) (suc (skipped (c || eqb b 35) l)) 0)
    (λ e. omega arith)
    (λ e. choose (λ (n : ℕ). n ≤ suc (length l)) ((c || eqb b 35) || is_blank b) (suc (skipped (c || eqb b 35) l)) 0
    (λ f. omega (arith, skipped-le (c || eqb b 35) l)) (λ f. omega arith))

leading-some : (kind : ℕ → Bool) (b : ℕ) (l : List ℕ) → kind b ≡ true → 0 < leading kind (b ∷ l)
unfolding leading
leading-some kind b l e = rw e (omega arith)

-- ---- one token

module _ (edition a b : ℕ) (l : List ℕ) where
  word-shaped : is_letter b ≡ true → Shaped a (suc (length l)) (word_token edition a (b ∷ l))
  unfolding word_token
  word-shaped e =
      shaped a (suc (length l)) (word_kind edition (take (leading is_word_byte (b ∷ l)) (b ∷ l))) (leading is_word_byte (b ∷ l))
      (leading_le is_word_byte (b ∷ l)) (leading-some is_word_byte b l (or_left (is_letter b) (is_digit b) e))

  number-shaped : is_digit b ≡ true → Shaped a (suc (length l)) (number_token a (b ∷ l))
  unfolding number_token
  number-shaped e =
      let n : ℕ = leading is_digit (b ∷ l) in
      let at : (k : Kind) → Shaped a (suc (length l)) (token a k n) =
      λ k. shaped a (suc (length l)) k n (leading_le is_digit (b ∷ l)) (leading-some is_digit b l e) in
      choose (Shaped a (suc (length l)))
      (ltb number_bound (digits_value (take n (b ∷ l))) || begins_with (λ c. is_letter c || eqb c 46) (drop n (b ∷ l)))
      (token a bad n) (token a NUMBER n) (λ f. at bad) (λ f. at NUMBER)

  string-shaped : (r : Option (Parsed (List ℕ))) → Shaped a (suc (length l)) (string_token a l r)
  unfolding string_token
  string-shaped none = shaped a (suc (length l)) bad 1 (omega arith) (omega arith)
  string-shaped (some g) =
      shaped a (suc (length l)) STRING (suc (length l - length g.rest)) (omega arith) (omega arith)

  two-le : (0 < length (take 2 (b ∷ l))) × (length (take 2 (b ∷ l)) ≤ suc (length l))
  two-le = go l
    where
      go : (m : List ℕ) → (0 < length (take 2 (b ∷ m))) × (length (take 2 (b ∷ m)) ≤ suc (length m))
      go [] = (omega arith, omega arith)
      go (c ∷ m) = (omega arith, omega arith)

  operator-shaped : Shaped a (suc (length l)) (operator_token edition a (b ∷ l))
  unfolding operator_token
  operator-shaped =
      choose (Shaped a (suc (length l))) (same (operator_kind edition (take 2 (b ∷ l))) bad)
      (token a (operator_kind edition (take 1 (b ∷ l))) 1) (token a (operator_kind edition (take 2 (b ∷ l))) (length (take 2 (b ∷ l))))
      (λ e. shaped a (suc (length l)) (operator_kind edition (take 1 (b ∷ l))) 1 (omega arith) (omega arith))
      (λ e. shaped a (suc (length l)) (operator_kind edition (take 2 (b ∷ l))) (length (take 2 (b ∷ l))) two-le.1 two-le.0)

of-shaped : (edition a : ℕ) (l : List ℕ) → Shaped a (length l) (token_of edition a l)
unfolding token_of rank
of-shaped edition a [] = record { starts = refl; ordered = omega arith; within = omega arith; longer = λ e. absurd (clash e) }
of-shaped edition a (b ∷ l) =
    let m : ℕ = suc (length l) in
    choose (Shaped a m) (eqb b 10) _ _ (λ e. shaped a m newline 1 (omega arith) (omega arith)) (λ e.
    choose (Shaped a m) (is_letter b) _ _ (λ f. word-shaped edition a b l f) (λ f.
    choose (Shaped a m) (is_digit b) _ _ (λ g. number-shaped edition a b l g) (λ g.
    choose (Shaped a m) (eqb b 34) _ _ (λ h. string-shaped edition a b l (read_string false l)) (λ h. operator-shaped edition a b l))))

-- ---- EREs

abbrev Below : Option ℕ → ℕ → Type 0
Below none m = Unit
Below (some n) m = n < m

more-below : (o : Option ℕ) (m : ℕ) → Below o m → Below (one_more o) (suc m)
unfolding one_more
more-below none m h = tt
more-below (some n) m h = omega arith

ere-below : (escaped : Bool) (l : List ℕ) → Below (ere_length escaped l) (length l)
unfolding ere_length
ere-below escaped [] = tt
ere-below escaped (b ∷ l) =
    let r : Option ℕ = one_more (ere_length (not escaped && eqb b 92) l) in
    choose (λ (o : Option ℕ). Below o (suc (length l))) (eqb b 10) none (cond (not escaped && eqb b 47) (some 0) r) (λ e. tt) (λ e.
    choose (λ (o : Option ℕ). Below o (suc (length l))) (not escaped && eqb b 47) (some 0) r (λ f. omega arith) (λ f.
    more-below (ere_length (not escaped && eqb b 92) l) (length l) (ere-below (not escaped && eqb b 92) l)))

-- the kinds of an ERE that is read again
read-kind : (P : Kind → Type 0) → P bad-ere → P ERE → (a n : ℕ) (r : Option (Ere Class)) → P (ere_read a n r).kind
unfolding ere_read
read-kind P y z a n none = y
read-kind P y z a n (some e) = z

pub ere-kind : (P : Kind → Type 0) → P bad → P bad-ere → P ERE → (edition a : ℕ) (l : List ℕ) (o : Option ℕ) → P (ere_token edition a l o).kind
unfolding ere_token
ere-kind P x y z edition a l none = x
ere-kind P x y z edition a l (some n) = read-kind P y z a (2 + n) (read_ere edition (take n l))

module _ (edition a : ℕ) (l : List ℕ) where
  read-shaped : (n : ℕ) (r : Option (Ere Class)) → n < length l → Shaped a (suc (length l)) (ere_read a (2 + n) r)
  unfolding ere_read
  read-shaped n none h = shaped a (suc (length l)) bad-ere (2 + n) (omega arith) (omega arith)
  read-shaped n (some e) h = shaped a (suc (length l)) ERE (2 + n) (omega arith) (omega arith)

  ere-shaped : (o : Option ℕ) → Below o (length l) → Shaped a (suc (length l)) (ere_token edition a l o)
  unfolding ere_token
  ere-shaped none h = shaped a (suc (length l)) bad 1 (omega arith) (omega arith)
  ere-shaped (some n) h = read-shaped n (read_ere edition (take n l)) h

abbrev pub Slashes : List Kind
Slashes = slash ∷ div_assign ∷ []

no_slash : (edition a : ℕ) (l : List ℕ) (o : Option ℕ) → is_one_of Slashes (ere_token edition a l o) ≡ false
unfolding among rank
no_slash edition a l o = ere-kind (λ (k : Kind). among Slashes k ≡ false) refl refl refl edition a l o

slash-kind : (k : Kind) → among Slashes k ≡ true → same k text_end ≡ false
unfolding among rank
slash-kind k e = ne_eqb (rank k) 0 (λ z. clash (sym e ∙ rw z))

-- ---- the tokens of a text

module _ (edition : ℕ) (s : List ℕ) where
  from-shaped : (a : ℕ) → a ≤ length s → Shaped a (length s - a) (token_from edition s a)
  from-shaped a h = subst (λ (m : ℕ). Shaped a m (token_from edition s a)) (length-drop a s) (of-shaped edition a (drop a s))

  pub good-from : (p a : ℕ) → p ≤ a → a ≤ length s → Good edition s p (token_from edition s a)
  unfolding Placed
  good-from p a h l =
      let q = from-shaped a l in
      record {
        after = omega (arith, q.starts);
        ordered = q.ordered;
        within = omega (arith, q.within);
        longer = q.longer;
        placed = inl (ap (token_from edition s) (sym q.starts));
      }

  pub good-at : (p : ℕ) → p ≤ length s → Good edition s p (token_at edition s p)
  unfolding token_at
  good-at p h =
      good-from p (p + skipped false (drop p s)) (omega arith) (omega (arith, skipped-le false (drop p s), length-drop p s))

  -- ---- the token after a token

  begins-inside : (f : ℕ → Bool) (l : List ℕ) → begins_with f l ≡ true → 0 < length l
  unfolding begins_with
  begins-inside f [] e = absurd (clash (sym e))
  begins-inside f (b ∷ l) e = omega arith

  pub good-after : (p : ℕ) (t : Token) → Good edition s p t → Good edition s t.stop (token_after edition s t)
  unfolding token_after Placed rank
  good-after p t g =
      choose (Good edition s t.stop) (is user_name t && begins_with (λ b. eqb b 40) (drop t.stop s)) (token t.stop call_paren 1)
      (token_at edition s t.stop)
      (λ e.
      let inside = begins-inside (λ b. eqb b 40) (drop t.stop s)
      (and-true (is user_name t) (begins_with (λ b. eqb b 40) (drop t.stop s)) e).1 in
      let left : 0 < length s - t.stop = subst (λ (m : ℕ). 0 < m) (length-drop t.stop s) inside in
      record { after = omega arith; ordered = omega arith; within = omega (arith, left); longer = λ f. omega arith; placed = inr (inr refl) })
      (λ e. good-at t.stop g.within)

  -- ---- a token where the grammar allows an operand

  abbrev pub Again : Token → Token
  Again t = ere_token edition t.start (drop (suc t.start) s) (ere_length false (drop (suc t.start) s))

  -- what is read again is no slash any more
  operand-done : (t : Token) → is_one_of Slashes (as_operand edition s t) ≡ false
  unfolding as_operand
  operand-done t =
      choose (λ (u : Token). is_one_of Slashes u ≡ false) (is_one_of Slashes t) (Again t) t
      (λ e. no_slash edition t.start (drop (suc t.start) s) (ere_length false (drop (suc t.start) s))) (λ e. e)

  -- only the lexer's own tokens are slashes
  slash-own : (t : Token) → Placed edition s t → is_one_of Slashes t ≡ true → t ≡ token_from edition s t.start
  unfolding Placed among rank
  slash-own t (inl e) h = e
  slash-own t (inr (inl e)) h =
      absurd (clash (sym h ∙ (ap (is_one_of Slashes) e ∙ operand-done (token_from edition s t.start))))
  slash-own t (inr (inr e)) h =
      absurd (clash (sym h ∙ rw (eqb-true (rank t.kind) 44 e)))

  again-good : (p : ℕ) (t : Token) → Good edition s p t → is_one_of Slashes t ≡ true → Again t ≡ as_operand edition s t → Good edition s p (Again t)
  unfolding Placed
  again-good p t g h same-token =
      let l : List ℕ = drop (suc t.start) s in
      let begun = g.longer (slash-begun t h) in
      let rest : length l ≡ length s - suc t.start = length-drop (suc t.start) s in
      let q = ere-shaped edition t.start l (ere_length false l) (ere-below false l) in
      let own = slash-own t g.placed h in
      record {
        after = omega (arith, q.starts, g.after);
        ordered = q.ordered;
        within = omega (arith, q.within, rest, begun, g.within);
        longer = q.longer;
        placed = inr (inl (same-token ∙ ap (as_operand edition s) (own ∙ ap (token_from edition s) (sym q.starts))));
      }
    where
      slash-begun : (u : Token) → is_one_of Slashes u ≡ true → is text_end u ≡ false
      slash-begun u e = slash-kind u.kind e

  pub good-operand : (p : ℕ) (t : Token) → Good edition s p t → Good edition s p (as_operand edition s t)
  unfolding as_operand
  good-operand p t g =
      choose (Good edition s p) (is_one_of Slashes t) (Again t) t (λ e. again-good p t g e (sym (rw e))) (λ e. g)

  -- ---- newlines

  pub good-past : (p : ℕ) (ks : List Kind) (n : ℕ) (t : Token) → Good edition s p t → Good edition s p (past_in edition s ks n t)
  unfolding past_in
  good-past p ks zero t g = g
  good-past p ks (suc n) t g =
      choose (Good edition s p) (is_one_of ks t) (past_in edition s ks n (token_after edition s t)) t
      (λ e. good-past p ks n (token_after edition s t) (good-later p t g)) (λ e. g)
    where
      good-later : (q : ℕ) (u : Token) → Good edition s q u → Good edition s q (token_after edition s u)
      good-later q u h =
          let f = good-after q u h in
          record { after = omega (arith, f.after, h.after, h.ordered); ordered = f.ordered; within = f.within; longer = f.longer; placed = f.placed }
