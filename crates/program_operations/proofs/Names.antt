-- The kind of a name is that of its bytes.
use mathlib.Core.Path.{◌≡◌, refl, sym, ap, subst, ◌∙◌}
use mathlib.Core.Bool.{true, false, not, ◌&&◌, ◌||◌}
use mathlib.Core.List.{List, [], ◌∷◌}
use mathlib.Core.Option.{Option, some, none}
use Prim.Native.Nat.{ℕ, suc, ◌+◌, ◌-◌}
use native.Mathlib.Omega.{arith}
use lib.ListN.{length, take, drop}
use lib.Dec.{eqb, ltb}
use borrow.Author.Tests.{not-true}
use Rattle.lists.specs.Elements.{leading}
use Rattle.lists.specs.Parsing.{Parsed}
use Rattle.lists.proofs.Tests.{clash, and-true, or_right}
use Rattle.edition.specs.Limits.{number_bound}
use Rattle.numeral.specs.Form.{is_digit}
use Rattle.numeral.specs.Judgement.{digits_value}
use Rattle.program_tokens.specs.Kinds.{Kind, text_end, newline, bad, NUMBER, STRING, ERE, same, among, rank}
use Rattle.program_tokens.specs.Words.{word_kind, operator_kind}
use Rattle.program_tokens.specs.Tokens.{Token, token, is_one_of, is_letter, is_word_byte, begins_with, number_token, word_token, read_string, string_token, operator_token, token_of, spelling}
use Rattle.program_grammar.specs.Sets.{names}
use Rattle.program_reader.proofs.Tokens.{operator-quiet}
use Rattle.program_parser.specs.Reading.{Placed}
use Rattle.program_parser.proofs.Tokens.{choose}
use Rattle.program_parser.proofs.Places.{value-own}

module _ (edition : ℕ) (s : List ℕ) where
  abbrev Worded : Token → Type 0
  Worded t = is_one_of names t ≡ true → word_kind edition (spelling s t) ≡ t.kind

  unnamed : (t : Token) → is_one_of names t ≡ false → Worded t
  unnamed t f h = absurd (clash (sym h ∙ f))

  operator-worded : (a : ℕ) (l : List ℕ) → Worded (operator_token edition a l)
  unfolding operator_token
  operator-worded a l =
      choose Worded (same (operator_kind edition (take 2 l)) bad) _ _
      (λ e. other (operator_kind edition (take 1 l)) 1 (operator-quiet edition (take 1 l)))
      (λ e. other (operator_kind edition (take 2 l)) (length (take 2 l)) (operator-quiet edition (take 2 l)))
    where
      other : (k : Kind) (n : ℕ) → (not (same k ERE) && not (among names k)) ≡ true → Worded (token a k n)
      other k n q = unnamed (token a k n) (not-true _ (and-true (not (same k ERE)) (not (among names k)) q).1)

  string-worded : (a : ℕ) (l : List ℕ) (m : Option (Parsed (List ℕ))) → Worded (string_token a l m)
  unfolding string_token rank among
  string-worded a l none = unnamed (token a bad 1) refl
  string-worded a l (some g) = unnamed (token a STRING (suc (length l - length g.rest))) refl

  number_worded : (a : ℕ) (l : List ℕ) → Worded (number_token a l)
  unfolding number_token rank among
  number_worded a l =
      let n : ℕ = leading is_digit l in
      choose Worded
      (ltb number_bound (digits_value (take n l)) || begins_with (λ b. is_letter b || eqb b 46) (drop n l))
      (token a bad n) (token a NUMBER n) (λ e. unnamed (token a bad n) refl) (λ e. unnamed (token a NUMBER n) refl)

  word-worded : (a : ℕ) (l : List ℕ) → l ≡ drop a s → Worded (word_token edition a l)
  unfolding word_token spelling
  word-worded a l e h =
      let n : ℕ = leading is_word_byte l in
      let counted : a + n - a ≡ n = omega arith in
      ap (word_kind edition)
      (ap (λ (k : ℕ). take k (drop a s)) counted ∙ ap (take n) (sym e))

  of-worded : (a : ℕ) (l : List ℕ) → l ≡ drop a s → Worded (token_of edition a l)
  unfolding token_of rank among
  of-worded a [] e = unnamed (token a text_end 0) refl
  of-worded a (b ∷ l) e =
      choose Worded (eqb b 10) _ _ (λ f. unnamed (token a newline 1) refl) (λ f.
      choose Worded (is_letter b) _ _ (λ f. word-worded a (b ∷ l) e) (λ f.
      choose Worded (is_digit b) _ _ (λ f. number_worded a (b ∷ l)) (λ f.
      choose Worded (eqb b 34) _ _ (λ f. string-worded a l (read_string false l)) (λ f. operator-worded a (b ∷ l)))))

  pub name-word : (t : Token) → Placed edition s t → is_one_of names t ≡ true → word_kind edition (spelling s t) ≡ t.kind
  unfolding among
  name-word t p h =
      let own = value-own edition s t p (or_right (same t.kind NUMBER) _ (or_right (same t.kind STRING) _ h)) in
      subst Worded (sym own) (of-worded t.start (drop t.start s) refl) h
