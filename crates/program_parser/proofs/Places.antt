-- What the place of a token stands for: a constant, a name or an ERE.
use mathlib.Core.Path.{◌≡◌, refl, sym, ap, subst, ◌∙◌}
use mathlib.Core.Bool.{true, false}
use mathlib.Core.List.{List, ◌∷◌}
use mathlib.Core.Logic.{inl, inr}
use mathlib.Core.Option.{Option}
use Prim.Native.Nat.{ℕ, suc, ◌<◌}
use native.Mathlib.Omega.{arith}
use lib.ListN.{drop}
use borrow.Author.Tests.{eqb-true, lt-leb}
use Rattle.lists.proofs.Tests.{clash, or_left, or_right}
use Rattle.edition.specs.Limits.{filter_text}
use Rattle.image_format.specs.Image.{number, text}
use Rattle.program_tokens.specs.Kinds.{Kind, NUMBER, STRING, ERE, same, among, rank}
use Rattle.program_tokens.specs.Tokens.{Token, is, is_one_of, spelling, number_in, string_in, ere_in, ere_length, ere_token, as_operand}
use Rattle.program_grammar.specs.Sets.{names}
use Rattle.program_parser.specs.Meaning.{token_from, constant_at, name_at, ere_at}
use Rattle.program_parser.specs.Reading.{Placed}
use Rattle.program_parser.proofs.Tokens.{choose, ere-kind, Slashes, Again}

module _ (edition : ℕ) (s : List ℕ) where
  abbrev Values : List Kind
  Values = NUMBER ∷ STRING ∷ names

  no_value : (a : ℕ) (l : List ℕ) (o : Option ℕ) → is_one_of Values (ere_token edition a l o) ≡ false
  unfolding among rank
  no_value a l o = ere-kind (λ (k : Kind). among Values k ≡ false) refl refl refl edition a l o

  operand_same : (x : Token) → is_one_of Values (as_operand edition s x) ≡ true → as_operand edition s x ≡ x
  unfolding as_operand
  operand_same x =
      choose (λ (u : Token). is_one_of Values u ≡ true → u ≡ x) (is_one_of Slashes x) (Again edition s x) x
      (λ e h. absurd (clash (sym h ∙ no_value x.start (drop (suc x.start) s)
      (ere_length false (drop (suc x.start) s)))))
      (λ e h. refl)

  -- a NUMBER, a STRING or a name is the lexer's own
  pub value-own : (t : Token) → Placed edition s t → is_one_of Values t ≡ true → t ≡ token_from edition s t.start
  unfolding Placed among rank
  value-own t (inl e) h = e
  value-own t (inr (inl e)) h = e ∙ operand_same (token_from edition s t.start)
      (subst (λ (u : Token). is_one_of Values u ≡ true) e h)
  value-own t (inr (inr e)) h = absurd (clash (sym h ∙ rw (eqb-true (rank t.kind) 44 e)))

  pub name-placed : (t : Token) → Placed edition s t → is_one_of names t ≡ true → name_at edition s t.start
      ≡ spelling s t
  unfolding among
  name-placed t p h = ap (spelling s) (sym (value-own t p (or_right (same t.kind NUMBER) _
      (or_right (same t.kind STRING) _ h))))

  pub number-placed : (t : Token) → Placed edition s t → t.start < filter_text → is NUMBER t ≡ true
      → constant_at edition s t.start ≡ number (number_in s t)
  unfolding among
  number-placed t p l h =
      rw (lt-leb filter_text t.start l, ← (value-own t p (or_left (same t.kind NUMBER) _ h)), h)

  pub string-placed : (t : Token) → Placed edition s t → t.start < filter_text → is STRING t ≡ true
      → constant_at edition s t.start ≡ text (string_in s t)
  unfolding among rank
  string-placed t p l h =
      let five = eqb-true (rank t.kind) 5 h in
      rw (
        lt-leb filter_text t.start l,
        ← (value-own t p (or_right (same t.kind NUMBER) _
            (or_left (same t.kind STRING) _ h))),
        five,
      )

  pub ere-placed : (t : Token) → Placed edition s t → is ERE t ≡ true → ere_at edition s t.start ≡ ere_in s t
  unfolding Placed as_operand among rank
  ere-placed t (inl e) h = ap (λ (u : Token). ere_in s (as_operand edition s u)) (sym e)
      ∙ ap (ere_in s) (rw (eqb-true (rank t.kind) 6 h))
  ere-placed t (inr (inl e)) h = ap (ere_in s) (sym e)
  ere-placed t (inr (inr e)) h = let z : ◌≡◌ {A = ℕ} 6 44 = sym (eqb-true (rank t.kind) 6 h)
      ∙ eqb-true (rank t.kind) 44 e in absurd (omega (arith, z))
