-- Laws on the searches for a closing quote and a closing slash.
use mathlib.Core.Path.{◌≡◌, refl, sym, ap, ◌∙◌}
use mathlib.Core.Bool.{Bool, true, false, cond, not, ◌&&◌}
use mathlib.Core.List.{List, [], ◌∷◌}
use mathlib.Core.Option.{Option as Maybe, some, none}
use Prim.Native.Nat.{ℕ, suc, ◌+◌, ◌-◌, ◌≤◌, ◌<◌}
use native.Mathlib.Numerals.{add-one}
use native.Mathlib.Omega.{arith}
use lib.Dec.{eqb}
use lib.ListN.{length, get_or, drop, drop_of_length-le, length-drop}
use lib.Seq.{drop-cons}
use borrow.Author.Tests.{eq-eqb, ne_eqb}
use Rattle.std.specs.Prelude.{Option, Some, None, is_some as answered}
use Rattle.lists.specs.Answers.{option_of}
use Rattle.lists.specs.Elements.{is_some}
use Rattle.lists.specs.Parsing.{Parsed, parsed}
use Rattle.ere_grammar.specs.Bytes.{lookup, string_escapes}
use Rattle.program_tokens.specs.Tokens.{one_more, ere_length, with_byte, with_escape, read_string}
use Rattle.program_scanner.specs.Closings.{ere_close, string_turn, string_close}
use Rattle.program_scanner.specs.declared.closings.Turn.{Turn}
use Rattle.program_scanner.specs.declared.closings.Turn.TheVariants.{Plain, Backslash, Quote, Refused}

-- whether an option of the code is something
pub some-told : {A : Type 0} (o : Option A) → answered o ≡ is_some (option_of o)
some-told None = refl
some-told (Some a) = refl

-- ---- EREs

-- one byte more before the slash
close_more : (i : ℕ) (o : Maybe ℕ) → ere_close i (one_more o) ≡ ere_close (suc i) o
unfolding ere_close one_more
close_more i none = refl
close_more i (some n) =
    let same : i + suc n ≡ suc i + n = omega arith in
    ap Some same

module _ (s : List ℕ) (i : ℕ) (escaped : Bool) where
  ere-at : i < length s
      → ere_length escaped (drop i s)
      ≡ cond (eqb (get_or s i 0) 10) none
      (cond (not escaped && eqb (get_or s i 0) 47) (some 0) (one_more (ere_length (not escaped && eqb (get_or s i 0) 92) (drop (suc i) s))))
  unfolding ere_length
  ere-at h = ap (ere_length escaped) (drop-cons s i 0 h)

  pub ere-newline : i < length s → get_or s i 0 ≡ 10 → ere_close i (ere_length escaped (drop i s)) ≡ None
  unfolding ere_close
  ere-newline h e = rw (ere-at h, eq-eqb _ 10 e)

  pub ere-closed : i < length s → (get_or s i 0 ≡ 10 → ⊥) → (not escaped && eqb (get_or s i 0) 47) ≡ true
      → ere_close i (ere_length escaped (drop i s)) ≡ Some i
  unfolding ere_close
  ere-closed h n e =
      let same : i + 0 ≡ i = omega arith in
      rw (ere-at h, ne_eqb _ 10 n, e) (ap Some same)

  pub ere-more : i < length s → (get_or s i 0 ≡ 10 → ⊥) → (not escaped && eqb (get_or s i 0) 47) ≡ false
      → ere_close i (ere_length escaped (drop i s)) ≡ ere_close (i + 1) (ere_length (not escaped && eqb (get_or s i 0) 92) (drop (i + 1) s))
  ere-more h n e = rw (ere-at h, ne_eqb _ 10 n, e, add-one i) (close_more i _)

  pub ere-end : length s ≤ i → ere_close i (ere_length escaped (drop i s)) ≡ None
  unfolding ere_close ere_length
  ere-end h = ap (λ (l : List ℕ). ere_close i (ere_length escaped l)) (drop_of_length-le s {i = i} h)

-- ---- STRINGs

-- the bytes of its value do not matter
with_byte_lem : (s : List ℕ) (b : ℕ) (r : Maybe (Parsed (List ℕ))) → string_close s (with_byte b r) ≡ string_close s r
unfolding string_close with_byte
with_byte_lem s b none = refl
with_byte_lem s b (some g) = refl

-- an escape: where none is spelled the STRING is refused
with-escape : (s : List ℕ) (o : Maybe ℕ) (r : Maybe (Parsed (List ℕ)))
    → string_close s (with_escape o r) ≡ cond (is_some o) (string_close s r) None
unfolding string_close with_escape
with-escape s none r = refl
with-escape s (some b) r = with_byte_lem s b r

module _ (s : List ℕ) (i : ℕ) (inside : i < length s) where
  string-at : (escaped : Bool) → read_string escaped (drop i s) ≡ read_string escaped (get_or s i 0 ∷ drop (suc i) s)
  string-at escaped = ap (read_string escaped) (drop-cons s i 0 inside)

  abbrev pub After : Bool → Option ℕ
  After escaped = string_close s (read_string escaped (drop (i + 1) s))

  -- what a turn says
  abbrev pub by_turn : Option ℕ → Option ℕ → Option ℕ → Turn → Option ℕ
  by_turn plain backslash quote Plain = plain
  by_turn plain backslash quote Backslash = backslash
  by_turn plain backslash quote Quote = quote
  by_turn plain backslash quote Refused = None

  pub string-turned : (escaped : Bool)
      → string_close s (read_string escaped (drop i s))
      ≡ by_turn (After false) (After true) (Some (i + 1)) (string_turn escaped (get_or s i 0))
  unfolding read_string string_turn string_close
  string-turned true = rw (string-at true, add-one i) (with-escape s (lookup string_escapes (get_or s i 0)) _ ∙ go (is_some (lookup string_escapes (get_or s i 0))))
    where
      go : (b : Bool) → cond b (string_close s (read_string false (drop (suc i) s))) None
          ≡ by_turn (string_close s (read_string false (drop (suc i) s))) (string_close s (read_string true (drop (suc i) s))) (Some (suc i)) (cond b Plain Refused)
      go true = refl
      go false = refl
  string-turned false =
      rw (string-at false, add-one i) (go (eqb (get_or s i 0) 34) (eqb (get_or s i 0) 10) (eqb (get_or s i 0) 92))
    where
      go : (x y z : Bool)
          → string_close s (cond x (parsed [] (drop (suc i) s))
          (cond y none (cond z (read_string true (drop (suc i) s)) (with_byte (get_or s i 0) (read_string false (drop (suc i) s))))))
          ≡ by_turn (string_close s (read_string false (drop (suc i) s))) (string_close s (read_string true (drop (suc i) s))) (Some (suc i))
          (cond x Quote (cond y Refused (cond z Backslash Plain)))
      go true y z =
          let same : length s - length (drop (suc i) s) ≡ suc i = omega (arith, length-drop (suc i) s, inside) in
          ap Some same
      go false true z = refl
      go false false true = refl
      go false false false = with_byte_lem s (get_or s i 0) (read_string false (drop (suc i) s))

  -- what is left of the text after a byte, by its turn
  pub string-next : (escaped : Bool) (turn : Turn) → turn ≡ string_turn escaped (get_or s i 0)
      → string_close s (read_string escaped (drop i s)) ≡ by_turn (After false) (After true) (Some (i + 1)) turn
  string-next escaped turn e = string-turned escaped ∙ ap (by_turn (After false) (After true) (Some (i + 1))) (sym e)

pub string-end : (s : List ℕ) (i : ℕ) (escaped : Bool) → length s ≤ i → string_close s (read_string escaped (drop i s)) ≡ None
unfolding string_close read_string
string-end s i escaped h = rw (drop_of_length-le s {i = i} h)
