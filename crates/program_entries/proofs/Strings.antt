-- A STRING's value is what is between its quotes, its escapes taken.
use mathlib.Core.Path.{◌≡◌, refl, ap, ◌∙◌}
use mathlib.Core.Bool.{Bool, true, false, cond}
use mathlib.Core.List.{List, [], ◌∷◌}
use mathlib.Core.Option.{Option, some, none}
use Prim.Native.Nat.{ℕ, zero, suc, ◌-◌, ◌≤◌, ◌<◌}
use native.Mathlib.Omega.{arith}
use lib.ListN.{length, take, drop, length-drop}
use lib.Seq.{take-nil}
use lib.Dec.{eqb}
use borrow.Author.Tests.{ne_eqb}
use Rattle.edition.specs.Limits.{filter_text}
use Rattle.lists.specs.Parsing.{Parsed, parsed}
use Rattle.ere_grammar.specs.Bytes.{lookup, string_escapes}
use Rattle.image_format.specs.Image.{text}
use Rattle.program_tokens.specs.Tokens.{read_string, with_byte, with_escape, value_of as value_read}
use Rattle.program_scanner.specs.Closings.{string_close}
use Rattle.std.specs.Prelude.{Some, None}
use Rattle.program_tables.specs.Texts.{byte_or, unescape, between, value_of, value_in}
use Rattle.program_tables.specs.Tables.{meant}
use Rattle.program_tables.proofs.Values.{value-end}
use Rattle.program_entries.specs.Named.{string_from, Stands}

-- the bytes between two places, counted from the first
pub between-taken : (s : List ℕ) (a b : ℕ) → between s a b ≡ take (b - a) (drop a s)
between-taken s zero b =
    let same : b ≡ b - 0 = omega arith in
    ap (λ (n : ℕ). take n s) same
between-taken [] (suc a) b = ap (drop (suc a)) (take-nil b) ∙ rw (take-nil (b - suc a))
between-taken (x ∷ s) (suc a) zero =
    let none : 0 - suc a ≡ 0 = omega arith in
    rw none
between-taken (x ∷ s) (suc a) (suc b) =
    let same : suc b - suc a ≡ b - a = omega arith in
    rw same (between-taken s a b)

-- what was read off a list: its value is that of the bytes before the closing quote
abbrev Reads : Bool → List ℕ → Option (Parsed (List ℕ)) → Type 0
Reads escaped l none = Unit
Reads escaped l (some g) =
    (length g.rest < length l) × (unescape escaped (take (length l - length g.rest - 1) l) ≡ g.value)

-- ---- one byte more

taken_more : (b : ℕ) (l : List ℕ) (r : ℕ) → r < length l
    → take (suc (length l) - r - 1) (b ∷ l) ≡ b ∷ take (length l - r - 1) l
taken_more b l r h =
    let same : suc (length l) - r - 1 ≡ suc (length l - r - 1) = omega arith in
    ap (λ (n : ℕ). take n (b ∷ l)) same

reads_byte : (escaped : Bool) (b v : ℕ) (l : List ℕ) (o : Option (Parsed (List ℕ)))
    → ((m : List ℕ) → unescape escaped (b ∷ m) ≡ v ∷ unescape false m) → Reads false l o
    → Reads escaped (b ∷ l) (with_byte v o)
unfolding with_byte
reads_byte escaped b v l none f h = tt
reads_byte escaped b v l (some g) f h = (
  omega (arith, h.0),
  ap (unescape escaped) (taken_more b l (length g.rest) h.0)
      ∙ (f (take (length l - length g.rest - 1) l) ∙ ap (λ (m : List ℕ). v ∷ m) h.1),
)

escape-one : (b v : ℕ) (m : List ℕ) → lookup string_escapes b ≡ some v → unescape true (b ∷ m) ≡ v ∷ unescape false m
unfolding unescape byte_or
escape-one b v m e = rw e

reads-escape : (b : ℕ) (l : List ℕ) (o : Option ℕ) (r : Option (Parsed (List ℕ))) → lookup string_escapes b ≡ o
    → Reads false l r → Reads true (b ∷ l) (with_escape o r)
unfolding with_escape
reads-escape b l none r e h = tt
reads-escape b l (some v) r e h = reads_byte true b v l r (λ m. escape-one b v m e) h

backslash-one : (b : ℕ) (m : List ℕ) → eqb b 92 ≡ true → unescape false (b ∷ m) ≡ unescape true m
unfolding unescape
backslash-one b m e = rw e

reads-backslash : (b : ℕ) (l : List ℕ) (o : Option (Parsed (List ℕ))) → eqb b 92 ≡ true → Reads true l o
    → Reads false (b ∷ l) o
reads-backslash b l none e h = tt
reads-backslash b l (some g) e h = (
  omega (arith, h.0),
  ap (unescape false) (taken_more b l (length g.rest) h.0)
      ∙ (backslash-one b (take (length l - length g.rest - 1) l) e ∙ h.1),
)

plain-one : (b : ℕ) (m : List ℕ) → eqb b 92 ≡ false → unescape false (b ∷ m) ≡ b ∷ unescape false m
unfolding unescape
plain-one b m e = rw e

quote-one : (b : ℕ) (l : List ℕ) → Reads false (b ∷ l) (parsed [] l)
unfolding unescape
quote-one b l =
    let none : suc (length l) - length l - 1 ≡ 0 = omega arith in
    (omega arith, rw none)

reads : (escaped : Bool) (l : List ℕ) → Reads escaped l (read_string escaped l)
unfolding read_string
reads escaped [] = tt
reads true (b ∷ l) = reads-escape b l (lookup string_escapes b) (read_string false l) refl (reads false l)
reads false (b ∷ l) = go (eqb b 34) (eqb b 10) (eqb b 92) refl (reads false l) (reads true l)
  where
    go : (x y z : Bool) → eqb b 92 ≡ z → Reads false l (read_string false l) → Reads true l (read_string true l)
        → Reads false (b ∷ l)
        (cond x (parsed [] l) (cond y none (cond z (read_string true l) (with_byte b (read_string false l)))))
    go true y z e f g = quote-one b l
    go false true z e f g = tt
    go false false true e f g = reads-backslash b l (read_string true l) e g
    go false false false e f g = reads_byte false b b l (read_string false l) (λ m. plain-one b m e) f

-- ---- the entry of a STRING, by the place after its closing quote

module _ (s : List ℕ) (at : ℕ) where
  abbrev Closed : ℕ → List ℕ → Type 0
  Closed end v = (at < end) × ((end ≤ length s) × (value_in s true at (end - 1) ≡ v))

  closed-by : (o : Option (Parsed (List ℕ))) (end : ℕ) → Reads false (drop at s) o → string_close s o ≡ Some end
      → Closed end (value_read o)
  unfolding string_close value_read value_of
  closed-by none end h e = let z : ◌≡◌ {A = ℕ} 0 1 = cc in absurd (omega arith)
  closed-by (some g) end h e =
      let stop : length s - length g.rest ≡ end = cc in
      let left : length (drop at s) ≡ length s - at = length-drop at s in
      let count : end - 1 - at ≡ length (drop at s) - length g.rest - 1 = omega (arith, h.0) in (
        omega (arith, h.0),
        (
          omega arith,
          ap (unescape false) (between-taken s at (end - 1) ∙ ap (λ (n : ℕ). take n (drop at s)) count) ∙ h.1,
        ),
      )

  none-by : (o : Option (Parsed (List ℕ))) → string_close s o ≡ None → value_read o ≡ []
  unfolding string_close value_read
  none-by none e = refl
  none-by (some g) e = let z : ◌≡◌ {A = ℕ} 0 1 = cc in absurd (omega arith)

  pub string-closed : (end : ℕ) → string_close s (read_string false (drop at s)) ≡ Some end → Closed end (string_from s at)
  unfolding string_from
  string-closed end e = closed-by (read_string false (drop at s)) end (reads false (drop at s)) e

  module _ (some-place : 0 < at) (small : at ≤ filter_text) where
    pub string-stands : (end : ℕ) → string_close s (read_string false (drop at s)) ≡ Some end
        → Stands s true (text (string_from s at)) (record { value = at; stop = end - 1 })
    unfolding meant
    string-stands end e =
        let q = string-closed end e in
        record {
          means = rw (ne_eqb (end - 1) 0 (λ z. omega (arith, z, q.0))) (ap text q.1.1);
          inside = λ h. omega (arith, q.1.0);
          bounded = omega arith;
        }

    pub string-open : string_close s (read_string false (drop at s)) ≡ None
        → Stands s true (text (string_from s at)) (record { value = at; stop = at })
    unfolding meant string_from
    string-open e =
        let value : value_in s true at at ≡ value_read (read_string false (drop at s)) =
        value-end s at at true (omega arith) ∙ rw (none-by (read_string false (drop at s)) e) in
        record {
          means = rw (ne_eqb at 0 (λ z. omega (arith, z))) (ap text value);
          inside = λ h. absurd (omega (arith, h));
          bounded = omega arith;
        }
