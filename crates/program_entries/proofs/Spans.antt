-- EREs up to the slash that closes them, without judging them.
use mathlib.Core.Path.{◌≡◌, refl, sym, ap, ◌∙◌}
use mathlib.Core.Bool.{Bool, true, false, not, cond, ◌&&◌, ◌||◌}
use mathlib.Core.List.{List}
use mathlib.Core.Option.{Option, some, none}
use Prim.Native.Nat.{ℕ, suc, ◌+◌, ◌-◌, ◌≤◌, ◌<◌}
use native.Mathlib.Numerals.{add-one}
use native.Mathlib.Omega.{arith}
use lib.ListN.{length, take, drop}
use lib.Dec.{eqb, ltb}
use borrow.Author.Tests.{not-true, ne_eqb, ltb-true, ltb-false}
use Rattle.lists.proofs.Tests.{clash, and-true}
use Rattle.ere_meaning.specs.Tree.{Class, Ere}
use Rattle.ere_grammar.specs.Read.{read_ere}
use Rattle.image_format.specs.Image.{text}
use Rattle.program_tokens.specs.Kinds.{ERE, text_end, among, rank}
use Rattle.program_tokens.specs.Tokens.{Token, token, is_one_of, ere_length, ere_read, ere_token, as_operand, ere_in}
use Rattle.program_lexer.specs.Coded.{coded, decoded, kind_count}
use Rattle.program_scanner.specs.Closings.{ere_close}
use Rattle.std.specs.Prelude.{Some, None}
use Rattle.program_lexer.specs.declared.tokens.Token.{Token as Coded}
use Rattle.program_lexer.proofs.Coding.{made, kind-test, rank-of}
use Rattle.program_parser.specs.Meaning.{token_from, ere_at}
use Rattle.program_parser.specs.Reading.{Good}
use Rattle.program_parser.proofs.Tokens.{choose, good-from, good-operand}
use Rattle.program_parser.proofs.Codes.{kind-below, decoded-back}
use Rattle.program_names.specs.Walk.{spanned_by, spanned}
use Rattle.program_tables.specs.Texts.{value_of, value_in}
use Rattle.program_tables.specs.Tables.{meant}
use Rattle.program_tables.proofs.Values.{value-end}
use Rattle.program_entries.specs.Named.{operand_bound, Stands}
use Rattle.program_entries.proofs.Strings.{between-taken}
use Rattle.program_entries.proofs.Placing.{slashes, from_start, from-short, from_past}

module _ (s : List ℕ) where
  abbrev pub Length : Token → Option ℕ
  Length t = ere_length false (drop (suc t.start) s)

  -- a spanned token: as it was, or an ERE
  module _ (P : Token → Type 0) (t : Token) where
    by_length : (o : Option ℕ) → P t → ((n : ℕ) → o ≡ some n → P (token t.start ERE (2 + n))) → P (spanned_by t o)
    unfolding spanned_by
    by_length none p q = p
    by_length (some n) p q = q n refl

    pub span-cases : P t
        → ((n : ℕ) → is_one_of slashes t ≡ true → Length t ≡ some n → P (token t.start ERE (2 + n))) → P (spanned s t)
    unfolding spanned
    span-cases p q =
        choose P (is_one_of slashes t) (spanned_by t (Length t)) t (λ e. by_length (Length t) p (λ n h. q n e h)) (λ e. p)

  pub span-start : (t : Token) → (spanned s t).start ≡ t.start
  span-start t = span-cases (λ u. u.start ≡ t.start) t refl (λ n e h. refl)

  -- ---- as the code has it

  module _ (t : Coded) where
    slashed : is_one_of slashes (decoded t) ≡ (eqb t.kind 48 || (eqb t.kind 70 || false))
    unfolding among rank
    slashed =
        rw (
          kind-test t.kind 48 (omega arith) (λ q. omega (arith, q)),
          kind-test t.kind 70 (omega arith) (λ q. omega (arith, q)),
        )

    back : t.kind < kind_count → t ≡ coded (decoded t)
    back h = ap (λ (k : ℕ). made t.start k t.stop) (sym (rank-of t.kind h))

    pub span_same : t.kind < kind_count → (not (eqb t.kind 48) && not (eqb t.kind 70)) ≡ true
        → t ≡ coded (spanned s (decoded t))
    unfolding spanned
    span_same h e =
        let both = and-true (not (eqb t.kind 48)) (not (eqb t.kind 70)) e in
        rw (slashed, not-true (eqb t.kind 48) both.0, not-true (eqb t.kind 70) both.1) (back h)

    module _ (e : (not (eqb t.kind 48) && not (eqb t.kind 70)) ≡ false) where
      opened : spanned s (decoded t) ≡ spanned_by (decoded t) (Length (decoded t))
      unfolding spanned
      opened = rw (slashed, go (eqb t.kind 48) (eqb t.kind 70) e)
        where
          go : (x y : Bool) → (not x && not y) ≡ false → (x || (y || false)) ≡ true
          go true y h = refl
          go false true h = refl
          go false false h = absurd (clash h)

      open_by : t.kind < kind_count → (o : Option ℕ) → ere_close (t.start + 1) o ≡ None
          → t ≡ coded (spanned_by (decoded t) o)
      unfolding ere_close spanned_by
      open_by h none q = back h
      open_by h (some n) q = let z : ◌≡◌ {A = ℕ} 0 1 = cc in absurd (omega arith)

      closed-by : (o : Option ℕ) (end : ℕ) → ere_close (t.start + 1) o ≡ Some end
          → made t.start 6 (end + 1) ≡ coded (spanned_by (decoded t) o)
      unfolding ere_close spanned_by rank
      closed-by none end q = let z : ◌≡◌ {A = ℕ} 0 1 = cc in absurd (omega arith)
      closed-by (some n) end q =
          let at : t.start + 1 + n ≡ end = cc in
          let stop : end + 1 ≡ t.start + (2 + n) = omega arith in
          ap (made t.start 6) stop

      pub span-open : t.kind < kind_count
          → ere_close (t.start + 1) (ere_length false (drop (t.start + 1) s)) ≡ None
          → t ≡ coded (spanned s (decoded t))
      span-open h q = open_by h (Length (decoded t)) (rw (← add-one t.start) q) ∙ ap coded (sym opened)

      pub span-closed : (end : ℕ) → ere_close (t.start + 1) (ere_length false (drop (t.start + 1) s)) ≡ Some end
          → made t.start 6 (end + 1) ≡ coded (spanned s (decoded t))
      span-closed end q = closed-by (Length (decoded t)) end (rw (← add-one t.start) q) ∙ ap coded (sym opened)

-- ---- the same bytes as in the ERE that is judged

module _ (edition : ℕ) (s : List ℕ) where
  read-stop : (a n : ℕ) (m : Option (Ere Class)) → (ere_read a n m).stop ≡ a + n
  unfolding ere_read
  read-stop a n none = refl
  read-stop a n (some e) = refl

  read-bytes : (a n : ℕ) (m : Option (Ere Class)) → ere_in s (ere_read a n m) ≡ ere_in s (token a ERE n)
  unfolding ere_read ere_in
  read-bytes a n none = refl
  read-bytes a n (some e) = refl

  by_bytes : (t : Token) (o : Option ℕ) → t.stop ≤ t.start + 2
      → ere_in s (ere_token edition t.start (drop (suc t.start) s) o) ≡ ere_in s (spanned_by t o)
  unfolding ere_token spanned_by ere_in
  by_bytes t none h =
      let one : t.start + 1 - t.start - 2 ≡ 0 = omega arith in
      let two : t.stop - t.start - 2 ≡ 0 = omega arith in
      rw (one, two)
  by_bytes t (some n) h = read-bytes t.start (2 + n) (read_ere edition (take n (drop (suc t.start) s)))

  same_bytes : (t : Token) → (is_one_of slashes t ≡ true → t.stop ≤ t.start + 2)
      → ere_in s (as_operand edition s t) ≡ ere_in s (spanned s t)
  unfolding as_operand spanned
  same_bytes t h = go (is_one_of slashes t) refl
    where
      go : (b : Bool) → is_one_of slashes t ≡ b
          → ere_in s (cond b (ere_token edition t.start (drop (suc t.start) s) (Length s t)) t)
          ≡ ere_in s (cond b (spanned_by t (Length s t)) t)
      go true e = by_bytes t (Length s t) (h e)
      go false e = refl

  -- a closing slash is inside the text
  pub span-inside : (p : ℕ) (t : Token) (n : ℕ) → Good edition s p t → is_one_of slashes t ≡ true → Length s t ≡ some n
      → t.start + (2 + n) ≤ length s
  unfolding as_operand ere_token
  span-inside p t n g e h =
      let stop : (as_operand edition s t).stop ≡ t.start + (2 + n) =
      rw (e, h) (read-stop t.start (2 + n) (read_ere edition (take n (drop (suc t.start) s)))) in
      omega (arith, stop, (good-operand edition s p t g).within)

  pub span-within : (p : ℕ) (t : Token) → Good edition s p t → (spanned s t).stop ≤ length s
  span-within p t g =
      span-cases s (λ u. u.stop ≤ length s) t g.within (λ n e h. span-inside p t n g e h)

  -- ---- the entry of an ERE

  module _ (x : ℕ) where
    abbrev Spanned : Token
    Spanned = spanned s (token_from edition s x)

    -- what the code has
    pub span-ready : (t : Coded) → t ≡ coded (token_from edition s x) → x < operand_bound
        → (t.kind < kind_count) × (t.start < operand_bound)
    span-ready t e small =
        let kind : t.kind ≡ rank (token_from edition s x).kind = ap (λ (u : Coded). u.kind) e in
        let start : t.start ≡ (token_from edition s x).start = ap (λ (u : Coded). u.start) e in
        (omega (arith, kind, kind-below (token_from edition s x).kind), omega (arith, start, from_start edition s x))

    pub span-coded : (t u : Coded) → t ≡ coded (token_from edition s x) → u ≡ coded (spanned s (decoded t))
        → u ≡ coded Spanned
    span-coded t u e f = f ∙ ap (λ (v : Token). coded (spanned s v)) (decoded-back t (token_from edition s x) e)

    pub starts : Spanned.start ≡ x
    starts = span-start s (token_from edition s x) ∙ from_start edition s x

    bytes : ere_at edition s x ≡ take (Spanned.stop - x - 2) (drop (suc x) s)
    unfolding ere_in
    bytes =
        same_bytes (token_from edition s x) (λ e. omega (arith, from-short edition s x e, from_start edition s x))
        ∙ rw starts

    pub ere-none : x < operand_bound → Spanned.stop < Spanned.start + 2
        → Stands s false (text (ere_at edition s x)) (record { value = x + 1; stop = x + 1 })
    unfolding meant
    ere-none small h =
        let none : Spanned.stop - x - 2 ≡ 0 = omega (arith, starts) in
        let value : value_in s false (x + 1) (x + 1) ≡ ere_at edition s x =
        value-end s (x + 1) (x + 1) false (omega arith) ∙ sym (bytes ∙ rw none) in
        record {
          means = rw (ne_eqb (x + 1) 0 (λ z. omega (arith, z))) (ap text value);
          inside = λ g. absurd (omega (arith, g));
          bounded = omega arith;
        }

    within : Spanned.start + 2 ≤ Spanned.stop → Spanned.stop ≤ length s
    unfolding spanned among rank
    within h = go (ltb x (length s)) refl
      where
        go : (b : Bool) → ltb x (length s) ≡ b → Spanned.stop ≤ length s
        go true e =
            let inside = ltb-true x (length s) e in
            span-within 0 (token_from edition s x) (good-from edition s 0 x (omega arith) (omega arith))
        go false e =
            let past = ltb-false x (length s) e in
            let same : Spanned ≡ token x text_end 0 = rw (from_past edition s x past) in
            let stop : Spanned.stop ≡ x + 0 = ap (λ (t : Token). t.stop) same in
            absurd (omega (arith, h, stop, starts))

    pub ere-stands : x < operand_bound → Spanned.start + 2 ≤ Spanned.stop
        → Stands s false (text (ere_at edition s x)) (record { value = x + 1; stop = Spanned.stop - 1 })
    unfolding meant value_of
    ere-stands small h =
        let count : Spanned.stop - 1 - (x + 1) ≡ Spanned.stop - x - 2 = omega arith in
        let value : value_in s false (x + 1) (Spanned.stop - 1) ≡ ere_at edition s x =
        between-taken s (x + 1) (Spanned.stop - 1) ∙ (rw (count, add-one x) (sym bytes)) in
        record {
          means = rw (ne_eqb (Spanned.stop - 1) 0 (λ z. omega (arith, z, h, starts))) (ap text value);
          inside = λ g. omega (arith, within h);
          bounded = omega arith;
        }
