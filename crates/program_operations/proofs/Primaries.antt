-- Primaries, `$` forms and prefix operators.
use mathlib.Core.Path.{◌≡◌, refl, sym, ap, ◌∙◌}
use mathlib.Core.Bool.{Bool, true, false, cond, ◌||◌}
use mathlib.Core.List.{List, [], ◌∷◌}
use mathlib.Core.Logic.{⊎_elim}
use Prim.Native.Nat.{ℕ, ◌+◌, ◌≤◌, ◌<◌}
use native.Mathlib.Omega.{arith}
use lib.Seq.{sets}
use lib.Dec.{eqb}
use borrow.Author.Tests.{eq-eqb, ne_eqb, eqb-true}
use Rattle.lists.proofs.Tests.{clash, or_cases, or-false}
use Rattle.image_format.specs.Codes.{Operation, action, constant as constant-action, get, field as field-action, matches as matches-action}
use Rattle.image_format.specs.Image.{Constant, number, text}
use Rattle.program_tokens.specs.Kinds.{Kind, text_end, NUMBER, STRING, ERE, fixed_variable, plus, bang, same, among, rank}
use Rattle.program_tokens.specs.Tokens.{Token, is, token_after, spelling, number_in, string_in, ere_in}
use Rattle.program_tree.specs.Tree.{Prefix, negation, to_number, negate, Expression, constant, ere, variable, parentheses, field, prefix}
use Rattle.program_tree.specs.Functions.{function_of}
use Rattle.program_grammar.specs.Sets.{names, prefixes}
use Rattle.program_reader.specs.Read.{Read as Result, ok, map, operand_after}
use Rattle.program_reader.specs.Operators.{prefix_of, fields, prefixed, expressions}
use Rattle.program_reader.specs.Expressions.{Inner, closed, calling, primary, field_form, prefix_form}
use Rattle.program_code.specs.Emitted.{Operand, nothing, the_constant, the_variable, the_ere, emit, action_code, opcode}
use Rattle.program_code.specs.Expressions.{prefix_action, size, compile}
use Rattle.program_lexer.specs.Coded.{coded, decoded, kind_of}
use Rattle.program_lexer.specs.declared.tokens.Token.{Token as Coded}
use Rattle.program_lexer.proofs.Coding.{rank-of}
use Rattle.program_words.specs.Words.{Fits, word, ere_words}
use Rattle.program_parser.specs.declared.read.Read.{Read}
use Rattle.program_parser.specs.Tables.{prefix_code}
use Rattle.program_parser.specs.Meaning.{Denotes, none_left, one_more, name_at}
use Rattle.program_parser.specs.Reading.{success, closed_of, form_of, Ready, Reading}
use Rattle.program_parser.proofs.Tokens.{good-after}
use Rattle.program_parser.proofs.Codes.{decoded-back}
use Rattle.program_parser.proofs.Spelling.{word-means}
use Rattle.program_parser.proofs.Places.{number-placed, string-placed, ere-placed, name-placed}
use Rattle.program_operations.specs.Parts.{Suffixed}
use Rattle.program_operations.proofs.Readings.{after-operand}
use Rattle.program_operations.proofs.Written.{wrote_nothing, wrote_one}
use Rattle.program_operations.proofs.Suffixes.{Ends, suffix-read, paren-read}
use Rattle.program_operations.proofs.Names.{name-word}

-- codes, depths and places fit into a word
pub fits : (op d x : ℕ) → op < 256 → d < 65536 → x < 1048576 → Fits op d x 0
fits op d x a b c = record { op_fits = a; depth_fits = b; first_fits = c; second_fits = omega arith }

-- a constant is no name
no_name : (c : Constant) (v : List ℕ) → constant c ≡ variable v → ⊥
no_name c v y = let z : ◌≡◌ {A = ℕ} 0 1 = cc in omega arith

ere-no-name : (r v : List ℕ) → ere r ≡ variable v → ⊥
ere-no-name r v y = let z : ◌≡◌ {A = ℕ} 0 1 = cc in omega arith

field-no-name : (e : Expression) (v : List ℕ) → field e ≡ variable v → ⊥
field-no-name e v y = let z : ◌≡◌ {A = ℕ} 0 1 = cc in omega arith

prefix-no-name : (o : Prefix) (e : Expression) (v : List ℕ) → prefix o e ≡ variable v → ⊥
prefix-no-name o e v y = let z : ◌≡◌ {A = ℕ} 0 1 = cc in omega arith

same_name : (v u : List ℕ) → variable v ≡ variable u → v ≡ u
same_name v u y = cc

prefix-begun : (n : ℕ) → among prefixes (kind_of n) ≡ true → n ≡ 0 → ⊥
unfolding among kind_of rank
prefix-begun n e z = clash (sym e ∙ rw z)

pub prefix-small : (k : Kind) → action_code (prefix_action (prefix_of k)) < 256
unfolding prefix_of action_code prefix_action
prefix-small k = go (same k bang) (same k plus)
  where
    go : (a b : Bool) → action_code (prefix_action (cond a negation (cond b to_number negate))) < 256
    go true b = omega arith
    go false true = omega arith
    go false false = omega arith

module _ (edition : ℕ) (s : List ℕ) (inner : Inner) (t : Coded) (n d : ℕ) (xs : List ℕ) (h : Ready edition s t n) where
  pub kind-is : (k : Kind) → is k (decoded t) ≡ eqb t.kind (rank k)
  kind-is k = ap (λ (m : ℕ). eqb m (rank k)) (rank-of t.kind h.known)

  pub begun : (t.kind ≡ 0 → ⊥) → t.start < t.stop
  unfolding rank
  begun z = h.good.longer (kind-is text_end ∙ ne_eqb t.kind 0 z)

  -- the operand comes after the operator
  opened : (first : Coded) → first ≡ coded (operand_after edition s (decoded t)) → (t.kind ≡ 0 → ⊥)
      → (t.start < first.start) × (t.stop ≤ first.stop)
  opened first fe z =
      let g = after-operand edition s (decoded t) h.good in
      let a : first.start ≡ (operand_after edition s (decoded t)).start = ap (λ (y : Coded). y.start) fe in
      let b : first.stop ≡ (operand_after edition s (decoded t)).stop = ap (λ (y : Coded). y.stop) fe in
      (omega (arith, begun z, g.after, a), omega (arith, g.after, g.ordered, b))

  -- ---- tokens that are operands by themselves

  one-read : (e : Expression) (o : Operation) (x : Operand) (form : ℕ) (r : Read) (ys : List ℕ) → t.start < t.stop
      → size e ≡ 1
      → compile e n d ≡ emit o d x → form_of edition e ≡ form → Fits (opcode o) d t.start 0
      → Denotes edition s x t.start
      → ((v : List ℕ) → e ≡ variable v → name_at edition s t.start ≡ v)
      → r ≡ success (token_after edition s (decoded t)) (n + 1) form → ys ≡ sets xs n (word (opcode o) d t.start ∷ [])
      → Reading edition s (decoded t) n d xs (ok e (token_after edition s (decoded t))) r ys
  unfolding Reading
  one-read e o x form r ys l one code formed fit says named a w =
      let g = good-after edition s 0 (decoded t) h.good in
      record {
        answer = rw (one, formed) a;
        good = g;
        bound = omega (arith, l, g.after, one);
        wrote = rw code (wrote_one edition s xs n o d t.start x ys fit says w);
        named = named;
      }

  small : t.start < t.stop → t.start < 8192
  small l = omega (arith, l, h.good.within, h.small)

  module _ (deep : d ≤ 60000) (r : Read) (ys : List ℕ) where
    at-number : t.kind ≡ 4 → primary edition s inner (decoded t)
        ≡ ok (constant (number (number_in s (decoded t)))) (token_after edition s (decoded t))
    unfolding primary rank
    at-number e = rw (rank-of t.kind h.known, eq-eqb t.kind 4 e)

    at-string : t.kind ≡ 5 → primary edition s inner (decoded t)
        ≡ ok (constant (text (string_in s (decoded t)))) (token_after edition s (decoded t))
    unfolding primary rank
    at-string e =
        rw (rank-of t.kind h.known, ne_eqb t.kind 4 (λ z. omega (arith, e, z)), eq-eqb t.kind 5 e)

    pub primary-constant : (eqb t.kind 4 || eqb t.kind 5) ≡ true → r
        ≡ success (token_after edition s (decoded t)) (n + 1) 0
        → ys ≡ sets xs n (word 1 d t.start ∷ []) → Reading edition s (decoded t) n d xs
        (primary edition s inner (decoded t)) r ys
    unfolding size compile form_of action_code opcode rank Denotes
    primary-constant e a w =
        ⊎_elim
        (λ x.
        let k = eqb-true t.kind 4 x in
        let l = begun (λ z. omega (arith, k, z)) in
        rw (at-number k)
        (one-read (constant (number (number_in s (decoded t)))) (action constant-action)
        (the_constant (number (number_in s (decoded t)))) 0 r ys l refl refl refl
        (fits 1 d t.start (omega arith) (omega (arith, deep)) (omega (arith, small l)))
        (number-placed edition s (decoded t) h.good.placed (small l) (kind-is NUMBER ∙ x))
        (λ v z. absurd (no_name _ v z)) a w))
        (λ x.
        let k = eqb-true t.kind 5 x in
        let l = begun (λ z. omega (arith, k, z)) in
        rw (at-string k)
        (one-read (constant (text (string_in s (decoded t)))) (action constant-action)
        (the_constant (text (string_in s (decoded t)))) 0 r ys l refl refl refl
        (fits 1 d t.start (omega arith) (omega (arith, deep)) (omega (arith, small l)))
        (string-placed edition s (decoded t) h.good.placed (small l) (kind-is STRING ∙ x))
        (λ v z. absurd (no_name _ v z)) a w))
        (or_cases (eqb t.kind 4) (eqb t.kind 5) e)

    at-ere : t.kind ≡ 6 → primary edition s inner (decoded t)
        ≡ ok (ere (ere_in s (decoded t))) (token_after edition s (decoded t))
    unfolding primary rank
    at-ere e =
        rw (
          rank-of t.kind h.known,
          ne_eqb t.kind 4 (λ z. omega (arith, e, z)),
          ne_eqb t.kind 5 (λ z. omega (arith, e, z)),
          eq-eqb t.kind 6 e,
        )

    pub primary-ere : t.kind ≡ 6 → r ≡ success (token_after edition s (decoded t)) (n + 3) 0 → ys
        ≡ sets xs n (ere_words d t.start)
        → Reading edition s (decoded t) n d xs (primary edition s inner (decoded t)) r ys
    unfolding Reading size compile form_of action_code opcode Denotes rank
    primary-ere e a w =
        let l = begun (λ z. omega (arith, e, z)) in
        let g = good-after edition s 0 (decoded t) h.good in
        rw (at-ere e)
        record {
          answer = a;
          good = g;
          bound = omega (arith, l, g.after);
          wrote =
              record {
                words = ere_words d t.start;
                stored = w;
                spelled =
                    one_more
                    (word-means edition s (action constant-action) d 8192 (the_constant (number 0))
                    (fits 1 d 8192 (omega arith) (omega (arith, deep)) (omega arith)) refl)
                    (one_more
                    (word-means edition s (action field-action) (d + 1) 0 nothing
                    (fits 4 (d + 1) 0 (omega arith) (omega (arith, deep)) (omega arith)) refl)
                    (one_more
                    (word-means edition s (action matches-action) (d + 1) t.start (the_ere (ere_in s (decoded t)))
                    (fits 22 (d + 1) t.start (omega arith) (omega (arith, deep)) (omega (arith, small l)))
                    (ere-placed edition s (decoded t) h.good.placed (kind-is ERE ∙ eq-eqb t.kind 6 e)))
                    none_left));
              };
          named = λ v z. absurd (ere-no-name _ v z);
        }

  -- a kind that is neither a constant's nor an ERE's
  module _ (c : (eqb t.kind 4 || eqb t.kind 5) ≡ false) (x : t.kind ≡ 6 → ⊥) where
    neither : (eqb t.kind 4 ≡ false) × (eqb t.kind 5 ≡ false)
    neither = or-false (eqb t.kind 4) (eqb t.kind 5) c

    at_name : among names (kind_of t.kind) ≡ true
        → primary edition s inner (decoded t) ≡ ok (variable (spelling s (decoded t)))
        (token_after edition s (decoded t))
    unfolding primary rank
    at_name e = rw (rank-of t.kind h.known, neither.0, neither.1, ne_eqb t.kind 6 x, e)

    name-begun : among names (kind_of t.kind) ≡ true → t.kind ≡ 0 → ⊥
    unfolding among kind_of rank
    name-begun e z = clash (sym e ∙ rw z)

    pub primary-name : d ≤ 60000 → (r : Read) (ys : List ℕ) (form : ℕ) → among names (kind_of t.kind) ≡ true
        → form ≡ cond (eqb t.kind 9) 0 1 → r ≡ success (token_after edition s (decoded t)) (n + 1) form
        → ys ≡ sets xs n (word 2 d t.start ∷ []) → Reading edition s (decoded t) n d xs
        (primary edition s inner (decoded t)) r ys
    unfolding size compile form_of action_code opcode rank Denotes
    primary-name deep r ys form e f a w =
        let l = begun (name-begun e) in
        let v : List ℕ = spelling s (decoded t) in
        let said : name_at edition s t.start ≡ v = name-placed edition s (decoded t) h.good.placed e in
        let formed : form_of edition (variable v) ≡ form =
        ap (λ (k : Kind). cond (same k fixed_variable) 0 1) (name-word edition s (decoded t) h.good.placed e)
        ∙ (ap (λ (b : Bool). cond b 0 1) (kind-is fixed_variable) ∙ sym f) in
        rw (at_name e)
        (one-read (variable v) (action get) (the_variable v) form r ys l refl refl formed
        (fits 2 d t.start (omega arith) (omega (arith, deep)) (omega (arith, small l)))
        said (λ u z. said ∙ same_name v u z) a w)

    module _ (m : among names (kind_of t.kind) ≡ false) where
      primary-call : (t.kind ≡ 38 → ⊥)
          → primary edition s inner (decoded t) ≡ calling edition s inner (decoded t)
          (function_of edition (kind_of t.kind))
      unfolding primary rank
      primary-call p =
          rw (rank-of t.kind h.known, neither.0, neither.1, ne_eqb t.kind 6 x, m, ne_eqb t.kind 38 p)

      pub primary-called : (t.kind ≡ 38 → ⊥) → (r : Read) (ys : List ℕ)
          → Reading edition s (decoded t) n d xs (calling edition s inner (decoded t)
          (function_of edition (kind_of t.kind))) r ys
          → Reading edition s (decoded t) n d xs (primary edition s inner (decoded t)) r ys
      primary-called p r ys w = rw (primary-call p) w

      at_paren : t.kind ≡ 38
          → primary edition s inner (decoded t)
          ≡ map parentheses (closed edition s (inner false expressions (decoded t)
          (operand_after edition s (decoded t))))
      unfolding primary rank
      at_paren p =
          rw (rank-of t.kind h.known, neither.0, neither.1, ne_eqb t.kind 6 x, m, eq-eqb t.kind 38 p)

      pub primary-paren : t.kind ≡ 38 → (first : Coded) (r q : Read) (ys : List ℕ) → first
          ≡ coded (operand_after edition s (decoded t))
          → Reading edition s (decoded first) n d xs (inner false expressions (decoded t) (decoded first)) r ys
          → q ≡ closed_of edition s r → Reading edition s (decoded t) n d xs (primary edition s inner (decoded t)) q ys
      primary-paren p first r q ys fe w e =
          let o = opened first fe (λ z. omega (arith, p, z)) in
          rw (at_paren p, ← (decoded-back first (operand_after edition s (decoded t)) fe))
          (paren-read edition s (decoded t) (decoded first) n d xs ys o.1 o.0
          (inner false expressions (decoded t) (decoded first)) r q w e)

  -- ---- an operator before its operand

  module _ (first : Coded) (fe : first ≡ coded (operand_after edition s (decoded t))) (deep : d ≤ 60000) (r q : Read)
      (ys zs : List ℕ) where
    wrapped : (o : Operation) (form : ℕ) (f : Expression → Expression) → (t.kind ≡ 0 → ⊥) → opcode o < 256
        → Ends edition n d [] n d o (d + 1) nothing form f → (R : Result Expression)
        → Reading edition s (decoded first) n d xs R r ys → Suffixed r (opcode o) (d + 1) 0 form ys q zs
        → Reading edition s (decoded t) n d xs (map f R) q zs
    unfolding Denotes
    wrapped o form f z small-code ends R w e =
        let p = opened first fe z in
        suffix-read edition s (decoded t) (decoded first) n d n d xs xs ys zs [] o (d + 1) 0 nothing form f ends
        (wrote_nothing edition s xs n) (omega arith) p.1 (omega (arith, p.0))
        (fits (opcode o) (d + 1) 0 small-code (omega (arith, deep)) (omega arith)) refl R r q w e

    pub field-read : t.kind ≡ 58 → Reading edition s (decoded first) n d xs
        (inner false fields (decoded t) (decoded first)) r ys
        → Suffixed r 4 (d + 1) 0 2 ys q zs → Reading edition s (decoded t) n d xs
        (field_form edition s inner (decoded t)) q zs
    unfolding field_form rank size compile form_of opcode action_code
    field-read e w a =
        rw (
          rank-of t.kind h.known,
          eq-eqb t.kind 58 e,
          ←
              (decoded-back first (operand_after edition s (decoded t)) fe),
        )
        (wrapped (action field-action) 2 field (λ z. omega (arith, e, z)) (omega arith)
        (record { sized = λ y. omega arith; code = λ y. refl; formed = λ y. refl; other = field-no-name })
        (inner false fields (decoded t) (decoded first)) w a)

    pub prefix-read : (below : Token → Result Expression) → among prefixes (kind_of t.kind) ≡ true
        → Reading edition s (decoded first) n d xs (inner false prefixed (decoded t) (decoded first)) r ys
        → Suffixed r (prefix_code (kind_of t.kind)) (d + 1) 0 0 ys q zs
        → Reading edition s (decoded t) n d xs (prefix_form edition s inner below (decoded t)) q zs
    unfolding prefix_form size compile form_of opcode
    prefix-read below e w a =
        let k : Kind = kind_of t.kind in
        rw (e, ← (decoded-back first (operand_after edition s (decoded t)) fe))
        (wrapped (action (prefix_action (prefix_of k))) 0 (prefix (prefix_of k)) (prefix-begun t.kind e)
        (prefix-small k)
        (record { sized = λ y. omega arith; code = λ y. refl; formed = λ y. refl; other = prefix-no-name (prefix_of k) })
        (inner false prefixed (decoded t) (decoded first)) w a)

  pub field-other : (r : Read) (ys : List ℕ) → (t.kind ≡ 58 → ⊥)
      → Reading edition s (decoded t) n d xs (primary edition s inner (decoded t)) r ys
      → Reading edition s (decoded t) n d xs (field_form edition s inner (decoded t)) r ys
  unfolding field_form rank
  field-other r ys e w = rw (rank-of t.kind h.known, ne_eqb t.kind 58 e) w

  pub prefix-other : (below : Token → Result Expression) (r : Read) (ys : List ℕ) → among prefixes (kind_of t.kind)
      ≡ false
      → Reading edition s (decoded t) n d xs (below (decoded t)) r ys
      → Reading edition s (decoded t) n d xs (prefix_form edition s inner below (decoded t)) r ys
  unfolding prefix_form
  prefix-other below r ys e w = rw e w
