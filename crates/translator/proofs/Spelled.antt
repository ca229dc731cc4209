-- Words that spell a section's code, numbered in three passes: constants, EREs, variables.
use mathlib.Core.Path.{◌≡◌, refl, sym, ap, subst, ◌∙◌}
use mathlib.Core.Bool.{Bool, true, false, cond}
use mathlib.Core.List.{List, [], ◌∷◌, ◌++◌, map, map-append}
use Prim.Native.Nat.{ℕ, ◌<◌}
use native.Mathlib.Omega.{arith}
use lib.ListN.{length}
use Rattle.image_format.specs.Image.{Constant, text, Instruction}
use Rattle.program_tokens.specs.Words.{same_bytes}
use Rattle.program_code.specs.Emitted.{Operand, nothing, the_constant, the_variable, the_ere, the_instruction, the_count, Emitted, opcode}
use Rattle.program_numbering.specs.Names.{has, number_of}
use Rattle.program_numbering.specs.Numbering.{special_names, same_constant, constant_in, ere_in, operands_by, Tables, numbers_of, instructions}
use Rattle.program_numbering.proofs.Numbers.{Each, each-join}
use Rattle.program_words.specs.Words.{Fits, op_in, depth_in, first_in}
use Rattle.program_emitter.proofs.Packed.{op-packed, depth-packed, first-packed}
use Rattle.program_parser.specs.Meaning.{constant_at, name_at, ere_at, Denotes, Means, Spell, none_left, one_more}
use Rattle.program_entries.specs.Named.{is_named, named, variable_of}
use Rattle.program_entries.specs.Variables.{specials}
use Rattle.program_image.specs.Written.{has_operand, instruction_of}
use Rattle.program_numberer.specs.Numbered.{with_operand, thing_at, things, numbered}
use Rattle.program_numberer.proofs.Lists.{number-most}
use Rattle.program_numberer.proofs.Operands.{things-append}
use Rattle.translator.proofs.Agreeing.{is_constant, is_variable, is_ere, is_some, ListedIn, Agrees}
use Rattle.translator.proofs.Texts.{texts, number-texts, number-variable, has-variable}

-- numbers of a list that a word can hold
abbrev pub Few : List Constant → Type 0
Few l = length l < 1048576

module _ (edition : ℕ) (s : List ℕ) where
  -- ---- one pass over one word

  module _ (what : ℕ) (l : List Constant) (few : Few l) (w : ℕ) where
    abbrev K : ℕ
    K = number_of same_constant l (thing_at edition s what w)

    fitting : Fits (op_in w) (depth_in w) K 0
    fitting =
        record {
          op_fits = omega arith;
          depth_fits = omega arith;
          first_fits = omega (arith, few, number-most same_constant l (thing_at edition s what w));
          second_fits = omega arith;
        }

    same_op : op_in (numbered edition s what l w) ≡ op_in w
    unfolding numbered
    same_op = go (is_named what (op_in w))
      where
        go : (x : Bool) → op_in (cond x (with_operand w K) w) ≡ op_in w
        go true = op-packed (op_in w) (depth_in w) K 0 fitting
        go false = refl

    same-depth : depth_in (numbered edition s what l w) ≡ depth_in w
    unfolding numbered
    same-depth = go (is_named what (op_in w))
      where
        go : (x : Bool) → depth_in (cond x (with_operand w K) w) ≡ depth_in w
        go true = depth-packed (op_in w) (depth_in w) K 0 fitting
        go false = refl

    left_out : is_named what (op_in w) ≡ false → numbered edition s what l w ≡ w
    unfolding numbered
    left_out e = rw e

    first-number : is_named what (op_in w) ≡ true → first_in (numbered edition s what l w) ≡ K
    unfolding numbered
    first-number e = rw e (first-packed (op_in w) (depth_in w) K 0 fitting)

  -- ---- what a word names

  one-constant : (w : ℕ) (x : Operand) → Denotes edition s x (first_in w) → is_named 0 (op_in w) ≡ is_constant x
      → things edition s 0 (w ∷ []) ≡ constant_in x
  unfolding things named Denotes
  one-constant w nothing h e = rw e
  one-constant w (the_constant c) h e = rw e (ap (λ (k : Constant). k ∷ []) h)
  one-constant w (the_variable v) h e = rw e
  one-constant w (the_ere r) h e = rw e
  one-constant w (the_instruction n) h e = rw e
  one-constant w (the_count n) h e = rw e

  one-ere : (w : ℕ) (x : Operand) → Denotes edition s x (first_in w) → is_named 2 (op_in w) ≡ is_ere x
      → things edition s 2 (w ∷ []) ≡ texts (ere_in x)
  unfolding things named Denotes
  one-ere w nothing h e = rw e
  one-ere w (the_constant c) h e = rw e
  one-ere w (the_variable v) h e = rw e
  one-ere w (the_ere r) h e = rw e (ap (λ (k : List ℕ). text k ∷ []) h)
  one-ere w (the_instruction n) h e = rw e
  one-ere w (the_count n) h e = rw e

  module _ (users : List (List ℕ)) where
    abbrev pub Listed : Constant → Type 0
    Listed a = has same_constant (specials ++ texts users) a ≡ true

    one-variable : (w : ℕ) (x : Operand) → Denotes edition s x (first_in w) → is_named 1 (op_in w) ≡ is_variable x
        → ListedIn (special_names ++ users) x → Each Listed (things edition s 1 (w ∷ []))
    unfolding things named Denotes
    one-variable w nothing h e l = rw e tt
    one-variable w (the_constant c) h e l = rw e tt
    one-variable w (the_variable v) h e l = rw (e, h) (has-variable users v l, tt)
    one-variable w (the_ere r) h e l = rw e tt
    one-variable w (the_instruction n) h e l = rw e tt
    one-variable w (the_count n) h e l = rw e tt

  -- ---- the words of a section, pass by pass

  module _ (users : List (List ℕ)) where
    abbrev AllAgree : List Emitted → Type 0
    AllAgree is = Each (Agrees (special_names ++ users)) is

    module _ (w : ℕ) (i : Emitted) (m : Means edition s w i) (a : Agrees (special_names ++ users) i) where
      named-0 : is_named 0 (op_in w) ≡ is_constant i.operand
      named-0 = ap (is_named 0) m.op ∙ a.constants

      named-1 : is_named 1 (op_in w) ≡ is_variable i.operand
      named-1 = ap (is_named 1) m.op ∙ a.variables

      named-2 : is_named 2 (op_in w) ≡ is_ere i.operand
      named-2 = ap (is_named 2) m.op ∙ a.eres

      constant-thing : things edition s 0 (w ∷ []) ≡ constant_in i.operand
      constant-thing = one-constant w i.operand m.first named-0

    pub constants-named : {ws : List ℕ} {is : List Emitted} → Spell edition s ws is → AllAgree is
        → things edition s 0 ws ≡ operands_by constant_in is
    unfolding operands_by things
    constants-named none_left a = refl
    constants-named (one_more {w} {i} {ws} {is} m l) a =
        things-append edition s 0 (w ∷ []) ws
        ∙ (ap (λ (k : List Constant). k ++ things edition s 0 ws) (constant-thing w i m a.0)
        ∙ ap (λ (k : List Constant). constant_in i.operand ++ k) (constants-named l a.1))

    -- ---- once constants are numbers

    module _ (constants : List Constant) (few-c : Few constants) where
      abbrev first : ℕ → ℕ
      first = numbered edition s 0 constants

      module _ (w : ℕ) where
        op-first : op_in (first w) ≡ op_in w
        op-first = same_op 0 constants few-c w

        no_first : is_named 0 (op_in w) ≡ false → first w ≡ w
        no_first e = left_out 0 constants few-c w e

        no_ere : is_named 2 (op_in w) ≡ false → things edition s 2 (first w ∷ []) ≡ []
        unfolding things
        no_ere e = rw (op-first, e)

        kept-ere : (x : Operand) → is_named 0 (op_in w) ≡ false → Denotes edition s x (first_in w)
            → is_named 2 (op_in w) ≡ is_ere x → things edition s 2 (first w ∷ []) ≡ texts (ere_in x)
        kept-ere x e d h = ap (λ (u : ℕ). things edition s 2 (u ∷ [])) (no_first e) ∙ one-ere w x d h

        -- a word that is changed names no ERE
        ere-thing : (x : Operand) → Denotes edition s x (first_in w) → is_named 0 (op_in w) ≡ is_constant x
            → is_named 2 (op_in w) ≡ is_ere x → things edition s 2 (first w ∷ []) ≡ texts (ere_in x)
        ere-thing nothing d e h = kept-ere nothing e d h
        ere-thing (the_constant c) d e h = no_ere h
        ere-thing (the_variable v) d e h = kept-ere (the_variable v) e d h
        ere-thing (the_ere r) d e h = kept-ere (the_ere r) e d h
        ere-thing (the_instruction n) d e h = kept-ere (the_instruction n) e d h
        ere-thing (the_count n) d e h = kept-ere (the_count n) e d h

      pub eres-named : {ws : List ℕ} {is : List Emitted} → Spell edition s ws is → AllAgree is
          → things edition s 2 (map first ws) ≡ texts (operands_by ere_in is)
      unfolding operands_by things
      eres-named none_left a = refl
      eres-named (one_more {w} {i} {ws} {is} m l) a =
          let one = ere-thing w i.operand m.first (named-0 w i m a.0) (named-2 w i m a.0) in
          things-append edition s 2 (first w ∷ []) (map first ws)
          ∙ (ap (λ (k : List Constant). k ++ things edition s 2 (map first ws)) one
          ∙ (ap (λ (k : List Constant). texts (ere_in i.operand) ++ k) (eres-named l a.1)
          ∙ sym (map-append text (ere_in i.operand) (operands_by ere_in is))))

      -- ---- once EREs are, too

      module _ (eres : List (List ℕ)) (few-e : Few (texts eres)) where
        abbrev second : ℕ → ℕ
        second = numbered edition s 2 (texts eres)

        module _ (w : ℕ) where
          op-second : op_in (second (first w)) ≡ op_in w
          op-second = same_op 2 (texts eres) few-e (first w) ∙ op-first w

          no_second : is_named 2 (op_in w) ≡ false → second (first w) ≡ first w
          no_second e = left_out 2 (texts eres) few-e (first w) (ap (is_named 2) (op-first w) ∙ e)

          as-it-is : is_named 0 (op_in w) ≡ false → is_named 2 (op_in w) ≡ false → second (first w) ≡ w
          as-it-is e0 e2 = no_second e2 ∙ no_first w e0

          no_variable : is_named 1 (op_in w) ≡ false → Each (Listed users) (things edition s 1 (second (first w) ∷ []))
          unfolding things
          no_variable e = rw (op-second, e) tt

          variable-thing : (x : Operand) → Denotes edition s x (first_in w) → is_named 0 (op_in w) ≡ is_constant x
              → is_named 1 (op_in w) ≡ is_variable x → is_named 2 (op_in w) ≡ is_ere x → ListedIn (special_names ++ users) x
              → Each (Listed users) (things edition s 1 (second (first w) ∷ []))
          variable-thing nothing d e f g l = no_variable f
          variable-thing (the_constant c) d e f g l = no_variable f
          variable-thing (the_variable v) d e f g l =
              subst (λ (u : ℕ). Each (Listed users) (things edition s 1 (u ∷ []))) (sym (as-it-is e g))
              (one-variable users w (the_variable v) d f l)
          variable-thing (the_ere r) d e f g l = no_variable f
          variable-thing (the_instruction n) d e f g l = no_variable f
          variable-thing (the_count n) d e f g l = no_variable f

        pub variables-named : {ws : List ℕ} {is : List Emitted} → Spell edition s ws is → AllAgree is
            → Each (Listed users) (things edition s 1 (map second (map first ws)))
        unfolding things
        variables-named none_left a = tt
        variables-named (one_more {w} {i} {ws} {is} m l) a =
            let rest : List ℕ = map second (map first ws) in
            let one = variable-thing w i.operand m.first (named-0 w i m a.0) (named-1 w i m a.0)
            (named-2 w i m a.0) a.0.listed in
            subst (Each (Listed users)) (sym (things-append edition s 1 (second (first w) ∷ []) rest))
            (each-join (Listed users) (things edition s 1 (second (first w) ∷ [])) (things edition s 1 rest) one
            (variables-named l a.1))

        -- ---- once variables are, too

        module _ (few-v : Few (specials ++ texts users)) where
          abbrev third : ℕ → ℕ
          third = numbered edition s 1 (specials ++ texts users)

          abbrev tables : Tables
          tables = record { variables = special_names ++ users; constants = constants; eres = eres }

          module _ (w : ℕ) where
            abbrev last : ℕ
            last = third (second (first w))

            op-third : op_in last ≡ op_in w
            op-third = same_op 1 (specials ++ texts users) few-v (second (first w)) ∙ op-second w

            depth-third : depth_in last ≡ depth_in w
            depth-third =
                same-depth 1 (specials ++ texts users) few-v (second (first w))
                ∙ (same-depth 2 (texts eres) few-e (first w) ∙ same-depth 0 constants few-c w)

            no_third : is_named 1 (op_in w) ≡ false → last ≡ second (first w)
            no_third e =
                left_out 1 (specials ++ texts users) few-v (second (first w)) (ap (is_named 1) (op-second w) ∙ e)

            module _ (e0 : is_named 0 (op_in w) ≡ false) (e2 : is_named 2 (op_in w) ≡ false) where
              last_none : is_named 1 (op_in w) ≡ false → first_in last ≡ first_in w
              last_none e1 = ap first_in (no_third e1 ∙ as-it-is w e0 e2)

              last-variable : is_named 1 (op_in w) ≡ true → (v : List ℕ) → name_at edition s (first_in w) ≡ v
                  → first_in last ≡ number_of same_bytes (special_names ++ users) v
              unfolding named
              last-variable e1 v h =
                  ap (λ (u : ℕ). first_in (third u)) (as-it-is w e0 e2)
                  ∙ (first-number 1 (specials ++ texts users) few-v w e1
                  ∙ (ap (λ (u : List ℕ). number_of same_constant (specials ++ texts users) (variable_of u)) h
                  ∙ number-variable users v))

            last-constant : is_named 0 (op_in w) ≡ true → is_named 2 (op_in w) ≡ false → is_named 1 (op_in w) ≡ false
                → (c : Constant) → constant_at edition s (first_in w) ≡ c
                → first_in last ≡ number_of same_constant constants c
            unfolding named
            last-constant e0 e2 e1 c h =
                ap first_in (no_third e1 ∙ no_second w e2)
                ∙ (first-number 0 constants few-c w e0 ∙ ap (number_of same_constant constants) h)

            last-ere : is_named 0 (op_in w) ≡ false → is_named 2 (op_in w) ≡ true → is_named 1 (op_in w) ≡ false
                → (r : List ℕ) → ere_at edition s (first_in w) ≡ r → first_in last ≡ number_of same_bytes eres r
            unfolding named
            last-ere e0 e2 e1 r h =
                ap first_in (no_third e1) ∙ (ap (λ (u : ℕ). first_in (second u)) (no_first w e0)
                ∙ (first-number 2 (texts eres) few-e w e2
                ∙ (ap (λ (u : List ℕ). number_of same_constant (texts eres) (text u)) h ∙ number-texts eres r)))

            -- the operand's number, where there is one
            operand-is : (x : Operand) → Denotes edition s x (first_in w) → is_named 0 (op_in w) ≡ is_constant x
                → is_named 1 (op_in w) ≡ is_variable x → is_named 2 (op_in w) ≡ is_ere x
                → cond (is_some x) (first_in last ∷ []) [] ≡ numbers_of tables x
            unfolding numbers_of Denotes
            operand-is nothing h e0 e1 e2 = refl
            operand-is (the_constant c) h e0 e1 e2 = ap (λ (n : ℕ). n ∷ []) (last-constant e0 e2 e1 c h)
            operand-is (the_variable v) h e0 e1 e2 = ap (λ (n : ℕ). n ∷ []) (last-variable e0 e2 e1 v h)
            operand-is (the_ere r) h e0 e1 e2 = ap (λ (n : ℕ). n ∷ []) (last-ere e0 e2 e1 r h)
            operand-is (the_instruction n) h e0 e1 e2 = ap (λ (n : ℕ). n ∷ []) (last_none e0 e2 e1 ∙ h)
            operand-is (the_count n) h e0 e1 e2 = ap (λ (n : ℕ). n ∷ []) (last_none e0 e2 e1 ∙ h)

            instruction-is : (i : Emitted) → Means edition s w i → Agrees (special_names ++ users) i
                → instruction_of last
                ≡ record { code = opcode i.operation; depth = i.depth; immediates = numbers_of tables i.operand }
            unfolding instruction_of
            instruction-is i m a =
                let code : op_in last ≡ opcode i.operation = op-third ∙ m.op in
                let depth : depth_in last ≡ i.depth = depth-third ∙ m.depth in
                let some : has_operand (op_in last) ≡ is_some i.operand = ap has_operand code ∙ a.operand in
                let numbers : cond (has_operand (op_in last)) (first_in last ∷ []) [] ≡ numbers_of tables i.operand =
                ap (λ (b : Bool). cond b (first_in last ∷ []) []) some
                ∙ operand-is i.operand m.first (named-0 w i m a) (named-1 w i m a) (named-2 w i m a) in
                made numbers code depth
              where
                made : {l k : List ℕ} {c c' d d' : ℕ} → l ≡ k → c ≡ c' → d ≡ d'
                    → ◌≡◌ {A = Instruction} (record { code = c; depth = d; immediates = l })
                    (record { code = c'; depth = d'; immediates = k })
                made e f g = rw (e, f, g)

          pub instructions-are : {ws : List ℕ} {is : List Emitted} → Spell edition s ws is → AllAgree is
              → map instruction_of (map third (map second (map first ws))) ≡ instructions tables is
          unfolding instructions
          instructions-are none_left a = refl
          instructions-are (one_more {w} {i} {ws} {is} m l) a =
              let rest : List Instruction = map instruction_of (map third (map second (map first ws))) in
              let one : Instruction =
              record { code = opcode i.operation; depth = i.depth; immediates = numbers_of tables i.operand } in
              ap (λ (j : Instruction). j ∷ rest) (instruction-is w i m a.0)
              ∙ ap (λ (k : List Instruction). one ∷ k) (instructions-are l a.1)
