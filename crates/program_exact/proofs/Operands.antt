-- The reader of operands, beside the machine: primaries, calls, `$`, prefixes.
use mathlib.Core.Path.{◌≡◌, refl, sym, ap, subst, ◌∙◌}
use mathlib.Core.Bool.{Bool, true, false, not, cond, ◌&&◌, ◌||◌}
use mathlib.Core.List.{List, [], ◌∷◌}
use mathlib.Core.Option.{Option, some, none}
use mathlib.Core.Logic.{◌⊎◌, inl, inr, ⊎_elim}
use Prim.Native.Nat.{ℕ, suc, ◌+◌, ◌-◌, ◌≤◌, ◌<◌}
use native.Mathlib.Omega.{arith}
use lib.ListN.{length, take, drop}
use lib.Dec.{eqb, leb, ltb}
use borrow.Author.Tests.{not-true}
use Rattle.lists.specs.Elements.{leading}
use Rattle.lists.specs.Parsing.{Parsed}
use Rattle.lists.proofs.Tests.{clash, and-true, and-false as and_none, or-false}
use Rattle.edition.specs.Limits.{number_bound}
use Rattle.numeral.specs.Form.{is_digit}
use Rattle.numeral.specs.Judgement.{digits_value}
use Rattle.image_format.specs.Image.{number, text}
use Rattle.program_tokens.specs.Kinds.{Kind, text_end, newline, bad, NUMBER, STRING, ERE, user_name, variable as variable-kind, fixed_variable, open_paren, close_paren, comma, dollar, same, among, rank}
use Rattle.program_tokens.specs.Words.{word_kind, operator_kind}
use Rattle.program_tokens.specs.Tokens.{Token, token, is, is_one_of, is_letter, is_word_byte, begins_with, number_token, word_token, read_string, string_token, operator_token, token_of, token_after, spelling, number_in, string_in, ere_in}
use Rattle.program_tokens.proofs.Ranks.{same-is}
use Rattle.program_tree.specs.Tree.{Expression, constant, ere, variable, parentheses, field, prefix, assign}
use Rattle.program_tree.specs.Functions.{Shape, an_expression, an_ere, Call, Function, functions, function_in, function_of}
use Rattle.program_grammar.specs.Sets.{names, prefixes}
use Rattle.program_reader.specs.Read.{Read, ok, no, map, bind, operand_after, past_newlines}
use Rattle.program_reader.specs.Operators.{fields, prefixed, expressions, tier_of, prefix_of}
use Rattle.program_reader.specs.Expressions.{Inner, assign_to, closed, argument, arguments, call as call-of, calling, primary, field_form, prefix_form}
use Rattle.program_reader.proofs.Tokens.{operator-quiet}
use Rattle.program_parser.specs.Meaning.{token_from}
use Rattle.program_parser.specs.Reading.{Good as InText}
use Rattle.program_parser.proofs.Places.{value-own}
use Rattle.program_exact.specs.Machine.{Mode, fresh, plain, against, tested, Context, group, call, State, operand, operand_field, after, Open-next, ere_argument, argument_line, argument-end, settle, is_fresh, tier_after, printed, opened, argument_end, exit, call_step, primary_step, field_step, operand_step, argument_step, step}
use Rattle.program_exact.proofs.Facts.{each, by-test, words, NotTested, function-word, settle-twice, settled}
use Rattle.program_exact.proofs.Kept.{Tiered, no-operator, of-product, of-sum, of-join, of-compare, of_and, of_or, tiered, has-shapes}
use Rattle.program_exact.proofs.Meaning.{NonEmpty}
use Rattle.program_exact.proofs.Walks.{Live, Walk, stay, walk-join, pass, pass-operand, after-in, operand-after-in, onward-after, onward-operand}
use Rattle.program_exact.proofs.Readings.{ere-operand, ere-field, ere-argument-takes, ere-argument-line, argument-end-ere, open-ere, after-ere, Arrived, Reads, refused, later, earlier, reads-map, reads-weaken, lines_after}

-- whether an option is something
abbrev pub is_some : {A : Type 0} → Option A → Bool
is_some none = false
is_some (some a) = true

pub tier-after-is : (m : Mode) (n : ℕ) → (tier_after m n ≡ 0) ⊎ (tier_after m n ≡ n)
unfolding tier_after
tier-after-is fresh n = by-test (λ x. (x ≡ 0) ⊎ (x ≡ n)) (leb 8 n) n n (λ e. inr refl) (λ e. inr refl)
tier-after-is plain n = by-test (λ x. (x ≡ 0) ⊎ (x ≡ n)) (leb 8 n) n n (λ e. inr refl) (λ e. inr refl)
tier-after-is against n =
    by-test (λ x. (x ≡ 0) ⊎ (x ≡ n)) (leb 8 n) n (cond (eqb n 5) 0 n) (λ e. inr refl)
    (λ e. by-test (λ x. (x ≡ 0) ⊎ (x ≡ n)) (eqb n 5) 0 n (λ e. inl refl) (λ e. inr refl))
tier-after-is tested n = by-test (λ x. (x ≡ 0) ⊎ (x ≡ n)) (leb 8 n) n 0 (λ e. inr refl) (λ e. inl refl)

pub tier-range : (p : Bool) (k : Kind) (n : ℕ) → Tiered p k n → (n ≡ 0) ⊎ ((1 < n) × (n < 10) × (n ≡ 6 → ⊥) × (n ≡ 7 → ⊥))
tier-range p k n no-operator = inl refl
tier-range p k n (of-product h) = inr (omega arith, omega arith, omega arith, omega arith)
tier-range p k n (of-sum h) = inr (omega arith, omega arith, omega arith, omega arith)
tier-range p k n (of-join h) = inr (omega arith, omega arith, omega arith, omega arith)
tier-range p k n (of-compare h) = inr (omega arith, omega arith, omega arith, omega arith)
tier-range p k n (of_and h) = inr (omega arith, omega arith, omega arith, omega arith)
tier-range p k n (of_or h) = inr (omega arith, omega arith, omega arith, omega arith)

module _ (edition : ℕ) where
  -- whether a tree can be assigned
  abbrev pub assignable : Expression → Bool
  assignable e = is_some (assign_to edition e)

  -- no operator up to a tier follows
  abbrev pub Stops : ℕ → Mode → Context → Kind → Type 0
  Stops n m c k = (tier_after m (tier_of edition (printed c) k) ≡ 0) ⊎ (n < tier_after m (tier_of edition (printed c) k))

  pub stops_first : (m : Mode) (c : Context) (k : Kind) → Stops 1 m c k
  stops_first m c k =
      ⊎_elim (λ e. inl e)
      (λ e. ⊎_elim (λ z. inl (e ∙ z)) (λ z. inr (omega (arith, e, z.0))) (tier-range (printed c) k (tier_of edition (printed c) k) (tiered edition (printed c) k)))
      (tier-after-is m (tier_of edition (printed c) k))

  module _ (s : List ℕ) where
    -- ---- a name is a word of its kind

    abbrev Called : Token → Type 0
    Called t = is_one_of names t ≡ true → word_kind edition (spelling s t) ≡ t.kind

    unnamed : (a : ℕ) (k : Kind) (n : ℕ) → among names k ≡ false → Called (token a k n)
    unnamed a k n e h = absurd (clash (sym h ∙ e))

    word-called : (a : ℕ) (l : List ℕ) → l ≡ drop a s → Called (word_token edition a l)
    unfolding word_token spelling
    word-called a l e h =
        let n : ℕ = leading is_word_byte l in
        let counted : a + n - a ≡ n = omega arith in
        subst (λ (m : List ℕ). word_kind edition (take (a + n - a) m) ≡ word_kind edition (take n l)) e (ap (λ (k : ℕ). word_kind edition (take k l)) counted)

    number-called : (a : ℕ) (l : List ℕ) → Called (number_token a l)
    unfolding number_token among rank
    number-called a l =
        let n : ℕ = leading is_digit l in
        by-test Called (ltb number_bound (digits_value (take n l)) || begins_with (λ b. is_letter b || eqb b 46) (drop n l)) (token a bad n) (token a NUMBER n)
        (λ e. unnamed a bad n refl) (λ e. unnamed a NUMBER n refl)

    string-called : (a : ℕ) (l : List ℕ) (m : Option (Parsed (List ℕ))) → Called (string_token a l m)
    unfolding string_token among rank
    string-called a l none = unnamed a bad 1 refl
    string-called a l (some g) = unnamed a STRING (suc (length l - length g.rest)) refl

    operator-unnamed : (w : List ℕ) → among names (operator_kind edition w) ≡ false
    operator-unnamed w =
        not-true (among names (operator_kind edition w)) (and-true (not (same (operator_kind edition w) ERE)) (not (among names (operator_kind edition w))) (operator-quiet edition w)).1

    operator-called : (a : ℕ) (l : List ℕ) → Called (operator_token edition a l)
    unfolding operator_token
    operator-called a l =
        by-test Called (same (operator_kind edition (take 2 l)) bad) (token a (operator_kind edition (take 1 l)) 1) (token a (operator_kind edition (take 2 l)) (length (take 2 l)))
        (λ e. unnamed a (operator_kind edition (take 1 l)) 1 (operator-unnamed (take 1 l)))
        (λ e. unnamed a (operator_kind edition (take 2 l)) (length (take 2 l)) (operator-unnamed (take 2 l)))

    of-called : (a : ℕ) (l : List ℕ) → l ≡ drop a s → Called (token_of edition a l)
    unfolding token_of among rank
    of-called a [] e = unnamed a text_end 0 refl
    of-called a (b ∷ l) e =
        by-test Called (eqb b 10) _ _ (λ q. unnamed a newline 1 refl)
        (λ q. by-test Called (is_letter b) _ _ (λ q. word-called a (b ∷ l) e)
        (λ q. by-test Called (is_digit b) _ _ (λ q. number-called a (b ∷ l))
        (λ q. by-test Called (eqb b 34) _ _ (λ q. string-called a l (read_string false l)) (λ q. operator-called a (b ∷ l)))))

    pub named : (t : Token) → InText edition s 0 t → is_one_of names t ≡ true → word_kind edition (spelling s t) ≡ t.kind
    unfolding among rank
    named t g h =
        let own : t ≡ token_from edition s t.start = value-own edition s t g.placed (each (λ k. among (NUMBER ∷ STRING ∷ names) k ≡ true) names (refl, (refl, (refl, tt))) t.kind h) in
        subst Called (sym own) (of-called t.start (drop t.start s) refl) h

    -- ---- what readers are shown to do

    -- a whole expression: the machine goes on as after one
    abbrev pub Whole : Context → Expression → Token → State → Type 0
    Whole c e u y = step edition y u.kind ≡ exit c u.kind

    -- a `$` form or a primary
    abbrev pub Field : Context → Mode → Mode → Expression → Token → State → Type 0
    Field c n m e u y = y ≡ after (cond (assignable e) n m) c

    abbrev pub Tight : ℕ → Context → Mode → Expression → Token → State → Type 0
    Tight n c m e u y = (k : Mode) × (y ≡ after k c) × (is_fresh k ≡ (is_fresh m && assignable e)) × (settle k ≡ settle m) × (Stops n k c u.kind)

    -- where a reader is called: the token that opens the level, and the walk from it to the first token
    pub record Opened (x : State) (o : Token) (y : State) (t : Token) : Type 0 where
      pub next : State
      pub opens : step edition x o.kind ≡ some next
      pub walk : Walk edition s x o y t
      pub opener : InText edition s 0 o
      pub good : InText edition s 0 t

    pub record InnerReads (inner : Inner) : Type 0 where
      pub whole : (p : Bool) (c : Context) (x : State) (o : Token) (y : State) (t : Token) → printed c ≡ p → Opened x o y t
          → step edition y t.kind ≡ operand_step edition fresh c t.kind → Reads edition s (Whole c) x o (suc t.start) (inner p expressions o t)
      pub prefix-part : (m : Mode) (c : Context) (x : State) (o : Token) (y : State) (t : Token) → NotTested m → Opened x o y t
          → step edition y t.kind ≡ operand_step edition m c t.kind → Reads edition s (Tight 1 c m) x o (suc t.start) (inner false prefixed o t)
      pub field-part : (m : Mode) (c : Context) (x : State) (o : Token) (y : State) (t : Token) → Opened x o y t
          → step edition y t.kind ≡ field_step edition m m c t.kind → Reads edition s (Field c m m) x o (suc t.start) (inner false fields o t)

    -- a token of a kind that is known
    pub known : (P : Kind → Type 0) (k j : Kind) → same k j ≡ true → P j → P k
    known P k j e h = subst P (sym (same-is k j e)) h

    -- ---- what a `)` has to follow

    pub closed-reads : (F : Expression → Type 0) (c : Context) (x z : State) (o : Token) (p : ℕ) (r : Read Expression) → Live z → ((k : Kind) → exit c k ≡ cond (same k close_paren) (some z) none)
        → step edition z ERE ≡ none → Reads edition s (λ e u y. (Whole c e u y) × (F e)) x o p r → Reads edition s (λ e u y. (y ≡ z) × (F e)) x o p (closed edition s r)
    unfolding closed rank
    closed-reads F c x z o p (no outcome place) live h n g = g
    closed-reads F c x z o p (ok e t) live h n g =
        let at : step edition g.state t.kind ≡ cond (same t.kind close_paren) (some z) none = g.fact.0 ∙ h t.kind in
        by-test (Reads edition s (λ e u y. (y ≡ z) × (F e)) x o p) (is close_paren t) (ok e (token_after edition s t)) (no _ _)
        (λ q.
        let on : t.start < (token_after edition s t).start = onward-after edition s t g.good (known (λ k. same k text_end ≡ false) t.kind close_paren q refl) in
        record {
          state = z;
          walk = walk-join edition s x o g.state t z (token_after edition s t) g.walk (pass edition s g.state t z live (at ∙ rw q) n);
          good = after-in edition s t g.good;
          onward = omega (arith, g.onward, on);
          fact = (refl, g.fact.1);
        })
        (λ q. later edition s x o g.state t _ _ g.walk (refused edition s g.state t (at ∙ rw q)))

    -- ---- calls

    -- a call is nothing that can be assigned
    abbrev Free : (l : List Shape) → Call l → Type 0
    Free [] e = assignable e ≡ false
    Free (an_expression ∷ l) f = (e : Expression) → Free l (f e)
    Free (an_ere ∷ l) f = (r : List ℕ) → Free l (f r)

    FreeIn : Option Function → Type 0
    FreeIn none = Unit
    FreeIn (some f) = Free f.shapes f.tree

    abbrev AllFree : List Function → Type 0
    AllFree [] = Unit
    AllFree (f ∷ l) = (Free f.shapes f.tree) × (AllFree l)

    free_in : (k : Kind) (l : List Function) → AllFree l → FreeIn (function_in edition k l)
    unfolding function_in FreeIn
    free_in k [] h = tt
    free_in k (f ∷ l) h = by-test FreeIn (leb f.since edition && same k f.kind) (some f) (function_in edition k l) (λ e. h.0) (λ e. free_in k l h.1)

    all-free : AllFree functions
    unfolding assign_to
    all-free = ((λ a. refl), ((λ a b. refl), ((λ a b d. refl), ((λ a r. refl), tt))))

    function-free : (k : Kind) (f : Function) → function_of edition k ≡ some f → Free f.shapes f.tree
    unfolding FreeIn
    function-free k f e = subst FreeIn e (free_in k functions all-free)

    module _ (inner : Inner) (i : InnerReads inner) where
      abbrev Done : Mode → Context → Expression → Token → State → Type 0
      Done m c e w z = (step edition z w.kind ≡ argument_end [] m c w.kind) × (assignable e ≡ false)

      -- after an argument
      abbrev Ended : List Shape → Mode → Context → Token → State → Type 0
      Ended l m c v y = step edition y v.kind ≡ argument_end l m c v.kind

      -- what is read after an argument reads well
      abbrev Goes : (l : List Shape) → Mode → Context → State → Token → ℕ → (Call l → Token → Read Expression) → Type 0
      Goes l m c x u p rest = (g : Call l) → Free l g → (v : Token) (y : State) → Walk edition s x u y v → InText edition s 0 v → p ≤ v.start → Ended l m c v y
          → Reads edition s (Done m c) x u p (rest g v)

      expression_argument : (l : List Shape) (m : Mode) (c : Context) (x : State) (u : Token) (p : ℕ) (f : Expression → Call l) (rest : Call l → Token → Read Expression)
          (r : Read Expression) → ((e : Expression) → Free l (f e)) → Goes l m c x u p rest → Reads edition s (Whole (call l m c)) x u p r
          → Reads edition s (Done m c) x u p (bind r (λ e v. rest (f e) v))
      unfolding exit
      expression_argument l m c x u p f rest (ok e v) a k g = k (f e) (a e) v g.state g.walk g.good g.onward g.fact
      expression_argument l m c x u p f rest (no outcome place) a k g = g

      argument-reads : (a : Shape) (l : List Shape) (f : Call (a ∷ l)) (m : Mode) (c : Context) (x : State) (u : Token) (y : State) (t : Token) (p : ℕ)
          (rest : Call l → Token → Read Expression) → Free (a ∷ l) f → Opened x u y t → p ≤ suc t.start → step edition y t.kind ≡ argument_step edition a l m c t.kind → Goes l m c x u p rest
          → Reads edition s (Done m c) x u p (argument edition s inner u a l f t rest)
      unfolding argument argument_step step rank
      argument-reads an_expression l f m c x u y t p rest a w b h k =
          expression_argument l m c x u p f rest (inner false expressions u t) a k
          (earlier edition s (Whole (call l m c)) x u x u p (suc t.start) (inner false expressions u t) (stay x u) b (i.whole false (call l m c) x u y t refl w h))
      argument-reads an_ere l f m c x u y t p rest a w b h k =
          by-test (Reads edition s (Done m c) x u p) (is ERE t) (rest (f (ere_in s t)) (token_after edition s t)) (no _ _)
          (λ q.
          let on : t.start < (token_after edition s t).start = onward-after edition s t w.good (known (λ k. same k text_end ≡ false) t.kind ERE q refl) in
          k (f (ere_in s t)) (a (ere_in s t)) (token_after edition s t) (argument-end l m c)
          (walk-join edition s x u y t (argument-end l m c) (token_after edition s t) w.walk (pass edition s y t (argument-end l m c) tt (h ∙ rw q) (argument-end-ere edition l m c)))
          (after-in edition s t w.good) (omega (arith, b, on)) refl)
          (λ q. later edition s x u y t _ _ w.walk (refused edition s y t (h ∙ rw q)))

      -- after a comma and newlines, an argument is read as the machine takes it
      line-argument : (a : Shape) (l : List Shape) (m : Mode) (c : Context) (k : Kind) → same k newline ≡ false
          → step edition (argument_line a l m c) k ≡ argument_step edition a l m c k
      unfolding step
      line-argument a l m c k e = rw e

      more-arguments : (l : List Shape) (f : Call l) (m : Mode) (c : Context) (x : State) (u : Token) (n : State) (y : State) (t : Token) (p : ℕ) → Free l f → step edition x u.kind ≡ some n
          → InText edition s 0 u → Walk edition s x u y t → InText edition s 0 t → p ≤ t.start → Ended l m c t y
          → Reads edition s (Done m c) x u p (arguments edition s inner u false l f t)
      unfolding arguments argument_end step rank
      more-arguments [] f m c x u n y t p a o d w g b h = record { state = y; walk = w; good = g; onward = b; fact = (h, a) }
      more-arguments (a ∷ l) f m c x u n y t p free o d w g b h =
          by-test (Reads edition s (Done m c) x u p) (is comma t) (argument edition s inner u a l f (past_newlines edition s (token_after edition s t)) (arguments edition s inner u false l)) (no _ _)
          (λ q.
          let e = ere-argument-line edition a l m c in
          let j = lines_after edition s y (argument_line a l m c) e.0 t (h ∙ rw q) refl e.1 g (known (λ k. same k text_end ≡ false) t.kind comma q refl) in
          let v : Token = past_newlines edition s (token_after edition s t) in
          argument-reads a l f m c x u (argument_line a l m c) v p (arguments edition s inner u false l) free
          (record { next = n; opens = o; walk = walk-join edition s x u y t (argument_line a l m c) v w j.0; opener = d; good = j.1 })
          (omega (arith, b, j.2)) (line-argument a l m c v.kind j.3)
          (λ g r v y w k b h. more-arguments l g m c x u n y v p r o d w k b h))
          (λ q. later edition s x u y t _ _ w (refused edition s y t (h ∙ rw q)))

      -- a call from its `(` on
      abbrev CallState : Shape → List Shape → Mode → Context → State
      CallState an_expression l m c = operand fresh (call l m c)
      CallState an_ere l m c = ere_argument l m c

      opened-is : (a : Shape) (l : List Shape) (m : Mode) (c : Context) → opened (a ∷ l) m c ≡ some (CallState a l m c)
      opened-is an_expression l m c = refl
      opened-is an_ere l m c = refl

      call-ere : (a : Shape) (l : List Shape) (m : Mode) (c : Context) → (z : State) × (step edition (CallState a l m c) ERE ≡ some z)
      call-ere an_expression l m c = (after plain (call l m c), ere-operand edition fresh (call l m c))
      call-ere an_ere l m c = (argument-end l m c, ere-argument-takes edition l m c)

      call-first : (a : Shape) (l : List Shape) (m : Mode) (c : Context) (k : Kind) → step edition (CallState a l m c) k ≡ argument_step edition a l m c k
      unfolding step argument_step
      call-first an_expression l m c k = refl
      call-first an_ere l m c k = refl

      all-arguments : (l : List Shape) (f : Call l) (m : Mode) (c : Context) (u : Token) → NonEmpty l → Free l f → is open_paren u ≡ true → InText edition s 0 u
          → Reads edition s (Done m c) (Open-next l m c) u (suc u.start) (arguments edition s inner u true l f u)
      unfolding arguments step rank
      all-arguments [] f m c u z a q g = absurd z
      all-arguments (a ∷ l) f m c u z free q g =
          let e = call-ere a l m c in
          let y : State = CallState a l m c in
          let x : State = Open-next (a ∷ l) m c in
          let opens : step edition x u.kind ≡ some y = rw q (opened-is a l m c) in
          let no_end : same u.kind text_end ≡ false = known (λ k. same k text_end ≡ false) u.kind open_paren q refl in
          let on : u.start < (operand_after edition s u).start = onward-operand edition s u g no_end in
          argument-reads a l f m c x u y (operand_after edition s u) (suc u.start) (arguments edition s inner u false l) free
          (record { next = y; opens = opens; walk = pass-operand edition s x u y e.0 opens e.1; opener = g; good = operand-after-in edition s u g })
          (omega (arith, on)) (call-first a l m c (operand_after edition s u).kind)
          (λ rest a v w k r b h. more-arguments l rest m c x u y w v (suc u.start) a opens g k r b h)

      -- a call at its function's word
      abbrev Called-to : Mode → Context → Expression → Token → State → Type 0
      Called-to m c e v y = (y ≡ after m c) × (assignable e ≡ false)

      call-reads : (f : Function) (m : Mode) (c : Context) (u : Token) → NonEmpty f.shapes → Free f.shapes f.tree → InText edition s 0 u
          → Reads edition s (Called-to m c) (Open-next f.shapes m c) u (suc u.start) (call-of edition s inner f u)
      unfolding call-of step exit argument_end rank
      call-reads f m c u z a g =
          by-test (Reads edition s (Called-to m c) (Open-next f.shapes m c) u (suc u.start)) (is open_paren u) (closed edition s (arguments edition s inner u true f.shapes f.tree u)) (no _ _)
          (λ q. closed-reads (λ e. assignable e ≡ false) (call [] m c) (Open-next f.shapes m c) (after m c) u (suc u.start) (arguments edition s inner u true f.shapes f.tree u) tt (λ k. refl) (after-ere edition m c)
          (all-arguments f.shapes f.tree m c u z a q g))
          (λ q. refused edition s (Open-next f.shapes m c) u (rw q))

      -- ---- primaries

      calling-reads : (m : Mode) (c : Context) (x : State) (t : Token) (o : Option Function) → function_of edition t.kind ≡ o → InText edition s 0 t
          → step edition x t.kind ≡ call_step edition m c o → Reads edition s (Called-to m c) x t (suc t.start) (calling edition s inner t o)
      unfolding calling among rank
      calling-reads m c x t none e g h = refused edition s x t h
      calling-reads m c x t (some f) e g h =
          let u : Token = token_after edition s t in
          let no_end : same t.kind text_end ≡ false = each (λ k. same k text_end ≡ false) words (refl, (refl, (refl, (refl, tt)))) t.kind (function-word edition t.kind f e) in
          let on : t.start < u.start = onward-after edition s t g no_end in
          earlier edition s (Called-to m c) x t (Open-next f.shapes m c) u (suc t.start) (suc u.start) (call-of edition s inner f u)
          (pass edition s x t (Open-next f.shapes m c) tt h (open-ere edition f.shapes m c)) (omega (arith, on))
          (call-reads f m c u (has-shapes edition t.kind f e) (function-free t.kind f e) (after-in edition s t g))

      -- one token that is an operand
      token-reads : (Q : Expression → Token → State → Type 0) (n : Mode) (c : Context) (x : State) (t : Token) (e : Expression) → InText edition s 0 t → same t.kind text_end ≡ false
          → step edition x t.kind ≡ some (after n c) → Q e (token_after edition s t) (after n c) → Arrived edition s Q x t (suc t.start) e (token_after edition s t)
      token-reads Q n c x t e g b h q =
          record {
            state = after n c;
            walk = pass edition s x t (after n c) tt h (after-ere edition n c);
            good = after-in edition s t g;
            onward = omega (arith, onward-after edition s t g b);
            fact = q;
          }

      name-mode : (n m : Mode) (k : Kind) (v : List ℕ) → word_kind edition v ≡ k → cond (same k fixed_variable) m n ≡ cond (assignable (variable v)) n m
      unfolding assign_to
      name-mode n m k v e =
          subst (λ (k : Kind). cond (same k fixed_variable) m n ≡ cond (assignable (variable v)) n m) e (flip (same (word_kind edition v) fixed_variable))
        where
          flip : (b : Bool) → cond b m n ≡ cond (is_some (cond {A = Option (Expression → Expression)} b none (some (assign v)))) n m
          flip true = refl
          flip false = refl

      primary-call : (n m : Mode) (c : Context) (k : Kind) → same k NUMBER ≡ false → same k STRING ≡ false → same k ERE ≡ false → among names k ≡ false → same k open_paren ≡ false
          → primary_step edition n m c k ≡ call_step edition m c (function_of edition k)
      unfolding primary_step among
      primary-call n m c k a b d e f =
          let u = or-false (same k user_name) _ e in
          let v = or-false (same k variable-kind) _ u.1 in
          let w = or-false (same k fixed_variable) _ v.1 in
          rw (a, b, d, u.0, v.0, w.0, f)

      unprefixed : (m : Mode) (c : Context) (k : Kind) → among prefixes k ≡ false → operand_step edition m c k ≡ field_step edition m (settle m) c k
      unfolding operand_step
      unprefixed m c k e = rw e

      primary-reads : (n m : Mode) (c : Context) (x : State) (t : Token) → InText edition s 0 t → step edition x t.kind ≡ primary_step edition n m c t.kind
          → Reads edition s (Field c n m) x t (suc t.start) (primary edition s inner t)
      unfolding primary primary_step assign_to among rank step exit
      primary-reads n m c x t g h =
          let R : Read Expression → Type 0 = Reads edition s (Field c n m) x t (suc t.start) in
          let plainly : (j : Kind) → is j t ≡ true → primary_step edition n m c j ≡ some (after m c) → step edition x t.kind ≡ some (after m c) =
          λ j q e. h ∙ known (λ k. primary_step edition n m c k ≡ some (after m c)) t.kind j q e in
          let no_end : (j : Kind) → is j t ≡ true → same j text_end ≡ false → same t.kind text_end ≡ false = λ j q e. known (λ k. same k text_end ≡ false) t.kind j q e in
          by-test R (is NUMBER t) _ _ (λ q. token-reads (Field c n m) m c x t (constant (number (number_in s t))) g (no_end NUMBER q refl) (plainly NUMBER q refl) refl)
          (λ q1. by-test R (is STRING t) _ _ (λ q. token-reads (Field c n m) m c x t (constant (text (string_in s t))) g (no_end STRING q refl) (plainly STRING q refl) refl)
          (λ q2. by-test R (is ERE t) _ _ (λ q. token-reads (Field c n m) m c x t (ere (ere_in s t)) g (no_end ERE q refl) (plainly ERE q refl) refl)
          (λ q3. by-test R (is_one_of names t) _ _
          (λ q. token-reads (Field c n m) (cond (same t.kind fixed_variable) m n) c x t (variable (spelling s t)) g
          (each (λ k. same k text_end ≡ false) names (refl, (refl, (refl, tt))) t.kind q)
          (h ∙ each (λ k. primary_step edition n m c k ≡ some (after (cond (same k fixed_variable) m n) c)) names (refl, (refl, (refl, tt))) t.kind q)
          (ap (λ z. after z c) (name-mode n m t.kind (spelling s t) (named t g q))))
          (λ q4. by-test R (is open_paren t) _ _
          (λ q. grouped (no_end open_paren q refl) (h ∙ known (λ k. primary_step edition n m c k ≡ some (operand fresh (group m c))) t.kind open_paren q refl))
          (λ q5. reads-weaken edition s (Called-to m c) (Field c n m) x t (suc t.start) (suc t.start) (calling edition s inner t (function_of edition t.kind))
          (λ e u y f. f.0 ∙ ap (λ b. after (cond b n m) c) (sym f.1)) (omega arith)
          (calling-reads m c x t (function_of edition t.kind) refl g (h ∙ primary-call n m c t.kind q1 q2 q3 q4 q5)))))))
        where
          grouped : same t.kind text_end ≡ false → step edition x t.kind ≡ some (operand fresh (group m c))
              → Reads edition s (Field c n m) x t (suc t.start) (map parentheses (closed edition s (inner false expressions t (operand_after edition s t))))
          grouped e o =
              let y : State = operand fresh (group m c) in
              let v : Token = operand_after edition s t in
              let w : Opened x t y v = record { next = y; opens = o; walk = pass-operand edition s x t y (after plain (group m c)) o (ere-operand edition fresh (group m c)); opener = g; good = operand-after-in edition s t g } in
              let on : t.start < v.start = onward-operand edition s t g e in
              let r : Read Expression = inner false expressions t v in
              reads-map edition s (λ e u y. (y ≡ after m c) × Unit) (Field c n m) parentheses x t (suc t.start) (closed edition s r) (λ a u y f. f.0)
              (closed-reads (λ e. Unit) (group m c) x (after m c) t (suc t.start) r tt (λ k. refl) (after-ere edition m c)
              (reads-weaken edition s (Whole (group m c)) (λ e u y. (Whole (group m c) e u y) × Unit) x t (suc t.start) (suc v.start) r (λ a u y f. (f, tt)) (omega (arith, on))
              (i.whole false (group m c) x t y v refl w refl)))

      -- ---- `$`

      pub field-reads : (n m : Mode) (c : Context) (x : State) (t : Token) → InText edition s 0 t → step edition x t.kind ≡ field_step edition n m c t.kind
          → Reads edition s (Field c n m) x t (suc t.start) (field_form edition s inner t)
      unfolding field_form field_step assign_to step rank
      field-reads n m c x t g h =
          by-test (Reads edition s (Field c n m) x t (suc t.start)) (is dollar t) (map field (inner false fields t (operand_after edition s t))) (primary edition s inner t)
          (λ q.
          let y : State = operand_field n c in
          let v : Token = operand_after edition s t in
          let o : step edition x t.kind ≡ some y = h ∙ rw q in
          let w : Opened x t y v = record { next = y; opens = o; walk = pass-operand edition s x t y (after n c) o (ere-field edition n c); opener = g; good = operand-after-in edition s t g } in
          let on : t.start < v.start = onward-operand edition s t g (known (λ k. same k text_end ≡ false) t.kind dollar q refl) in
          let r : Read Expression = inner false fields t v in
          reads-map edition s (λ e u y. y ≡ after n c) (Field c n m) field x t (suc t.start) r (λ a u y f. f)
          (reads-weaken edition s (Field c n n) (λ e u y. y ≡ after n c) x t (suc t.start) (suc v.start) r (λ a u y f. f ∙ ap (λ z. after z c) (either_way (assignable a) n)) (omega (arith, on))
          (i.field-part n c x t y v w refl)))
          (λ q. primary-reads n m c x t g (h ∙ rw q))
        where
          either_way : (b : Bool) (n : Mode) → cond b n n ≡ n
          either_way true n = refl
          either_way false n = refl

      -- ---- prefixes

      tight-field : (m : Mode) (c : Context) (e : Expression) (u : Token) (y : State) → Field c m (settle m) e u y → Tight 1 c m e u y
      tight-field m c e u y f =
          (cond (assignable e) m (settle m), f, fresh-of m (assignable e), settle-of m (assignable e), stops_first (cond (assignable e) m (settle m)) c u.kind)
        where
          fresh-of : (m : Mode) (b : Bool) → is_fresh (cond b m (settle m)) ≡ (is_fresh m && b)
          fresh-of fresh true = refl
          fresh-of fresh false = refl
          fresh-of plain true = refl
          fresh-of plain false = refl
          fresh-of against true = refl
          fresh-of against false = refl
          fresh-of tested true = refl
          fresh-of tested false = refl

          settle-of : (m : Mode) (b : Bool) → settle (cond b m (settle m)) ≡ settle m
          settle-of m true = refl
          settle-of m false = settle-twice m

      pub prefix-reads : (m : Mode) (c : Context) (x : State) (t : Token) → NotTested m → InText edition s 0 t → step edition x t.kind ≡ operand_step edition m c t.kind
          → Reads edition s (Tight 1 c m) x t (suc t.start) (prefix_form edition s inner (field_form edition s inner) t)
      unfolding prefix_form operand_step assign_to step among rank
      prefix-reads m c x t n g h =
          by-test (Reads edition s (Tight 1 c m) x t (suc t.start)) (is_one_of prefixes t) (map (prefix (prefix_of t.kind)) (inner false prefixed t (operand_after edition s t))) (field_form edition s inner t)
          (λ q.
          let y : State = operand (settle m) c in
          let v : Token = operand_after edition s t in
          let o : step edition x t.kind ≡ some y = h ∙ each (λ k. operand_step edition m c k ≡ some y) prefixes (refl, (refl, (refl, tt))) t.kind q in
          let w : Opened x t y v = record { next = y; opens = o; walk = pass-operand edition s x t y (after (settle (settle m)) c) o (ere-operand edition (settle m) c); opener = g; good = operand-after-in edition s t g } in
          let on : t.start < v.start = onward-operand edition s t g (each (λ k. same k text_end ≡ false) prefixes (refl, (refl, (refl, tt))) t.kind q) in
          let r : Read Expression = inner false prefixed t v in
          reads-map edition s (Tight 1 c (settle m)) (Tight 1 c m) (prefix (prefix_of t.kind)) x t (suc t.start) r
          (λ a u y f. (f.0, f.1, f.2 ∙ (not-fresh m (assignable a) ∙ sym (and_none (is_fresh m))), f.3 ∙ settle-twice m, f.4))
          (reads-weaken edition s (Tight 1 c (settle m)) (Tight 1 c (settle m)) x t (suc t.start) (suc v.start) r (λ a u y f. f) (omega (arith, on))
          (i.prefix-part (settle m) c x t y v (settled m n) w refl)))
          (λ q. reads-weaken edition s (Field c m (settle m)) (Tight 1 c m) x t (suc t.start) (suc t.start) (field_form edition s inner t) (tight-field m c) (omega arith)
          (field-reads m (settle m) c x t g (h ∙ unprefixed m c t.kind q)))
        where
          not-fresh : (m : Mode) (b : Bool) → (is_fresh (settle m) && b) ≡ false
          not-fresh fresh b = refl
          not-fresh plain b = refl
          not-fresh against b = refl
          not-fresh tested b = refl
