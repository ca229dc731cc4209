-- What each state of the machine says of the kinds that were taken: each way to go on makes them a sentence.
use mathlib.Core.Path.{◌≡◌}
use mathlib.Core.Bool.{Bool, true, false, cond}
use mathlib.Core.List.{List, [], ◌∷◌, ◌++◌}
use mathlib.Core.Option.{Option, some, none}
use Prim.Native.Nat.{ℕ, zero, suc}
use Rattle.program_tokens.specs.Kinds.{Kind, text_end, ERE, ELSE, open_paren, close_paren, close_brace, comma, assign, among}
use Rattle.program_tree.specs.Functions.{Shape, an_ere}
use Rattle.program_grammar.specs.Sets.{prefixes, enders}
use Rattle.program_grammar.specs.Grammar.{Newlines, Separators, Place, in_print, elsewhere, expression, disjunction, conjunction, matching, comparison, concatenation, sum, product, prefixed, field, arguments, Form, Expression, PrintList, End, needs_end, ended, Else, takes_else, whole, BeforeElse, Statement, Block, Statements, Items, Sentence}
use Rattle.program_exact.specs.Machine.{Mode, fresh, plain, against, tested, Blocks, action, nested, Context, group, call, condition, value, listed, pattern, State, start, between, done, action_next, operand, operand_line, operand_field, ere_next, after, Open-next, ere_argument, argument_line, argument-end, condition_next, body, print_next, finished, list, main_of, printed}

abbrev pub place_of : Bool → Place
place_of b = cond b in_print elsewhere

-- what begins with no ERE and no prefix, if it has to
abbrev pub Opens : Bool → List Kind → Type 0
Opens false l = Unit
Opens true [] = ⊥
Opens true (k ∷ l) = among (ERE ∷ prefixes) k ≡ false

-- kinds that end in a form, and what can be done with a longer form in its place
pub record Split (P : List Kind → Type 0) (H : Bool → List Kind → Type 0) (l : List Kind) : Type 0 where
  pub flag : Bool
  pub left : List Kind
  pub right : List Kind
  pub parts : l ≡ left ++ right
  pub form : P right
  pub opens : Opens flag right
  pub hole : H flag left

abbrev pub NonEmpty : List Shape → Type 0
NonEmpty [] = ⊥
NonEmpty (x ∷ l) = Unit

abbrev pub OnlyIf : Else → Type 0 → Type 0
OnlyIf takes_else A = Unit
OnlyIf whole A = A

module _ (edition : ℕ) where
  -- ---- expressions, by what comes after the whole expression

  module _ (E : List Kind → Type 0) (p : Place) where
    abbrev pub HoleOr : Bool → List Kind → Type 0
    HoleOr b q = (x : List Kind) → Form edition (disjunction p) x → E (q ++ x)

    abbrev pub HoleAnd : Bool → List Kind → Type 0
    HoleAnd b q = (x : List Kind) → Form edition (conjunction p) x → Split (Form edition (disjunction p)) HoleOr (q ++ x)

    abbrev pub HoleMatch : Bool → List Kind → Type 0
    HoleMatch b q = (x : List Kind) → Form edition (matching p) x → Split (Form edition (conjunction p)) HoleAnd (q ++ x)

    -- before the left operand of a comparison, and before its right operand
    abbrev pub HoleJoin : Mode → Bool → List Kind → Type 0
    HoleJoin fresh b q = HoleMatch b q
    HoleJoin plain b q = HoleMatch b q
    HoleJoin against b q = (x : List Kind) → Form edition concatenation x → Split (Form edition (comparison p)) HoleMatch (q ++ x)
    HoleJoin tested b q = ⊥

    abbrev pub HoleSum : Mode → Bool → List Kind → Type 0
    HoleSum m b q = (x : List Kind) → Form edition sum x → Opens b x → Split (Form edition concatenation) (HoleJoin m) (q ++ x)

    abbrev pub HoleProduct : Mode → Bool → List Kind → Type 0
    HoleProduct m b q = (x : List Kind) → Form edition product x → Opens b x → Split (Form edition sum) (HoleSum m) (q ++ x)

    -- after an operand
    abbrev pub After : Mode → List Kind → Type 0
    After fresh l = (Split (Form edition product) (HoleProduct plain) l) × ((r : List Kind) → Form edition (expression p) r → E (l ++ (assign ∷ r)))
    After plain l = Split (Form edition product) (HoleProduct plain) l
    After against l = Split (Form edition product) (HoleProduct against) l
    After tested l = Split (Form edition (matching p)) HoleMatch l

    abbrev pub Prefixed : Mode → List Kind → Type 0
    Prefixed m l = (x : List Kind) → Form edition prefixed x → After m (l ++ x)

    abbrev pub Operand : Mode → List Kind → Type 0
    Operand fresh l = (x : List Kind) → Form edition (expression p) x → E (l ++ x)
    Operand plain l = Prefixed plain l
    Operand against l = Prefixed against l
    Operand tested l = Prefixed tested l

  -- ---- statements, by what comes after the `}` around them

  module _ (in_main : Bool) (C : List Kind → Type 0) where
    abbrev pub Plain : End → List Kind → Type 0
    Plain ended l = (r : List Kind) → Statements edition in_main r → C ((l ++ r) ++ (close_brace ∷ []))
    Plain needs_end l =
        ((k : Kind) (r : List Kind) → among enders k ≡ true → Statements edition in_main r → C ((l ++ (k ∷ r)) ++ (close_brace ∷ [])))
        × (C (l ++ (close_brace ∷ [])))

    -- what an `else` leads to, where so many `if`s can have one
    abbrev pub ElsePart : ℕ → End → List Kind → Type 0
    ElsePart zero e l = Unit
    ElsePart (suc n) e l = (b m : List Kind) → BeforeElse e b → Newlines m → (f : End) (o : Else) (a : List Kind) → Statement edition in_main f o a
        → (Plain f ((l ++ (b ++ (ELSE ∷ m))) ++ a)) × (OnlyIf o (ElsePart n f ((l ++ (b ++ (ELSE ∷ m))) ++ a)))

    abbrev pub Standing : End → Else → ℕ → List Kind → Type 0
    Standing e o n l = (Plain e l) × (OnlyIf o (ElsePart n e l))

    -- before a statement
    abbrev pub Begun : ℕ → List Kind → Type 0
    Begun n l = (e : End) (o : Else) (a : List Kind) → Statement edition in_main e o a → Standing e o n (l ++ a)

    abbrev pub Body : ℕ → List Kind → Type 0
    Body n l = (s : List Kind) → Newlines s → Begun n (l ++ s)

    abbrev pub Finished : ℕ → List Kind → Type 0
    Finished n l = Standing needs_end whole n l

    abbrev pub ElseMarked : ℕ → List Kind → Type 0
    ElseMarked zero l = Unit
    ElseMarked (suc n) l = (s m : List Kind) → Newlines s → Newlines m → Begun n (l ++ (s ++ (ELSE ∷ m)))

    abbrev pub Listed : ℕ → Bool → List Kind → Type 0
    Listed n false l = Standing ended whole n l
    Listed n true l = (Plain ended l) × (ElseMarked n l)

  -- ---- items

  abbrev pub Between : List Kind → Type 0
  Between l = (s r : List Kind) → Separators s → Items edition r → Sentence edition ((l ++ (s ++ r)) ++ (text_end ∷ []))

  abbrev pub ItemHole : List Kind → Type 0
  ItemHole l = (r : List Kind) → Items edition r → Sentence edition ((l ++ r) ++ (text_end ∷ []))

  -- after the `}` of a block
  abbrev pub Closes : Blocks → List Kind → Type 0
  Closes (action i) l = Between l
  Closes (nested n b) l = Listed (main_of b) (Closes b) n false l

  -- after a whole expression
  abbrev pub Leaves : Context → List Kind → Type 0
  Leaves (group m c) l = After (Leaves c) (place_of (printed c)) m (l ++ (close_paren ∷ []))
  Leaves (call [] m c) l = After (Leaves c) (place_of (printed c)) m (l ++ (close_paren ∷ []))
  Leaves (call (x ∷ xs) m c) l = (s a : List Kind) → Newlines s → Form edition (arguments (x ∷ xs)) a
      → After (Leaves c) (place_of (printed c)) m ((l ++ (comma ∷ (s ++ a))) ++ (close_paren ∷ []))
  Leaves (condition n b) l = Body (main_of b) (Closes b) n (l ++ (close_paren ∷ []))
  Leaves (value n b) l = Finished (main_of b) (Closes b) n l
  Leaves (listed n b) l = (Finished (main_of b) (Closes b) n l)
      × ((s r : List Kind) → Newlines s → PrintList edition r → Finished (main_of b) (Closes b) n (l ++ (comma ∷ (s ++ r))))
  Leaves pattern l = ((a : List Kind) → Block edition true a → Between (l ++ a))
      × ((k : Kind) → among enders k ≡ true → Between (l ++ (k ∷ []))) × (Sentence edition (l ++ (text_end ∷ [])))

  abbrev pub AfterIn : Mode → Context → List Kind → Type 0
  AfterIn m c l = After (Leaves c) (place_of (printed c)) m l

  abbrev pub OperandIn : Mode → Context → List Kind → Type 0
  OperandIn m c l = Operand (Leaves c) (place_of (printed c)) m l

  abbrev pub Argument : Shape → List Shape → Mode → Context → List Kind → Type 0
  Argument x xs m c l = (a : List Kind) → Form edition (arguments (x ∷ xs)) a → AfterIn m c ((l ++ a) ++ (close_paren ∷ []))

  abbrev pub Means : State → List Kind → Type 0
  Means start l = Newlines l
  Means between l = Between l
  Means done l = Sentence edition l
  Means action_next l = (a : List Kind) → Block edition false a → Between (l ++ a)
  Means (operand m c) l = OperandIn m c l
  Means (operand_line m c) l = (s : List Kind) → Newlines s → OperandIn m c (l ++ s)
  Means (operand_field m c) l = (x : List Kind) → Form edition field x → AfterIn m c (l ++ x)
  Means (ere_next c) l = AfterIn tested c (l ++ (ERE ∷ []))
  Means (after m c) l = AfterIn m c l
  Means (Open-next xs m c) l = (NonEmpty xs) × ((a : List Kind) → Form edition (arguments xs) a → AfterIn m c (l ++ (open_paren ∷ (a ++ (close_paren ∷ [])))))
  Means (ere_argument xs m c) l = Argument an_ere xs m c l
  Means (argument_line x xs m c) l = (s : List Kind) → Newlines s → Argument x xs m c (l ++ s)
  Means (argument-end xs m c) l = Leaves (call xs m c) l
  Means (condition_next n b) l = (x : List Kind) → Expression edition x → Body (main_of b) (Closes b) n (l ++ (open_paren ∷ (x ++ (close_paren ∷ []))))
  Means (body n b) l = Body (main_of b) (Closes b) n l
  Means (print_next n b) l = (Finished (main_of b) (Closes b) n l) × ((r : List Kind) → PrintList edition r → Finished (main_of b) (Closes b) n (l ++ r))
  Means (finished n b) l = Finished (main_of b) (Closes b) n l
  Means (list n p b) l = Listed (main_of b) (Closes b) n p l

  -- what was said before a kind is said after it
  abbrev pub Kept : List Kind → Kind → Option State → Type 0
  Kept l k none = Unit
  Kept l k (some x) = Means x (l ++ (k ∷ []))
