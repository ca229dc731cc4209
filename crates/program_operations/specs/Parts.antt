-- Internal: cited by private contracts only. What the parts of the reader of expressions answer and write.
use Rattle.std.specs.Prelude.{◌≡◌, Bool, cond, List, [], ◌∷◌, ◌++◌, ℕ, ◌+◌, ◌*◌, ◌≤◌, ◌<◌, eqb, ltb, length}
use Rattle.std.proofs.lemmas.List.Edits.{sets}
use Rattle.image_format.specs.Codes.{Action, action}
use Rattle.program_tokens.specs.Tokens.{Token}
use Rattle.program_tree.specs.Tree.{Expression, variable}
use Rattle.program_tree.specs.Functions.{Shape, an_expression, an_ere, Call}
use Rattle.program_reader.specs.Read.{Read as Result, ok}
use Rattle.program_reader.specs.Expressions.{closed, arguments, inside}
use Rattle.program_code.specs.Emitted.{Operand, the_ere, Emitted, emit, action_code}
use Rattle.program_code.specs.Expressions.{size, compile}
use Rattle.program_lexer.specs.Coded.{decoded, kind_of}
use Rattle.program_lexer.specs.declared.tokens.Token.{Token as Coded}
use Rattle.program_words.specs.Words.{word, not_words, both_words, either_words}
use Rattle.program_parser.specs.declared.read.Read.{Read}
use Rattle.program_operations.specs.declared.parts.PendingCall.{PendingCall}
use Rattle.program_parser.specs.Tables.{operator_code, shapes_code}
use Rattle.program_parser.specs.Meaning.{Denotes, Wrote}
use Rattle.program_parser.specs.Reading.{answered, form_of, ReadExpression, Reading}

-- ---- an instruction after what was read

abbrev pub suffixed : Read → ℕ → Read
suffixed r form = cond (eqb r.outcome 0) (answered r.token (r.count + 1) form) r

pub record Suffixed (r : Read) (op depth operand form : ℕ) (xs : List ℕ) (q : Read) (ys : List ℕ) : Type 0 where
  pub answer : q ≡ suffixed r form
  pub wrote : r.outcome ≡ 0 → ys ≡ sets xs r.count (word op depth operand ∷ [])

-- ---- an operator's instructions, after its right operand: the answer, and the section

abbrev pub applied : Read → ℕ → Read
applied r kind = answered r.token (r.count + cond (eqb kind 61) 4 (cond (eqb kind 60) 2 1)) 0

abbrev pub applied_to : List ℕ → ℕ → ℕ → ℕ → ℕ → List ℕ
applied_to xs n kind depth j =
    cond (eqb kind 61) (sets (sets xs n (both_words n depth)) j (word 28 (depth + 1) (n + 3) ∷ []))
    (cond (eqb kind 60) (sets (sets xs n (not_words depth)) j (either_words j depth (n + 2)))
    (sets xs n (word (operator_code (kind_of kind)) (depth + 2) 0 ∷ [])))

-- ---- a call's code

-- a call of which arguments are left
abbrev pub pending : ℕ → ℕ → ℕ → Coded → PendingCall
pending op shapes operand opener = record { op = op; shapes = shapes; operand = operand; opener = opener }

module _ (edition : ℕ) where
  -- a call's tree, whose code from instruction n on, at the depth d, is that of its arguments, which ends before
  -- instruction m, and then one instruction, at the depth k
  pub record Completed (n d : ℕ) (a : Action) (e : Expression) (is : List Emitted) (m k : ℕ) (x : Operand) : Type 0
    where
      pub sized : n + size e ≡ m + 1
      pub code : compile e n d ≡ is ++ emit (action a) k x
      pub form : form_of edition e ≡ 0
      pub other : (v : List ℕ) → e ≡ variable v → ⊥

  -- the same, before the arguments of some shapes
  unfoldable pub Completes : ℕ → ℕ → Action → (l : List Shape) → Call l → List Emitted → ℕ → ℕ → Operand → Type 0
  Completes n d a [] e is m k x = Completed n d a e is m k x
  Completes n d a (an_expression ∷ l) f is m k x =
      (b : Expression) → Completes n d a l (f b) (is ++ compile b m k) (m + size b) (k + 1) x
  Completes n d a (an_ere ∷ l) f is m k x = (r : List ℕ) → Completes n d a l (f r) is m k (the_ere r)

module _ (edition : ℕ) (s : List ℕ) where
  -- ---- what was read goes on: a reader of what follows an expression, whose answer is r and whose section is xs

  unfoldable pub Continues : ℕ → (Result Expression → Result Expression) → Read → List ℕ → Read → List ℕ → Type 0
  Continues d f r xs q ys =
      (t : Token) (n : ℕ) (ws : List ℕ) (e : Expression) (u : Token) → ReadExpression edition s t n d ws e u r xs
      → Reading edition s t n d ws (f (ok e u)) q ys

  -- the same, where the expression starts at a place
  unfoldable pub ContinuesFrom : ℕ → ℕ → (Result Expression → Result Expression) → Read → List ℕ → Read → List ℕ
      → Type 0
  ContinuesFrom start d f r xs q ys =
      (t : Token) (n : ℕ) (ws : List ℕ) (e : Expression) (u : Token) → t.start ≡ start
      → ReadExpression edition s t n d ws e u r xs → Reading edition s t n d ws (f (ok e u)) q ys

  -- ---- calls

  -- a call that starts at the token v, with n instructions, at the depth d, in the section ws; the arguments before the
  -- token t are read, up to instruction m, at the depth k
  pub record Calling (v : Token) (n d : ℕ) (ws : List ℕ) (f : PendingCall) (t : Token) (m k : ℕ) (xs : List ℕ)
      (l : List Shape) (g : Call l) : Type 0 where
    pub act : Action
    pub read : List Emitted
    pub names : Operand
    pub coded : f.op ≡ action_code act
    pub shaped : f.shapes ≡ shapes_code l
    pub completes : Completes edition n d act l g read m k names
    pub denotes : Denotes edition s names f.operand
    pub before : n + length read ≡ m
    pub wrote : Wrote edition s ws n read xs
    pub order : v.stop ≤ t.stop
    pub bound : m + 8 * v.start < n + 8 * t.start

  unfoldable pub Calls : ℕ → PendingCall → Bool → Coded → ℕ → ℕ → List ℕ → Read → List ℕ → Type 0
  Calls levels f first t m k xs q ys =
      (v : Token) (n d : ℕ) (ws : List ℕ) (l : List Shape) (g : Call l) → Calling v n d ws f (decoded t) m k xs l g
      → Reading edition s v n d ws
      (closed edition s (arguments edition s (inside edition s levels) (decoded f.opener) first l g (decoded t))) q
      ys

-- how many arguments are left, by the number of their shapes, two bits each
unfoldable pub arguments_left : ℕ → ℕ
arguments_left shapes = cond (eqb shapes 0) 0 (cond (ltb shapes 4) 1 (cond (ltb shapes 16) 2 3))
