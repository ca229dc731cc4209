-- Internal: cited by private contracts only. What the readers of items answer.
use Rattle.std.specs.Prelude.{◌≡◌, false, List, ◌∷◌, ℕ, ◌+◌, ◌*◌, ◌≤◌, ◌<◌, length}
use Rattle.edition.specs.Limits.{filter_text}
use Rattle.semantics.specs.Moves.{Section}
use Rattle.program_tokens.specs.Kinds.{text_end}
use Rattle.program_tokens.specs.Tokens.{Token, is_one_of}
use Rattle.program_tree.specs.Tree.{Statement, Item, begin, end, main}
use Rattle.program_grammar.specs.Sets.{enders}
use Rattle.program_reader.specs.Read.{Read as Result, ok, no}
use Rattle.program_code.specs.Sections.{size_of, compile_statement, guarded, part_of}
use Rattle.program_lexer.specs.Coded.{coded, decoded, kind_count}
use Rattle.program_parser.specs.declared.read.Read.{Read}
use Rattle.program_parser.specs.Meaning.{Wrote}
use Rattle.program_parser.specs.Reading.{refusal, Good}
use Rattle.program_items.specs.declared.programs.Program.{Program}
use Rattle.program_items.specs.Programs.{count_in, Refused}

module _ (edition : ℕ) (s : List ℕ) where
  -- what an item that is read from the token t on, up to the token u, puts into a section, which was xs and is ys: the
  -- count was n and is m. (A pattern without an action has three instructions more; an end or the text's end follows.)
  pub record Put (t u : Token) (n m : ℕ) (xs : List ℕ) (a : Statement) (ys : List ℕ) : Type 0 where
    pub count : m ≡ n + size_of a
    pub bound : size_of a + 8 * t.start ≤ 8 * u.start + 3
    pub tight : is_one_of (text_end ∷ enders) u ≡ false → size_of a + 8 * t.start ≤ 8 * u.start
    pub wrote : Wrote edition s xs n (compile_statement a n) ys

  -- ---- an item of the main section
  pub record ReadMain (t : Token) (n : ℕ) (xs : List ℕ) (a : Statement) (u : Token) (r : Read) (ys : List ℕ) : Type 0
    where
      pub outcome : r.outcome ≡ 0
      pub token : r.token ≡ coded u
      pub good : Good edition s 0 u
      pub further : t.start < u.start
      pub put : Put t u n r.count xs a ys

  unfoldable pub ReadingMain : Token → ℕ → List ℕ → Result Item → Read → List ℕ → Type 0
  ReadingMain t n xs (ok (main e a) u) r ys = ReadMain t n xs (guarded e a) u r ys
  ReadingMain t n xs (ok (begin a) u) r ys = ⊥
  ReadingMain t n xs (ok (end a) u) r ys = ⊥
  ReadingMain t n xs (no outcome place) r ys = (r ≡ refusal outcome place) × (outcome ≡ 0 → ⊥)

  -- ---- any item: the program was p and is q, its sections were xs and are ys
  pub record ReadItem (t : Token) (p : Program) (xs : Section → List ℕ) (i : Item) (u : Token) (q : Program)
      (ys : Section → List ℕ) : Type 0 where
    pub outcome : q.outcome ≡ 0
    pub token : q.token ≡ coded u
    pub good : Good edition s 0 u
    pub further : t.start < u.start
    pub put : (x : Section) → Put t u (count_in p x) (count_in q x) (xs x) (part_of x i) (ys x)

  unfoldable pub ReadingItem : Token → Program → (Section → List ℕ) → Result Item → Program → (Section → List ℕ)
      → Type 0
  ReadingItem t p xs (ok i u) q ys = ReadItem t p xs i u q ys
  ReadingItem t p xs (no outcome place) q ys = Refused outcome place q

  -- a program to read on from its token: no text has more than 8 instructions for a byte
  pub record Onward (p : Program) : Type 0 where
    pub good : Good edition s 0 (decoded p.token)
    pub known : p.token.kind < kind_count
    pub small : length s ≤ filter_text
    pub counts : (x : Section) → count_in p x ≤ 8 * p.token.start
