-- Internal: cited by private contracts only. The lists of an image, by their kind: what their items are, which of them
-- the check can accept by themselves, and what an index says of them.
use Rattle.std.specs.Prelude.{◌≡◌, Option, Some, None, List, ℕ, ◌+◌, ◌*◌, ◌/◌, ◌%◌, ◌≤◌, ◌<◌, length, drop, get_or}
use Rattle.std.proofs.Math.Option.{some}
use Rattle.lists.specs.Elements.{nth, Every}
use Rattle.lists.specs.Parsing.{parsed, Parser, many}
use Rattle.edition.specs.Limits.{text_bytes, constant_count, ere_count, instruction_count, operand_depth}
use Rattle.buffer.specs.Parts.{part}
use Rattle.ere_meaning.specs.Tree.{Class, Ere}
use Rattle.ere_grammar.specs.Read.{read_ere}
use Rattle.image_format.specs.Image.{Constant, number, text, Instruction}
use Rattle.image_format.specs.Reading.{from_bytes, counted, constant, instruction}
use Rattle.image_items.specs.Stands.{Stands, a_text, instruction_of}
use Rattle.image_index.specs.declared.indexes.Kind.{Kind}
use Rattle.image_index.specs.declared.indexes.Kind.TheVariants.{Constants, Eres, Instructions}
use Rattle.image_index.specs.declared.indexes.Entry.{Entry}
use Rattle.image_index.specs.declared.indexes.Listed.{Listed}
use Rattle.image_index.specs.declared.indexes.Numbers.{Numbers}

abbrev pub ItemOf : Kind → Type 0
ItemOf Constants = Constant
ItemOf Eres = List ℕ
ItemOf Instructions = Instruction

-- ---- sizes

-- the most items of a list, and the fewest
abbrev pub most_of : Kind → ℕ
most_of Constants = constant_count
most_of Eres = ere_count
most_of Instructions = instruction_count

abbrev pub least_of : Kind → ℕ
least_of Constants = 0
least_of Eres = 0
least_of Instructions = 1

-- ---- an instruction as one number of 32 bits: six for the code, six for the depth, ten each for the numbers that it
-- names

abbrev pub packed : ℕ → ℕ → ℕ → ℕ → ℕ
packed code depth first second = code + 64 * depth + 4096 * first + 4194304 * second

-- the numbers of an entry
abbrev pub numbers_of : ℕ → Numbers
numbers_of w = record { code = w % 64; depth = w / 64 % 64; first = w / 4096 % 1024; second = w / 4194304 }

abbrev pub unpacked : ℕ → ℕ → Instruction
unpacked edition w =
    let j = numbers_of w in
    instruction_of edition j.code j.depth j.first j.second

module _ (edition : ℕ) where
  abbrev pub taker_of : (k : Kind) → Parser (ItemOf k)
  taker_of Constants = constant from_bytes
  taker_of Eres = a_text
  taker_of Instructions = instruction from_bytes edition

  -- what the check asks of an item by itself, and of an instruction that its numbers are small
  abbrev pub FitsOf : (k : Kind) → ItemOf k → Type 0
  FitsOf Constants (number n) = Unit {0}
  FitsOf Constants (text l) = length l ≤ text_bytes
  FitsOf Eres l = (e : Ere Class) × (read_ere edition l ≡ some e)
  FitsOf Instructions j = (j.depth ≤ operand_depth) × (Every (λ v. v < instruction_count) j.immediates)

  -- An entry of an index tells an item: of an instruction its numbers, of any other its place.
  abbrev pub TellsOf : (k : Kind) → List ℕ → ℕ → ItemOf k → Type 0
  TellsOf Constants l entry a = (end : ℕ) × (Stands (constant from_bytes) l entry a end)
  TellsOf Eres l entry a = (end : ℕ) × (Stands a_text l entry a end)
  TellsOf Instructions l entry j = unpacked edition entry ≡ j

  module _ (k : Kind) (l : List ℕ) where
    -- an item that fits, and its entry
    abbrev pub EntryAt : ℕ → Option Entry → Type 0
    EntryAt at None = (a : ItemOf k) (t : List ℕ) → taker_of k (drop at l) ≡ parsed a t → FitsOf k a → ⊥
    EntryAt at (Some r) = (a : ItemOf k) × (Stands (taker_of k) l at a r.end) × (FitsOf k a) × (TellsOf k l r.entry a)

    -- each entry that the index has tells its item
    abbrev pub Indexes : List (ItemOf k) → List ℕ → Type 0
    Indexes xs index = (n : ℕ) (a : ItemOf k) → nth xs n ≡ some a → n < length index → TellsOf k l (get_or index n 0) a

    -- what the check asks of a list and its items by themselves
    pub record Fits (xs : List (ItemOf k)) : Type 0 where
      pub some_items : least_of k ≤ length xs
      pub few : length xs ≤ most_of k
      pub each : Every (FitsOf k) xs

    -- n items, each of which fits
    abbrev pub ItemsAt : ℕ → ℕ → Option Listed → List ℕ → Type 0
    ItemsAt n at None index =
        (xs : List (ItemOf k)) (t : List ℕ) → many (taker_of k) n (drop at l) ≡ parsed xs t → Every (FitsOf k) xs → ⊥
    ItemsAt n at (Some r) index =
        (xs : List (ItemOf k)) × (many (taker_of k) n (drop at l) ≡ parsed xs (drop r.end l)) × (at ≤ r.end)
        × (r.end ≤ length l) × (r.count ≡ n) × (length xs ≡ n) × (Every (FitsOf k) xs) × (Indexes xs index)

    -- a list that fits
    abbrev pub ListAt : ℕ → Option Listed → List ℕ → Type 0
    ListAt at None index =
        (xs : List (ItemOf k)) (t : List ℕ) → counted from_bytes (taker_of k) (drop at l) ≡ parsed xs t → Fits xs → ⊥
    ListAt at (Some r) index =
        (xs : List (ItemOf k)) × (Stands (counted from_bytes (taker_of k)) l at xs r.end) × (r.count ≡ length xs)
        × (Fits xs) × (Indexes xs index)

-- ---- what an entry leads to

-- bytes that are a part of the image's, and its place in memory: the block, and the byte in it
pub record IsPart (l : List ℕ) (p : ℕ × ℕ) (bytes : List ℕ) (q : ℕ × ℕ) : Type 0 where
  pub start : ℕ
  pub inside : start + length bytes ≤ length l
  pub same : bytes ≡ part start (length bytes) l
  pub place : q ≡ (p.0, p.1 + start)
