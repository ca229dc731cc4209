-- Internal: cited by private contracts only. The table that the EREs of an image share.
use Rattle.std.specs.Prelude.{◌≡◌, List, ℕ, ◌≤◌, length}
use Rattle.std.proofs.Math.Option.{some}
use Rattle.lists.specs.Elements.{nth}
use Rattle.edition.specs.Limits.{ere_count}
use Rattle.ere_meaning.specs.Tree.{Class, Ere}
use Rattle.ere_grammar.specs.Read.{read_ere}
use Rattle.ere_table.specs.Table.{table_words}
use Rattle.ere.specs.Answer.{Serves}
use Rattle.image_index.specs.Lists.{Indexes}
use Rattle.image_index.specs.declared.indexes.Kind.TheVariants.{Eres}

-- EREs that all read, and an index of them
pub record Readable (edition : ℕ) (image index : List ℕ) (xs : List (List ℕ)) : Type 0 where
  pub few : length xs ≤ ere_count
  pub room : length xs ≡ length index
  pub indexed : Indexes edition Eres image xs index
  pub reads : (n : ℕ) (l : List ℕ) → nth xs n ≡ some l → (e : Ere Class) × (read_ere edition l ≡ some e)

-- ERE n of the list is e
abbrev pub IsEre : ℕ → List (List ℕ) → ℕ → Ere Class → Type 0
IsEre edition xs n e = (l : List ℕ) × (nth xs n ≡ some l) × (read_ere edition l ≡ some e)

-- the table is compiled for ERE n
pub record Compiled (edition : ℕ) (image index : List ℕ) (n : ℕ) (table : List ℕ) : Type 0 where
  pub size : length table ≡ table_words
  pub serves : (xs : List (List ℕ)) (e : Ere Class) → Readable edition image index xs → IsEre edition xs n e
      → Serves table e

-- the table is that of ERE `last`, if there is one
pub record Prepared (edition : ℕ) (xs : List (List ℕ)) (table : List ℕ) (last : ℕ) : Type 0 where
  pub size : length table ≡ table_words
  pub serves : (e : Ere Class) → IsEre edition xs last e → Serves table e
