-- EREs of an image, and the table that they share.
use mathlib.Core.Path.{◌≡◌, refl, sym, subst, ◌∙◌}
use mathlib.Core.Bool.{Bool, true, false}
use mathlib.Core.List.{List}
use mathlib.Core.Option.{some}
use Prim.Native.Nat.{ℕ, ◌≤◌, ◌<◌}
use native.Mathlib.Omega.{arith}
use lib.ListN.{length, get_or}
use lib.Dec.{ltb}
use borrow.Author.Tests.{ltb-true, ltb-false}
use Rattle.lists.proofs.Elements.{nth-none}
use Rattle.lists.proofs.Options.{none-some, some_one}
use Rattle.edition.specs.Limits.{ere_count}
use Rattle.ere_meaning.specs.Tree.{Class, Ere}
use Rattle.ere_grammar.specs.Read.{read_ere}
use Rattle.ere_table.specs.Table.{table_words}
use Rattle.ere.specs.Answer.{Serves, Compiles}
use Rattle.semantics.proofs.Tables.{nth-some}
use Rattle.image_index.specs.Lists.{TellsOf}
use Rattle.image_index.specs.declared.indexes.Kind.TheVariants.{Eres}
use Rattle.run_image.specs.Table.{Readable, IsEre, Compiled, Prepared}

-- ---- an ERE

-- the list has an ERE there
pub ere-below : (edition : ℕ) (xs : List (List ℕ)) (n : ℕ) (e : Ere Class) → IsEre edition xs n e → n < length xs
ere-below edition xs n e i = by (ltb n (length xs)) refl
  where
    by : (b : Bool) → ltb n (length xs) ≡ b → n < length xs
    by true g = ltb-true n (length xs) g
    by false g = absurd (none-some (sym (nth-none xs n (ltb-false n (length xs) g)) ∙ i.1))

module _ {edition : ℕ} {image index : List ℕ} where
  -- its place is in the image
  pub ere-inside : {xs : List (List ℕ)} → Readable edition image index xs → (n : ℕ) → n < length xs
      → get_or index n 0 ≤ length image
  ere-inside {xs} y n h =
      let l = nth-some xs n h in
      let s = (y.indexed n l.0 l.1 (omega (arith, y.room))).1 in
      omega (arith, s.forward, s.inside)

  -- the bytes that the index leads to, compiled
  module _ (n : ℕ) {bytes t : List ℕ} {r : Bool}
      (told : (edition : ℕ) (l : List ℕ) → TellsOf edition Eres image (get_or index n 0) l → bytes ≡ l)
      (c : Compiles edition bytes t r) where
    pub ere-serves : (xs : List (List ℕ)) (e : Ere Class) → Readable edition image index xs → IsEre edition xs n e
        → Serves t e
    ere-serves xs e y i = by r refl
      where
        same : bytes ≡ i.0
        same = told edition i.0 (y.indexed n i.0 i.1 (omega (arith, y.room, ere-below edition xs n e i)))

        reads : read_ere edition bytes ≡ some e
        reads = rw same i.2

        by : (b : Bool) → r ≡ b → Serves t e
        by true g = let d = c.read g in subst (Serves t) (some_one d.1 reads) d.2
        by false g = absurd (none-some (sym (c.refused g) ∙ reads))

-- ---- the shared table

module _ {edition : ℕ} {xs : List (List ℕ)} where
  -- compiled for an ERE
  pub prepared-anew : {image index table : List ℕ} {n : ℕ} → Readable edition image index xs
      → Compiled edition image index n table → Prepared edition xs table n
  prepared-anew y c = record { size = c.size; serves = λ e i. c.serves xs e y i }

  -- there is no ERE of the number that is too great
  pub prepared-none : {image index : List ℕ} → Readable edition image index xs → (table : List ℕ)
      → length table ≡ table_words → Prepared edition xs table ere_count
  prepared-none y table size =
      record { size = size; serves = λ e i. absurd (omega (arith, y.few, ere-below edition xs ere_count e i)) }
