-- Internal: cited by private contracts only. The index of an image that passes the check: for each of its lists the
-- entries of all its items, as many as the rooms have.
use Rattle.std.specs.Prelude.{◌≡◌, true, List, ℕ, length, drop}
use Rattle.std.proofs.Math.Option.{some}
use Rattle.image_items.specs.Header.{SectionsIn}
use Rattle.image_format.specs.Image.{Image}
use Rattle.image_format.specs.Reading.{read_image, from_bytes}
use Rattle.semantics.specs.Check.{check}
use Rattle.image_index.specs.Lists.{ItemOf, Indexes}
use Rattle.image_index.specs.declared.indexes.Kind.{Kind}
use Rattle.image_index.specs.declared.indexes.Kind.TheVariants.{Constants, Eres, Instructions}
use Rattle.image_loader.specs.declared.loading.Counts.{Counts}
use Rattle.image_loader.specs.declared.loading.Loaded.{Loaded}

-- the rooms of an index
pub record Rooms : Type 0 where
  pub constants : List ℕ
  pub eres : List ℕ
  pub begin : List ℕ
  pub main : List ℕ
  pub end : List ℕ

abbrev pub rooms : List ℕ → List ℕ → List ℕ → List ℕ → List ℕ → Rooms
rooms c e b r f = record { constants = c; eres = e; begin = b; main = r; end = f }

-- what is loaded of an image i, from the bytes l
pub record Loads (i : Image) (l : List ℕ) (r : Loaded) (x : Rooms) : Type 0 where
  pub edition : r.edition ≡ i.edition
  pub users : r.users ≡ i.users
  pub constant-count : r.constants ≡ length i.constants
  pub ere-count : r.eres ≡ length i.eres
  pub begin_count : r.begin ≡ length i.begin
  pub main_count : r.main ≡ length i.main
  pub end_count : r.end ≡ length i.end
  pub constants : Indexes i.edition Constants l i.constants x.constants
  pub eres : Indexes i.edition Eres l i.eres x.eres
  pub begin : Indexes i.edition Instructions l i.begin x.begin
  pub main : Indexes i.edition Instructions l i.main x.main
  pub end : Indexes i.edition Instructions l i.end x.end

-- of bytes that are no image's, or of an image that fails the check, nothing is said: nobody runs it
abbrev pub LoadsAccepted : List ℕ → Loaded → Rooms → Type 0
LoadsAccepted l r x = (i : Image) → read_image from_bytes l ≡ some i → check i ≡ true → Loads i l r x

-- ---- a part

-- a list xs of an image i, from the bytes l: how many items it has, and its index
pub record LoadsList (i : Image) (l : List ℕ) (k : Kind) (xs : List (ItemOf k)) (n : ℕ) (index : List ℕ) : Type 0 where
  pub count : n ≡ length xs
  pub indexed : Indexes i.edition k l xs index

-- the three sections of an image that passes the check, from their place on
abbrev pub SectionsLoaded : ℕ → List ℕ → ℕ → Counts → List ℕ → List ℕ → List ℕ → Type 0
SectionsLoaded edition l at r b e f =
    (i : Image) → edition ≡ i.edition → check i ≡ true → SectionsIn i (drop at l)
    → (LoadsList i l Instructions i.begin r.begin b)
    × (LoadsList i l Instructions i.main r.main e)
    × (LoadsList i l Instructions i.end r.end f)
