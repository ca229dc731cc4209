-- Internal: cited by private contracts only. The image that tables of entries and sections of words stand for.
use Rattle.std.specs.Prelude.{◌≡◌, true, false, List, map, ℕ, ◌*◌, ◌-◌, ◌≤◌, length}
use Rattle.edition.specs.Limits.{filter_text, number_bound, instruction_count}
use Rattle.image_format.specs.Image.{Image}
use Rattle.image_format.specs.Writing.{bytes_of}
use Rattle.semantics.specs.Variables.{special_count}
use Rattle.varint.specs.Room.{with_all}
use Rattle.program_tables.specs.Tables.{AllInside, entries_from}
use Rattle.program_image.specs.Written.{text_of, instructions_of, AllSmall}
use Rattle.program_image.specs.Fitting.{counts_fit}
use Rattle.program_image.specs.declared.images.Counts.{Counts}
use Rattle.program_image.specs.declared.images.Sections.{Sections}

-- the first entries of two tables, over a filter's text, and the first words of three sections
unfoldable pub image_in : ℕ → ℕ → List ℕ → List ℕ → ℕ → List ℕ → ℕ → List ℕ → ℕ → List ℕ → ℕ → List ℕ → ℕ → Image
image_in edition users s constants nc eres ne begin nb main nm end nd =
    record {
      edition = edition;
      users = users;
      constants = entries_from s true constants 0 nc;
      eres = map text_of (entries_from s false eres 0 ne);
      begin = instructions_of begin nb;
      main = instructions_of main nm;
      end = instructions_of end nd;
    }

-- the bytes of an image are written to a room, as far as it goes: how many they are, and the room then
pub record WritesImage (room : List ℕ) (i : Image) (r : ℕ) (room' : List ℕ) : Type 0 where
  pub counted : r ≡ length (bytes_of i)
  pub written : room' ≡ with_all room 0 (bytes_of i)

-- n entries are in a table, and their texts in the filter's
pub record Tabled (s table : List ℕ) (n : ℕ) : Type 0 where
  pub room : 2 * n ≤ length table
  pub inside : AllInside s table n

-- n words are in a section
pub record Sectioned (section : List ℕ) (n : ℕ) : Type 0 where
  pub room : n ≤ length section
  pub few : n ≤ instruction_count

module _ (edition : ℕ) (s : List ℕ) (counts : Counts) (constants eres : List ℕ) (sections : Sections)
    (begin main end : List ℕ) where
  -- tables and sections of which an image is made
  abbrev pub Pictures : Type 0
  Pictures =
      (length s ≤ filter_text) × (edition ≤ number_bound)
      × (special_count edition ≤ counts.variables)
      × (counts_fit edition counts.variables counts.constants counts.eres ≡ true)
      × Tabled s constants counts.constants × AllSmall constants counts.constants
      × Tabled s eres counts.eres × Sectioned begin sections.begin
      × Sectioned main sections.main × Sectioned end sections.end

  -- the image
  abbrev pub pictured : Image
  pictured =
      image_in edition (counts.variables - special_count edition) s constants counts.constants eres counts.eres
      begin sections.begin main sections.main end sections.end
