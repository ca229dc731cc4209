-- Laws on the bytes of a whole image.
use mathlib.Core.Path.{◌≡◌, refl, sym, ap, ◌∙◌}
use mathlib.Core.Bool.{Bool, true, false}
use mathlib.Core.List.{List, [], ◌∷◌, ◌++◌, map}
use Prim.Native.Nat.{ℕ, ◌+◌, ◌*◌, ◌≤◌}
use native.Mathlib.Omega.{arith}
use lib.ListN.{length, length-append, length-map}
use Rattle.edition.specs.Limits.{filter_text}
use Rattle.image_format.specs.Image.{Constant, Image}
use Rattle.image_format.specs.Numbers.{coded}
use Rattle.image_format.specs.Writing.{all, bytes, constant_in, instruction_in, listed, written, bytes_of}
use Rattle.varint.specs.Room.{with_all}
use Rattle.varint.proofs.Puts.{coded-short}
use Rattle.program_tables.specs.Tables.{entries_from}
use Rattle.program_image.specs.Written.{Writes, text_of, entry_bytes, entries_bytes, instructions_of, section_bytes}
use Rattle.program_image.specs.Pictured.{image_in, WritesImage}
use Rattle.program_image.proofs.Parts.{entry_most, entries-short, entries-count}
use Rattle.program_image.proofs.Parts.{instruction_most, instructions-short, instructions-count}

-- ---- where the parts end

pub entries-after : (s : List ℕ) (constants : Bool) (table : List ℕ) (n : ℕ) {room room' : List ℕ} {k r : ℕ}
    → length s ≤ filter_text → Writes room k (entries_bytes s constants table n) r room' → r ≤ k + 8 + entry_most * n
entries-after s constants table n h w =
    omega (
      arith,
      w.after,
      coded-short n,
      entries-short s constants table 0 n h,
      length-append (coded n) (all (entry_bytes constants) (entries_from s constants table 0 n)),
    )

pub section-after : (section : List ℕ) (n : ℕ) {room room' : List ℕ} {k r : ℕ}
    → Writes room k (section_bytes section n) r room' → r ≤ k + 8 + instruction_most * n
section-after section n w =
    omega (
      arith,
      w.after,
      coded-short n,
      instructions-short section n,
      length-append (coded n) (all (instruction_in coded) (instructions_of section n)),
    )

-- ---- the parts as the image has them

constants-same : (l : List Constant) → all (constant_in coded) l ≡ all (entry_bytes true) l
unfolding all entry_bytes
constants-same [] = refl
constants-same (c ∷ l) = ap (λ (t : List ℕ). constant_in coded c ++ t) (constants-same l)

eres-same : (l : List Constant) → all (bytes coded) (map text_of l) ≡ all (entry_bytes false) l
unfolding all entry_bytes
eres-same [] = refl
eres-same (c ∷ l) = ap (λ (t : List ℕ). bytes coded (text_of c) ++ t) (eres-same l)

listed-constants : (s table : List ℕ) (n : ℕ)
    → listed coded (constant_in coded) (entries_from s true table 0 n) ≡ entries_bytes s true table n
listed-constants s table n =
    let l = entries_from s true table 0 n in
    ap (λ (m : ℕ). coded m ++ all (constant_in coded) l) (entries-count s true table 0 n)
    ∙ ap (λ (t : List ℕ). coded n ++ t) (constants-same l)

listed-eres : (s table : List ℕ) (n : ℕ)
    → listed coded (bytes coded) (map text_of (entries_from s false table 0 n)) ≡ entries_bytes s false table n
listed-eres s table n =
    let l = entries_from s false table 0 n in
    ap (λ (m : ℕ). coded m ++ all (bytes coded) (map text_of l)) (length-map l text_of ∙ entries-count s false table 0 n)
    ∙ ap (λ (t : List ℕ). coded n ++ t) (eres-same l)

listed-section : (section : List ℕ) (n : ℕ) → n ≤ length section
    → listed coded (instruction_in coded) (instructions_of section n) ≡ section_bytes section n
listed-section section n h =
    ap (λ (m : ℕ). coded m ++ all (instruction_in coded) (instructions_of section n)) (instructions-count section n h)

module _ (edition users : ℕ) (s constants : List ℕ) (nc : ℕ) (eres : List ℕ) (ne : ℕ) (begin : List ℕ) (nb : ℕ)
    (main : List ℕ) (nm : ℕ) (end : List ℕ) (nd : ℕ) where
  abbrev pub image_parts : List ℕ
  image_parts =
      coded edition
      ++ (coded users
      ++ (entries_bytes s true constants nc
      ++ (entries_bytes s false eres ne
      ++ (section_bytes begin nb ++ (section_bytes main nm ++ section_bytes end nd)))))

  abbrev Pictured : Image
  Pictured = image_in edition users s constants nc eres ne begin nb main nm end nd

  image-parts : nb ≤ length begin → nm ≤ length main → nd ≤ length end → bytes_of Pictured ≡ image_parts
  unfolding image_in written
  image-parts hb hm hd =
      rw (
        listed-constants s constants nc,
        listed-eres s eres ne,
        listed-section begin nb hb,
        listed-section main nm hm,
        listed-section end nd hd,
      ) refl

  pub writes-image : {room room' : List ℕ} {r : ℕ} → nb ≤ length begin → nm ≤ length main → nd ≤ length end
      → Writes room 0 image_parts r room' → WritesImage room Pictured r room'
  writes-image {room} {room'} {r} hb hm hd w =
      let same = image-parts hb hm hd in
      record {
        counted = omega (arith, w.after, ap length same);
        written = w.written ∙ ap (with_all room 0) (sym same);
      }
