-- What is answered, by what is tested: a room that is too small, sizes that are passed, a text that is refused.
use mathlib.Core.Path.{◌≡◌, refl, ap, ◌∙◌}
use mathlib.Core.Bool.{Bool, true, false, not, cond, ◌&&◌}
use mathlib.Core.List.{List, [], ◌∷◌, ◌++◌}
use Prim.Native.Nat.{ℕ, suc, ◌-◌, ◌≤◌, ◌<◌}
use native.Mathlib.Omega.{arith}
use lib.ListN.{length, drop}
use lib.Dec.{eqb}
use borrow.Author.Tests.{le-leb, lt-leb, lt-ltb, le-ltb}
use Rattle.lists.specs.Elements.{leading}
use Rattle.lists.proofs.Tests.{and-false}
use Rattle.edition.specs.Limits.{filter_text, instruction_count}
use Rattle.edition.specs.Outcomes.{done, filter_text_too_long, nul_byte, size_passed, room_too_small}
use Rattle.image_format.specs.Image.{Image}
use Rattle.image_format.specs.Writing.{bytes_of}
use Rattle.buffer.specs.First.{first_byte}
use Rattle.varint.specs.Room.{with_all}
use Rattle.semantics.specs.Variables.{special_count}
use Rattle.program_reader.specs.Programs.{read_program}
use Rattle.program_numbering.specs.Sizes.{fits}
use Rattle.program_image.specs.Written.{instructions_of}
use Rattle.program_image.specs.Pictured.{image_in, WritesImage, Sectioned}
use Rattle.program_image.specs.Fitting.{counts_fit, lengths_fit, sections_fit}
use Rattle.program_image.proofs.Judged.{fits_by, constants_fit}
use Rattle.program_image.proofs.Remaining.{all_there}
use Rattle.translation.specs.Translation.{Translation, refused, stored, sized, of_program, before_nul, translate_of}

-- a part of length 0 was lent, and came back
pub nothing_lent : (came room : List ℕ) → length came ≡ 0 → came ++ room ≡ room
nothing_lent [] room h = refl
nothing_lent (x ∷ l) room h = absurd (omega (arith, h))

-- ---- "On 0 the place is the image's length, the room beyond untouched."

module _ (room s : List ℕ) (i : Image) (own own' : List ℕ) (n : ℕ) (measured : WritesImage own i n own') where
  pub stored-small : (room' : List ℕ) → room' ≡ room → length room' < n
      → record { outcome = room_too_small; place = length s; room = room' } ≡ stored room s (bytes_of i)
  unfolding stored
  stored-small room' e h =
      let over : length room < length (bytes_of i) = omega (arith, h, ap length e, measured.counted) in
      rw (e, lt-leb (length (bytes_of i)) (length room) over)

  pub stored-done : (before room' : List ℕ) (m : ℕ) → before ≡ room → n ≤ length before
      → WritesImage before i m room'
      → record { outcome = done; place = n; room = room' } ≡ stored room s (bytes_of i)
  unfolding stored
  stored-done before room' m e h w =
      let within : length (bytes_of i) ≤ length room = omega (arith, h, ap length e, measured.counted) in
      let there : room' ≡ bytes_of i ++ drop (length (bytes_of i)) room =
      w.written ∙ (ap (λ (r : List ℕ). with_all r 0 (bytes_of i)) e ∙ all_there room (bytes_of i) within) in
      rw (there, measured.counted, le-leb (length (bytes_of i)) (length room) within)

-- ---- "Then other sizes (6)"

module _ (room s : List ℕ) (edition variables : ℕ) (constants : List ℕ) (nc : ℕ) (eres : List ℕ) (ne : ℕ)
    (begin : List ℕ) (nb : ℕ) (main : List ℕ) (nm : ℕ) (end : List ℕ) (nd : ℕ) where
  abbrev Picture : Image
  Picture = image_in edition (variables - special_count edition) s constants nc eres ne begin nb main nm end nd

  abbrev Counts : Bool
  Counts = counts_fit edition variables nc ne

  abbrev Depths : Bool
  Depths = sections_fit (instructions_of begin nb) (instructions_of main nm) (instructions_of end nd)

  abbrev pub Judged : Translation
  Judged = cond Counts (sized room s Picture) (refused room size_passed (length s))

  pub judged-counts : Counts ≡ false → refused room size_passed (length s) ≡ Judged
  judged-counts e = rw e

  module _ (special : special_count edition ≤ variables) (counts : Counts ≡ true) (b : Sectioned begin nb)
      (m : Sectioned main nm) (d : Sectioned end nd) where
    lengths : lengths_fit nb nm nd ≡ true
    lengths =
        rw (
          le-leb nb instruction_count b.few,
          le-leb nm instruction_count m.few,
          le-leb nd instruction_count d.few,
        )

    fitting : fits Picture ≡ (Depths && constants_fit s constants 0 nc)
    fitting =
        fits_by edition variables s constants nc eres ne begin nb main nm end nd special b.room m.room d.room
        ∙ rw (lengths, counts)

    judged-by : (x : Bool) → (Depths && constants_fit s constants 0 nc) ≡ x
        → cond x (stored room s (bytes_of Picture)) (refused room size_passed (length s)) ≡ Judged
    unfolding sized
    judged-by x e = rw (counts, fitting, e)

    pub judged-depths : Depths ≡ false → refused room size_passed (length s) ≡ Judged
    judged-depths e = judged-by false (ap (λ (x : Bool). x && constants_fit s constants 0 nc) e)

    pub judged-constants : constants_fit s constants 0 nc ≡ false → refused room size_passed (length s) ≡ Judged
    judged-constants e = judged-by false (ap (λ (x : Bool). Depths && x) e ∙ and-false Depths)

    pub judged-fits : Depths ≡ true → constants_fit s constants 0 nc ≡ true → {t : Translation}
        → t ≡ stored room s (bytes_of Picture) → t ≡ Judged
    judged-fits e f h = h ∙ judged-by true (rw (e, f))

-- ---- the order: 1, 2, and what a program comes to

nul-same : (s : List ℕ) → first_byte 0 s ≡ before_nul s
unfolding first_byte leading
nul-same [] = refl
nul-same (b ∷ s) = go (eqb b 0) (nul-same s)
  where
    go : (x : Bool) → first_byte 0 s ≡ before_nul s
        → cond x 0 (suc (first_byte 0 s)) ≡ cond (not x) (suc (before_nul s)) 0
    go true h = refl
    go false h = ap suc h

module _ (edition : ℕ) (s room : List ℕ) where
  pub too_long : filter_text < length s → refused room filter_text_too_long filter_text ≡ translate_of edition s room
  unfolding translate_of
  too_long h = rw (lt-ltb filter_text (length s) h)

  module _ (short : length s ≤ filter_text) where
    pub nul-there : (n : ℕ) → n ≡ first_byte 0 s → n < length s → refused room nul_byte n ≡ translate_of edition s room
    unfolding translate_of
    nul-there n e h =
        let at : n ≡ before_nul s = e ∙ nul-same s in
        let below : before_nul s < length s = omega (arith, h, at) in
        rw (le-ltb filter_text (length s) short, lt-ltb (before_nul s) (length s) below, at)

    pub no_nul : (n : ℕ) → n ≡ first_byte 0 s → length s ≤ n → {t : Translation}
        → t ≡ of_program room edition s (read_program edition s) → t ≡ translate_of edition s room
    unfolding translate_of
    no_nul n e h g =
        let none : length s ≤ before_nul s = omega (arith, h, e, nul-same s) in
        rw (le-ltb filter_text (length s) short, le-ltb (before_nul s) (length s) none) g
