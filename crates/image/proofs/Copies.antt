-- What reader and writer answer, by their passes: an image's content words or its bytes, whatever it is read from.
use mathlib.Core.Path.{◌≡◌, refl, sym, ap, ap₂, ◌∙◌}
use mathlib.Core.List.{List, [], ◌∷◌, ◌++◌}
use mathlib.Core.Option.{Option, some, none}
use Prim.Native.Nat.{ℕ, ◌≤◌, ◌<◌}
use native.Mathlib.Omega.{arith}
use native.Mathlib.Nat.{zero-add}
use lib.ListN.{length, drop}
use borrow.Author.Tests.{le-leb, lt-leb}
use Rattle.lists.proofs.Options.{some_one, none-some}
use Rattle.edition.specs.Outcomes.{done, room_too_small, image_malformed}
use Rattle.image_format.specs.Image.{Image}
use Rattle.varint.specs.Room.{with_all}
use Rattle.varint.proofs.Words.{all-fits}
use Rattle.image.specs.Pass.{Filled, passed_of, pass_of}
use Rattle.image.specs.Copy.{copying, given, is_image}
use Rattle.std.specs.Prelude.{Option as Answer, Some, None, is_some}

-- what a whole pass leaves in the room
left_in : (r : Answer ℕ) (room : List ℕ) (f : Filled) → passed_of r room ≡ some f → room ≡ f.room
unfolding passed_of
left_in (Some n) room f h = ap (λ (x : Filled). x.room) (some_one refl h)
left_in None room f h = absurd (none-some h)

module _ (w : Image → List ℕ) where
  -- there is an image, and it is written by n elements
  record Long (n : ℕ) (o : Option Image) : Type 0 where
    image : Image
    is : o ≡ some image
    long : length (w image) ≡ n

  -- by a first pass, over a room of its own
  module _ (own : List ℕ) (r : Answer ℕ) (own' : List ℕ) (o : Option Image)
      (first : passed_of r own' ≡ pass_of w own o)
    where
      no-image : r ≡ None → o ≡ none
      unfolding passed_of pass_of
      no-image e = by o (rw e at first)
        where
          by : (o : Option Image) → passed_of None own' ≡ pass_of w own o → o ≡ none
          by none h = refl
          by (some i) h = absurd (none-some h)

      an-image : (n : ℕ) → r ≡ Some n → Long n o
      unfolding passed_of pass_of
      an-image n e = by o (rw e at first)
        where
          by : (o : Option Image) → passed_of (Some n) own' ≡ pass_of w own o → Long n o
          by none h = absurd (none-some (sym h))
          by (some i) h = record { image = i; is = refl; long = ap (λ (x : Filled). x.count) (some_one h refl) }

      pub pass-tells : is_some r ≡ is_image o
      pass-tells = by r refl
        where
          by : (x : Answer ℕ) → r ≡ x → is_some x ≡ is_image o
          by None e = sym (ap is_image (no-image e))
          by (Some n) e = sym (ap is_image (an-image n e).is)

      module _ (room : List ℕ) where
        pub copied-malformed : r ≡ None → copying image_malformed 0 room ≡ given w room o
        copied-malformed e = sym (ap (given w room) (no-image e))

        pub copied-no-room : (n : ℕ) → r ≡ Some n → length room < n → copying room_too_small 0 room ≡ given w room o
        copied-no-room n e b =
            let i = an-image n e in
            rw (i.is, lt-leb (length (w i.image)) (length room) (omega (arith, i.long)))

        -- and a second one, over the room
        pub copied-written : (n : ℕ) → r ≡ Some n → n ≤ length room → (again : Answer ℕ) (room' : List ℕ)
            → passed_of again room' ≡ pass_of w room o → copying done n room' ≡ given w room o
        unfolding pass_of
        copied-written n e b again room' second =
            let i = an-image n e in
            let l = w i.image in
            let f : length l ≤ length room = omega (arith, i.long) in
            let fits : with_all room 0 l ≡ l ++ drop (length l) room =
            all-fits room 0 l (omega arith) ∙ ap (λ (k : ℕ). l ++ drop k room) (zero-add (length l)) in
            rw (i.is, le-leb (length l) (length room) f)
            (ap₂ (copying done) (sym i.long) (left_in again room' _ (rw i.is at second) ∙ fits))

-- a room that lent no element comes back as it was
pub nothing_lent : (came room : List ℕ) → length came ≡ 0 → came ++ room ≡ room
nothing_lent [] room h = refl
nothing_lent (x ∷ l) room h = absurd (omega arith)
