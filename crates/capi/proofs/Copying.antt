-- The numbers of what the reader or the writer of images answers don't depend on the room.
use mathlib.Core.Path.{◌≡◌, refl, ap₂, ◌∙◌}
use mathlib.Core.List.{List, []}
use Prim.Native.Nat.{ℕ}
use Rattle.image.specs.Copy.{Copying, copying, copying_of}
use Rattle.std.specs.Prelude.{Result, Ok, Err}
use Rattle.image.specs.declared.error.CopyError.{CopyError}
use Rattle.image.specs.declared.error.CopyError.TheVariants.{Malformed, NoRoom}

numbers-are : (c : Result ℕ CopyError) (room : List ℕ)
    → copying (copying_of c []).outcome (copying_of c []).length room ≡ copying_of c room
numbers-are (Ok n) room = refl
numbers-are (Err Malformed) room = refl
numbers-are (Err NoRoom) room = refl

pub copying-is : (c : Result ℕ CopyError) (o n : ℕ) (room : List ℕ) (x : Copying)
    → o ≡ (copying_of c []).outcome → n ≡ (copying_of c []).length → copying_of c room ≡ x
    → copying o n room ≡ x
copying-is c o n room x h k e = ap₂ (λ (a b : ℕ). copying a b room) h k ∙ numbers-are c room ∙ e
