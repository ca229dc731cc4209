-- A slot set to the constant of a word.
use mathlib.Core.Path.{◌≡◌, ap, ◌∙◌}
use mathlib.Core.List.{List}
use Prim.Native.Nat.{ℕ, ◌≤◌, ◌<◌}
use native.Mathlib.Omega.{arith}
use lib.ListN.{length}
use Rattle.number.specs.Range.{unbias}
use Rattle.number.proofs.Bias.{unbias-plus}
use Rattle.buffer.specs.Parts.{part}
use Rattle.splitting.specs.Separator.{Separator}
use Rattle.image_format.specs.Image.{Constant, number as numeral, text as bytes}
use Rattle.values.specs.Value.{Value, number, text}
use Rattle.semantics.specs.Operations.{constant_value}
use Rattle.run_room.specs.Layout.{slot_count}
use Rattle.run_room.specs.Room.{store_of, with_slot}
use Rattle.run_room.specs.Held.{Slotted, Did}
use Rattle.run_room.specs.declared.lines.Line.{Line}
use Rattle.run_room.proofs.Stored.{did-slot, did_so}
use Rattle.run_operations.specs.Constants.{text_base, place_in, size_of, Decodes}

pub decoded-number : (image : List ℕ) (word : ℕ) → word < text_base → (k : Constant) → Decodes image word k
    → number (unbias word) ≡ constant_value k
decoded-number image word h (numeral n) d = ap number (ap unbias d.0 ∙ unbias-plus n)
decoded-number image word h (bytes l) d = absurd (omega (arith, d.0))

pub decoded-text : (image : List ℕ) (word : ℕ) → text_base ≤ word → (k : Constant) → Decodes image word k
    → text (part (place_in word) (size_of word) image) ≡ constant_value k
decoded-text image word h (numeral n) d = absurd (omega (arith, d.0, d.1))
decoded-text image word h (bytes l) d = ap text d.1

pub pushed : (image : List ℕ) (word : ℕ) (x y : List ℕ) (a : ℕ) (v : Value) → a < slot_count → Slotted x y a v Unit
    → ((k : Constant) → Decodes image word k → v ≡ constant_value k) → (l : Line)
    → Did x l y l (length y ≡ length x)
    ((s : Separator) (k : Constant) → Decodes image word k
    → store_of y l s ≡ with_slot (store_of x l s) a (constant_value k))
pushed image word x y a v inside o f l =
    did_so (λ h s k d. h s ∙ ap (with_slot (store_of x l s) a) (f k d))
    (did-slot x y l a v o inside o.outside.size (λ h. tt))
