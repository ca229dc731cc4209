-- What an entry leads to: a part of the image, and the bytes of the item.
use mathlib.Core.Path.{◌≡◌, refl, sym, ap, ◌∙◌}
use mathlib.Core.List.{List}
use Prim.Native.Nat.{ℕ, ◌+◌, ◌-◌, ◌≤◌}
use native.Mathlib.Nat.{add_comm}
use native.Mathlib.Omega.{arith}
use lib.ListN.{length, drop}
use Rattle.lists.proofs.Many.{same_item}
use Rattle.lists.proofs.Options.{none-some}
use Rattle.buffer.specs.Parts.{part}
use Rattle.buffer.proofs.Parts.{length_part}
use Rattle.image_format.specs.Image.{Constant as Code, number, text}
use Rattle.image_format.specs.Reading.{from_bytes, constant}
use Rattle.image_items.specs.Stands.{Stands, a_text, bytes_of, IsText, constant_of}
use Rattle.image_index.specs.Lists.{IsPart}
use Rattle.image_items.specs.declared.items.Text.{Text}
use Rattle.image_items.specs.declared.items.Found.{Found}
use Rattle.image_items.specs.declared.items.Constant.{Constant}
use Rattle.image_items.specs.declared.items.Constant.TheVariants.{Number, Text as TextRead}
use mathlib.Core.Option.{none}

-- a number is no text
number-not-text : {n : ℕ} {bytes : List ℕ} → number n ≡ text bytes → ⊥
number-not-text e = let z : ◌≡◌ {A = ℕ} 0 1 = ap kind e in absurd (omega arith)
  where
    kind : Code → ℕ
    kind (number n) = 0
    kind (text l) = 1

module _ (l : List ℕ) where
  pub is-part : (p : ℕ × ℕ) (start end : ℕ) → start ≤ end → end ≤ length l → IsPart l p (part start (end - start) l) (p.0, start + p.1)
  is-part p start end a b =
      let n = length_part start (end - start) l (omega arith) in
      record {
        start = start;
        inside = omega arith;
        same = ap (λ (m : ℕ). part start m l) (sym n);
        place = ap (λ (i : ℕ). (p.0, i)) (add_comm start p.1);
      }

  module _ (at end : ℕ) (bytes : List ℕ) where
    -- an entry that tells a text
    pub text-reached : (r : Text) → IsText l at r → Stands a_text l at bytes end → bytes_of l r ≡ bytes
    text-reached r y s = same_item y.found.taken s.taken

    pub text-missed : {A : Type 0} → a_text (drop at l) ≡ none → Stands a_text l at bytes end → A
    text-missed h s = absurd (none-some (sym h ∙ s.taken))

    -- and a text constant
    pub constant-missed : {A : Type 0} → constant from_bytes (drop at l) ≡ none → Stands (constant from_bytes) l at (text bytes) end → A
    constant-missed h s = absurd (none-some (sym h ∙ s.taken))

    module _ (r : Found) (f : Stands (constant from_bytes) l at (constant_of l r.constant) r.end)
        (s : Stands (constant from_bytes) l at (text bytes) end) where
      same-text : constant_of l r.constant ≡ text bytes
      same-text = same_item f.taken s.taken

      pub constant-reached : (t : Text) → r.constant ≡ TextRead t → bytes_of l t ≡ bytes
      constant-reached t e =
          let q : text (bytes_of l t) ≡ text bytes = rw e at same-text in
          cc

      pub number-reached : {A : Type 0} → ((t : Text) → r.constant ≡ TextRead t → ⊥) → A
      number-reached n = by r.constant refl same-text
        where
          by : {A : Type 0} (c : Constant) → r.constant ≡ c → constant_of l c ≡ text bytes → A
          by (Number m) e q = absurd (number-not-text q)
          by (TextRead t) e q = absurd (n t e)
