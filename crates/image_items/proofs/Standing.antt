-- A number, a text and a constant from a place on, by the number that was taken there.
use mathlib.Core.Path.{◌≡◌, refl, sym, ap, ◌∙◌}
use mathlib.Core.Bool.{Bool, true, false, true≢false}
use mathlib.Core.List.{List}
use mathlib.Core.Option.{none}
use Prim.Native.Nat.{ℕ, ◌+◌, ◌-◌, ◌≤◌, ◌<◌}
use native.Mathlib.Omega.{arith}
use lib.ListN.{length, drop, get_or}
use borrow.Author.Tests.{ne_eqb}
use Rattle.lists.proofs.Many.{on}
use Rattle.lists.specs.Parsing.{parsed, bind, succeed, many}
use Rattle.buffer.specs.Parts.{part}
use Rattle.image_format.specs.Image.{number, text}
use Rattle.image_format.specs.Numbers.{take_number}
use Rattle.image_format.specs.Reading.{from_bytes, word_up_to, constant, constant_of}
use Rattle.varint.specs.Take.{TakesAt}
use Rattle.std.specs.Prelude.{Some}
use Rattle.varint.proofs.Bytes.{take-bytes, miss-bytes}
use Rattle.image_items.specs.Stands.{a_text, IsText, IsConstant}
use Rattle.image_items.specs.declared.items.Text.{Text}
use Rattle.image_items.specs.declared.items.Constant.TheVariants.{Number, Text as TextRead}

-- an answer is not both
pub never : {A : Type 0} {b : Bool} → b ≡ false → b ≡ true → A
never e h = absurd (true≢false (sym h ∙ e))

module _ (l : List ℕ) (at : ℕ) where
  -- ---- a text

  module _ (n start : ℕ) (t : TakesAt l at (Some (n, start))) (bytes : (i : ℕ) → i < length l → get_or l i 0 < 256) where
    pub text-short : length l - start < n → a_text (drop at l) ≡ none
    text-short h = on (many (word_up_to 255)) t.0 ∙ miss-bytes l bytes start t.2 n h

    pub text-there : n ≤ length l - start → IsText l at (record { start = start; end = start + n })
    text-there h =
        let e : n ≡ start + n - start = omega arith in
        record {
          found = record {
            taken = on (many (word_up_to 255)) t.0 ∙ take-bytes l bytes start t.2 n h ∙ ap (λ (m : ℕ). parsed (part start m l) (drop (start + n) l)) e;
            forward = omega (arith, t.1);
            inside = omega (arith, t.2);
          };
          inside = (omega arith, omega (arith, t.2));
        }

  -- ---- a constant

  module _ (kind behind : ℕ) (t : TakesAt l at (Some (kind, behind))) where
    on-kind : constant from_bytes (drop at l) ≡ constant_of from_bytes kind (drop behind l)
    on-kind = on (constant_of from_bytes) t.0

    pub kind-unknown : (kind ≡ 0 → ⊥) → (kind ≡ 1 → ⊥) → constant from_bytes (drop at l) ≡ none
    kind-unknown a b = on-kind ∙ (rw (ne_eqb kind 0 a, ne_eqb kind 1 b))

    module _ (e : kind ≡ 0) where
      on-number : constant from_bytes (drop at l) ≡ bind (take_number (drop behind l)) (λ n. succeed (number n))
      on-number = on-kind ∙ (rw e)

      pub number-missing : take_number (drop behind l) ≡ none → constant from_bytes (drop at l) ≡ none
      number-missing h = on-number ∙ on (λ n. succeed (number n)) h

      pub number-there : (n end : ℕ) → TakesAt l behind (Some (n, end))
          → IsConstant l at (record { constant = Number n; end = end })
      number-there n end x =
          record {
            found = record {
              taken = on-number ∙ on (λ n. succeed (number n)) x.0;
              forward = omega (arith, t.1, x.1);
              inside = x.2;
            };
            inside = tt;
            last = tt;
          }

    module _ (e : kind ≡ 1) where
      on-text : constant from_bytes (drop at l) ≡ bind (a_text (drop behind l)) (λ bs. succeed (text bs))
      on-text = on-kind ∙ (rw e)

      pub text-missing : a_text (drop behind l) ≡ none → constant from_bytes (drop at l) ≡ none
      text-missing h = on-text ∙ on (λ bs. succeed (text bs)) h

      pub text-found : (x : Text) → IsText l behind x → IsConstant l at (record { constant = TextRead x; end = x.end })
      text-found x y =
          record {
            found = record {
              taken = on-text ∙ on (λ bs. succeed (text bs)) y.found.taken;
              forward = omega (arith, t.1, y.found.forward);
              inside = y.found.inside;
            };
            inside = y.inside;
            last = refl;
          }
