-- An item's entry, by what is at the item's place.
use mathlib.Core.Path.{◌≡◌, refl, sym, subst, ◌∙◌}
use mathlib.Core.List.{List, [], ◌∷◌}
use mathlib.Core.Option.{none}
use Prim.Native.Nat.{ℕ, zero, suc, ◌+◌, ◌-◌, ◌*◌, ◌/◌, ◌%◌, ◌≤◌, ◌<◌}
use native.Mathlib.Omega.{arith}
use lib.ListN.{length, take, drop}
use Rattle.lists.proofs.Many.{same_item}
use Rattle.lists.proofs.Options.{none-some}
use Rattle.lists.specs.Elements.{Every, empty, cons}
use Rattle.edition.specs.Limits.{text_bytes, instruction_count, operand_depth}
use Rattle.buffer.proofs.Parts.{length_part}
use Rattle.image_format.specs.Codes.{code_of}
use Rattle.image_format.specs.Image.{Instruction}
use Rattle.opcodes.specs.Rows.{operands_in}
use Rattle.image_items.specs.Stands.{Stands, Inside, Within, bytes_of, constant_of, instruction_of}
use Rattle.image_index.specs.Lists.{ItemOf, taker_of, FitsOf, packed, unpacked, EntryAt}
use Rattle.image_items.specs.declared.items.Text.{Text}
use Rattle.image_items.specs.declared.items.Constant.{Constant}
use Rattle.image_items.specs.declared.items.Constant.TheVariants.{Number, Text as TextRead}
use Rattle.std.specs.Prelude.{None}
use Rattle.image_index.specs.declared.indexes.Kind.{Kind}
use Rattle.image_index.specs.declared.indexes.Kind.TheVariants.{Constants, Instructions}

-- ---- of any kind

module _ (edition : ℕ) (k : Kind) (l : List ℕ) (at : ℕ) where
  -- nothing is there
  pub entry-missing : taker_of edition k (drop at l) ≡ none → EntryAt edition k l at None
  entry-missing h a t i f = none-some (sym h ∙ i)

  -- what is there doesn't fit
  pub entry-unfit : (a : ItemOf k) (end : ℕ) → Stands (taker_of edition k) l at a end → (FitsOf edition k a → ⊥)
      → EntryAt edition k l at None
  entry-unfit a end s n b t i f = n (subst (FitsOf edition k) (sym (same_item s.taken i)) f)

-- ---- constants

module _ (edition : ℕ) (l : List ℕ) where
  text-size : (t : Text) → Inside l t → length (bytes_of l t) ≡ t.end - t.start
  text-size t h = length_part t.start (t.end - t.start) l (omega (arith, h.0, h.1))

  pub number-fits : (c : Constant) → ((t : Text) → c ≡ TextRead t → ⊥) → FitsOf edition Constants (constant_of l c)
  number-fits (Number n) h = tt
  number-fits (TextRead t) h = absurd (h t refl)

  module _ (c : Constant) (w : Within l c) (t : Text) (e : c ≡ TextRead t) where
    size-of-text : length (bytes_of l t) ≡ t.end - t.start
    size-of-text = let i : Inside l t = rw e at w in text-size t i

    pub text-fits : t.end - t.start ≤ text_bytes → FitsOf edition Constants (constant_of l c)
    text-fits few =
        let f : FitsOf edition Constants (constant_of l (TextRead t)) = omega (arith, size-of-text, few) in
        subst (λ (x : Constant). FitsOf edition Constants (constant_of l x)) (sym e) f

    pub text-long : text_bytes < t.end - t.start → FitsOf edition Constants (constant_of l c) → ⊥
    text-long many f =
        let g : FitsOf edition Constants (constant_of l (TextRead t)) = rw e at f in
        omega (arith, size-of-text, g)

-- ---- instructions

module _ (edition code depth first second : ℕ) where
  abbrev here : Instruction
  here = instruction_of edition code depth first second

  pub instruction-fits : depth ≤ operand_depth → first < instruction_count → second < instruction_count → FitsOf edition Instructions here
  instruction-fits d f s = (d, by (operands_in (code_of edition code)))
    where
      by : (n : ℕ) → Every (λ v. v < instruction_count) (take n (first ∷ second ∷ []))
      by zero = empty
      by (suc zero) = cons f empty
      by (suc (suc zero)) = cons f (cons s empty)
      by (suc (suc (suc n))) = cons f (cons s empty)

  pub instruction-deep : operand_depth < depth → FitsOf edition Instructions here → ⊥
  instruction-deep h f = omega (arith, f.0)

  pub first-far : (operands_in (code_of edition code) ≡ 0 → first ≡ 0) → instruction_count ≤ first → FitsOf edition Instructions here → ⊥
  first-far plain h f = by (operands_in (code_of edition code)) plain f.1
    where
      by : (n : ℕ) → (n ≡ 0 → first ≡ 0) → Every (λ v. v < instruction_count) (take n (first ∷ second ∷ [])) → ⊥
      by zero z e = omega (arith, z refl)
      by (suc n) z (cons x e) = omega arith

  pub second-far : (operands_in (code_of edition code) ≤ 1 → second ≡ 0) → instruction_count ≤ second → FitsOf edition Instructions here → ⊥
  second-far plain h f = by (operands_in (code_of edition code)) plain f.1
    where
      by : (n : ℕ) → (n ≤ 1 → second ≡ 0) → Every (λ v. v < instruction_count) (take n (first ∷ second ∷ [])) → ⊥
      by zero z e = omega (arith, z (omega arith))
      by (suc zero) z e = omega (arith, z (omega arith))
      by (suc (suc n)) z (cons x (cons y e)) = omega arith

  -- the numbers come back out of their entry
  pub unpacked-packed : code < 64 → depth < 64 → first < instruction_count → unpacked edition (packed code depth first second) ≡ here
  unpacked-packed a b f =
      let w = packed code depth first second in
      let p : w % 64 ≡ code = omega arith in
      let m : w / 64 ≡ depth + 64 * (first + 1024 * second) = omega arith in
      let q : w / 64 % 64 ≡ depth = rw m (omega arith) in
      let o : w / 4096 ≡ first + 1024 * second = omega arith in
      let r : w / 4096 % 1024 ≡ first = rw o (omega arith) in
      let t : w / 4194304 ≡ second = omega arith in
      rw (p, q, r, t)
