-- Rooms that are the same outside of a part.
use mathlib.Core.Path.{◌≡◌, refl, sym, ap, ◌∙◌}
use mathlib.Core.List.{List}
use Prim.Native.Nat.{ℕ, ◌+◌, ◌-◌, ◌≤◌}
use native.Mathlib.Omega.{arith}
use lib.ListN.{length, take, drop}
use lib.Seq.{take-take, drop-drop}
use Rattle.buffer.specs.Parts.{part, put}
use Rattle.buffer.proofs.Parts.{length-put, part-take, take_put, drop-put-above}
use Rattle.run_room.specs.Room.{Outside}

take_less : (a b : ℕ) (x y : List ℕ) → b ≤ a → take a x ≡ take a y → take b x ≡ take b y
take_less a b x y h e = sym (take-take b a x h) ∙ ap (take b) e ∙ take-take b a y h

drop_more : (a b : ℕ) (x y : List ℕ) → a ≤ b → drop a x ≡ drop a y → drop b x ≡ drop b y
drop_more a b x y h e =
    let k : a + (b - a) ≡ b = omega arith in
    let cut : (z : List ℕ) → drop (b - a) (drop a z) ≡ drop b z = λ z. drop-drop (b - a) a z ∙ ap (λ (n : ℕ). drop n z) k in
    sym (cut x) ∙ ap (drop (b - a)) e ∙ cut y

pub outside-same : (a e : ℕ) (room : List ℕ) → Outside a e room room
outside-same a e room = record { size = refl; before = refl; after = refl }

module _ (a e : ℕ) where
  pub outside-on : (x y z : List ℕ) → Outside a e x y → Outside a e y z → Outside a e x z
  outside-on x y z f g = record { size = g.size ∙ f.size; before = g.before ∙ f.before; after = g.after ∙ f.after }

  pub outside_wider : (b f : ℕ) (x y : List ℕ) → b ≤ a → e ≤ f → Outside a e x y → Outside b f x y
  outside_wider b f x y h k o = record { size = o.size; before = take_less a b y x h o.before; after = drop_more e f y x k o.after }

  pub outside-put : (room : List ℕ) (p : ℕ) (b : List ℕ) → a ≤ p → p + length b ≤ e → p + length b ≤ length room → Outside a e room (put room p b)
  outside-put room p b h k fits =
      record {
        size = length-put room p b fits;
        before = take_less p a (put room p b) room h (take_put room p b fits);
        after = drop-put-above room p b fits e k;
      }

  -- parts that lie outside
  pub part-before : {x y : List ℕ} (i n : ℕ) → Outside a e x y → i + n ≤ a → part i n y ≡ part i n x
  part-before {x} {y} i n o h = sym (part-take i n a y h) ∙ ap (part i n) o.before ∙ part-take i n a x h

  pub part-after : {x y : List ℕ} (i n : ℕ) → Outside a e x y → e ≤ i → part i n y ≡ part i n x
  unfolding part
  part-after {x} {y} i n o h = ap (take n) (drop_more e i y x h o.after)
