-- Laws of sets of classes as bits, and of the ranges of bytes that hold them.
use mathlib.Core.Path.{◌≡◌, refl, sym, ap, ap₂, subst, ◌∙◌}
use mathlib.Core.Bool.{Bool, true, false, not, ◌&&◌}
use mathlib.Core.List.{List}
use mathlib.Core.Logic.{◌⊎◌, inl, inr}
use Prim.Native.Nat.{ℕ, ◌+◌, ◌*◌, ◌%◌, ◌^◌, ◌≤◌, ◌<◌}
use native.Mathlib.Omega.{arith}
use lib.ListN.{length, get_or, set, length-set}
use lib.Seq.{get_or-set_same, get_or-set_other}
use lib.Bits.{bit_or}
use lib.Dec.{leb}
use borrow.Author.Tests.{eq-eqb, leb-false}
use Rattle.lists.specs.Digit.{bit}
use Rattle.lists.proofs.Digits.{bit-or, bit_shifted, bit-turned, bit-zero}
use Rattle.lists.proofs.Tests.{or-false, clash}
use Rattle.ere_table.specs.Table.{row, no_place}
use Rattle.ere_table.specs.Wiring.{stop_in}
use Rattle.ere_search.specs.Walk.{step}
use Rattle.ere_automaton.specs.Layout.{classes_at, class_in, rows_at, reach_word}
use Rattle.ere_automaton.specs.Automaton.{within, Hull}
use Rattle.ere_classes.specs.Column.{Classified}
use Rattle.ere_classes.specs.Reach.{Reaches}
use Rattle.ere_classes.specs.Bounds.{Keeps, Led, Follows, SecondsOf, Range, PutHull}
use Rattle.ere_classes.proofs.Columns.{up_to}
use Rattle.ere_classes.proofs.Framed.{frame_on, frame-wider, frame-set}

-- ---- bits

keeps-or : (out x : ℕ) → Keeps out (bit_or out x)
keeps-or out x e h f = (or-false (bit out e) (bit x e) (sym (bit-or out x e) ∙ f)).0

on_or : (out c : ℕ) → c < 64 → bit (bit_or out (1 * 2 ^ c % 2 ^ 64)) c ≡ false → ⊥
on_or out c h f =
    let g = (or-false (bit out c) (bit (1 * 2 ^ c % 2 ^ 64) c) (sym (bit-or out (1 * 2 ^ c % 2 ^ 64) c) ∙ f)).1 in
    clash (sym (bit_shifted c c h ∙ eq-eqb c c refl) ∙ g)

pub all-on : (e : ℕ) → e < 64 → bit 18446744073709551615 e ≡ false → ⊥
all-on e h f = clash (sym (bit-turned 64 0 e (omega arith) h ∙ ap not (bit-zero e)) ∙ f)

pub led-none : (t bytes s : List ℕ) (out : ℕ) → Led t bytes 0 s out out
led-none t bytes s out = record { keeps = λ e h f. f; none = λ c h. absurd (omega arith) }

-- a class that leads to something
pub led-with : (t bytes : List ℕ) (c : ℕ) (s : List ℕ) (o out : ℕ) → c < 64 → Led t bytes c s o out → Led t bytes (c + 1) s o (bit_or out (1 * 2 ^ c % 2 ^ 64))
led-with t bytes c s o out l L =
    let K = keeps-or out (1 * 2 ^ c % 2 ^ 64) in
    record {
      keeps = λ i h f. L.keeps i h (K i h f);
      none = up_to c (λ i h f. L.none i h (K i (omega arith) f)) (λ f. absurd (on_or out c l f));
    }

-- a class that leads to nothing
pub led-past : (t bytes : List ℕ) (c : ℕ) (s : List ℕ) (o out : ℕ) → step t s (get_or bytes c 0) ≡ no_place → Led t bytes c s o out → Led t bytes (c + 1) s o out
led-past t bytes c s o out e L = record { keeps = L.keeps; none = up_to c L.none (λ f. e) }

pub follows_on : {t bytes : List ℕ} {k : ℕ} {s : List ℕ} {out : ℕ} (r : ℕ) → k ≤ 64 → Keeps out r → Follows t bytes k s out → Follows t bytes k s r
follows_on r l K F = record { none = λ c h f. F.none c h (K c (omega arith) f); unended = λ c h f. F.unended c h (K c (omega arith) f) }

pub all-follow : (t bytes : List ℕ) (k : ℕ) (s : List ℕ) (out : ℕ) → k ≤ 64 → SecondsOf t bytes k s out 18446744073709551615
all-follow t bytes k s out l = record {
  keeps = λ e h f. absurd (all-on e h f);
  follows = record { none = λ c h f. absurd (all-on c (omega arith) f); unended = λ c h f. absurd (all-on c (omega arith) f) };
}

-- ---- ranges

pub within-out : (l w b : ℕ) → within l w b ≡ false → (b < l) ⊎ (l + w < b)
within-out l w b h = go (leb l b) (leb b (l + w)) refl refl h
  where
    go : (x y : Bool) → leb l b ≡ x → leb b (l + w) ≡ y → (x && y) ≡ false → (b < l) ⊎ (l + w < b)
    go false y e f g = inl (leb-false l b e)
    go true false e f g = inr (leb-false b (l + w) f)
    go true true e f g = absurd (clash g)

pub range-is : (d : List ℕ) (at x r low width : ℕ) → at + 1 < length d → r ≤ 256 → low + width < 256
    → ((b : ℕ) → b < 256 → within low width b ≡ false → bit x (class_in d b) ≡ false) → Range d at x r (set (set d at low) (at + 1) width)
range-is d at x r low width room few sum out = record {
  frame = frame_on (frame-wider (omega arith) (omega arith) (frame-set d at low)) (frame-wider (omega arith) (omega arith) (frame-set (set d at low) (at + 1) width));
  few = few;
  bytes = subst (λ (y : ℕ). y + get_or both (at + 1) 0 < 256) (sym first) (subst (λ (y : ℕ). low + y < 256) (sym second) sum);
  outside = λ b h f. out b h (ap₂ (λ (y z : ℕ). within y z b) (sym first) (sym second) ∙ f);
}
  where
    both : List ℕ
    both = set (set d at low) (at + 1) width

    first : get_or both at 0 ≡ low
    first = get_or-set_other (set d at low) (at + 1) at width 0 (omega arith) ∙ get_or-set_same d at low 0 (omega arith)

    second : get_or both (at + 1) 0 ≡ width
    second = get_or-set_same (set d at low) (at + 1) width 0 (simp length-set room)

-- classes that are kept
pub classified-on : {t bytes : List ℕ} {k : ℕ} {d : List ℕ} (d' : List ℕ) → ((b : ℕ) → b < 256 → class_in d' b ≡ class_in d b) → Classified t bytes k d → Classified t bytes k d'
classified-on {t} {bytes} {k} d' e C = record {
  few = C.few;
  is = λ b h. subst (λ (x : ℕ). x < k) (sym (e b h)) (C.is b h);
  same = λ s b h. C.same s b h ∙ ap (λ (x : ℕ). step t s (get_or bytes x 0)) (sym (e b h));
}

pub hull-on : {t d : List ℕ} (d' : List ℕ) → ((i : ℕ) → 5 ≤ i → i < 10 → get_or d' i 0 ≡ get_or d i 0)
    → reach_word d' ≡ reach_word d → Hull t d → Hull t d'
hull-on {t} {d} d' e r H = record {
  bytes = (
    subst (λ (x : ℕ). x + get_or d' 7 0 < 256) (sym six) (subst (λ (x : ℕ). get_or d 6 0 + x < 256) (sym seven) H.bytes.0),
    subst (λ (x : ℕ). x + get_or d' 9 0 < 256) (sym eight) (subst (λ (x : ℕ). get_or d 8 0 + x < 256) (sym nine) H.bytes.1),
  );
  first = λ b h f. H.first b h (ap₂ (λ (y z : ℕ). within y z b) (sym six) (sym seven) ∙ f);
  second = λ b c h l f. H.second b c h l (ap₂ (λ (y z : ℕ). within y z c) (sym eight) (sym nine) ∙ f);
  none_ends = λ b c h l f. H.none_ends b c h l (ap₂ (λ (y z : ℕ). within y z c) (sym eight) (sym nine) ∙ f);
  reach = λ n h. H.reach n (sym r ∙ h);
  fixed = λ h. H.fixed (sym (e 5 (omega arith) (omega arith)) ∙ h);
}
  where
    six : get_or d' 6 0 ≡ get_or d 6 0
    six = e 6 (omega arith) (omega arith)

    seven : get_or d' 7 0 ≡ get_or d 7 0
    seven = e 7 (omega arith) (omega arith)

    eight : get_or d' 8 0 ≡ get_or d 8 0
    eight = e 8 (omega arith) (omega arith)

    nine : get_or d' 9 0 ≡ get_or d 9 0
    nine = e 9 (omega arith) (omega arith)

module _ (t bytes : List ℕ) (k : ℕ) (d : List ℕ) (x y n m : ℕ) (d' d'' : List ℕ) (C : Classified t bytes k d)
    (L : (c : ℕ) → c < k → bit x c ≡ false → step t (row t 1) (get_or bytes c 0) ≡ no_place)
    (F : (c : ℕ) → c < k → Follows t bytes k (step t (row t 1) (get_or bytes c 0)) y)
    (R : Range d 6 x n d') (S : Range d' 8 y m d'') where
  class_of : (b : ℕ) → b < 256 → class_in d' b ≡ class_in d b
  class_of b h = R.frame.above (24 + b) (omega arith)

  -- both ranges are those of the first two bytes, and the reach is right
  module _ (v r : ℕ) (room : rows_at ≤ length d) (W : Reaches t r) (X : v ≡ 2 → row t 1 ≡ no_place) where
    abbrev last : List ℕ
    last = set (set (set d'' 5 v) 14 r) 15 0

    size_is : length last ≡ length d
    size_is =
        length-set (set (set d'' 5 v) 14 r) 15 0 ∙ length-set (set d'' 5 v) 14 r ∙ length-set d'' 5 v
        ∙ S.frame.size ∙ R.frame.size

    kept : (i : ℕ) → 6 ≤ i → (i ≡ 14 → ⊥) → (i ≡ 15 → ⊥) → get_or last i 0 ≡ get_or d'' i 0
    kept i h l m =
        get_or-set_other (set (set d'' 5 v) 14 r) 15 i 0 0 (omega arith)
        ∙ get_or-set_other (set d'' 5 v) 14 i r 0 (omega arith)
        ∙ get_or-set_other d'' 5 i v 0 (omega arith)

    six : get_or last 6 0 ≡ get_or d' 6 0
    six = kept 6 (omega arith) (omega arith) (omega arith) ∙ S.frame.below 6 (omega arith)

    seven : get_or last 7 0 ≡ get_or d' 7 0
    seven = kept 7 (omega arith) (omega arith) (omega arith) ∙ S.frame.below 7 (omega arith)

    eight : get_or last 8 0 ≡ get_or d'' 8 0
    eight = kept 8 (omega arith) (omega arith) (omega arith)

    nine : get_or last 9 0 ≡ get_or d'' 9 0
    nine = kept 9 (omega arith) (omega arith) (omega arith)

    long : rows_at ≤ length d''
    long = omega (arith, S.frame.size, R.frame.size, room)

    skips-is : get_or last 5 0 ≡ v
    skips-is =
        get_or-set_other (set (set d'' 5 v) 14 r) 15 5 0 0 (omega arith)
        ∙ get_or-set_other (set d'' 5 v) 14 5 r 0 (omega arith)
        ∙ get_or-set_same d'' 5 v 0 (omega (arith, long))

    reach-is : reach_word last ≡ r
    reach-is =
        get_or-set_other (set (set d'' 5 v) 14 r) 15 14 0 0 (omega arith)
        ∙ get_or-set_same (set d'' 5 v) 14 r 0 (simp length-set (omega (arith, long)))

    off : (c : ℕ) → c < 256 → within (get_or last 8 0) (get_or last 9 0) c ≡ false → bit y (class_in d c) ≡ false
    off c l f =
        ap (bit y) (sym (class_of c l)) ∙ S.outside c l (ap₂ (λ (u w : ℕ). within u w c) (sym eight) (sym nine) ∙ f)

    hull-is : Hull t last
    hull-is = record {
      bytes = (
        subst (λ (z : ℕ). z + get_or last 7 0 < 256) (sym six)
            (subst (λ (z : ℕ). get_or d' 6 0 + z < 256) (sym seven) R.bytes),
        subst (λ (z : ℕ). z + get_or last 9 0 < 256) (sym eight)
            (subst (λ (z : ℕ). get_or d'' 8 0 + z < 256) (sym nine) S.bytes),
      );
      first = λ b h f.
          C.same (row t 1) b h
          ∙ L (class_in d b) (C.is b h) (R.outside b h (ap₂ (λ (u w : ℕ). within u w b) (sym six) (sym seven) ∙ f));
      second = λ b c h l f.
          ap (λ (s : List ℕ). step t s c) (C.same (row t 1) b h)
          ∙ C.same (step t (row t 1) (get_or bytes (class_in d b) 0)) c l
          ∙ (F (class_in d b) (C.is b h)).none (class_in d c) (C.is c l) (off c l f);
      none_ends = λ b c h l f.
          ap (λ (s : List ℕ). stop_in s false) (C.same (row t 1) b h)
          ∙ (F (class_in d b) (C.is b h)).unended (class_in d c) (C.is c l) (off c l f);
      reach = λ n h. W n (sym reach-is ∙ h);
      fixed = λ h. X (sym skips-is ∙ h);
    }

    pub hull-put : PutHull t bytes k d last
    hull-put = record {
      size = size_is;
      classified =
          classified-on last (λ b h. kept (classes_at + b) (omega arith) (omega arith) (omega arith)
          ∙ S.frame.above (classes_at + b) (omega arith) ∙ class_of b h) C;
      hull = hull-is;
      plain = get_or-set_same (set (set d'' 5 v) 14 r) 15 0 0 (simp length-set (omega (arith, long)));
    }
