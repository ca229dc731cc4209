-- The part of a text that is shown around a place, by its ends.
use mathlib.Core.Path.{◌≡◌, sym, ap, ap₂, ◌∙◌}
use mathlib.Core.List.{List, [], ◌∷◌}
use Prim.Native.Nat.{ℕ, zero, suc, ◌+◌, ◌-◌, ◌≤◌}
use native.Mathlib.Omega.{arith}
use lib.ListN.{length, take, drop, length-take, length-drop}
use lib.Seq.{take_all, take-nil, take-take, drop-drop}
use Rattle.buffer.specs.First.{first_byte}
use Rattle.buffer.specs.Parts.{part}
use Rattle.buffer.proofs.First.{first-byte-most}
use Rattle.front_places.specs.Places.{NEWLINE, newlines, since_newline, line_at, column_at, line_before, line_behind}
use Rattle.front_places.specs.Shown.{COLUMNS, columns_of, fitting, omitted, shown_before, shown_behind}
use Rattle.front_places.specs.Window.{Shows}

-- ---- parts that start at 0, and parts that go to the end

front-is : (l : List ℕ) (p : ℕ) → take (p - 0) (drop 0 l) ≡ take p l
front-is l p = ap (λ (n : ℕ). take n l) (let z : p - 0 ≡ p = omega arith in z)

rest-is : (l : List ℕ) (p : ℕ) → take (length l - p) (drop p l) ≡ drop p l
rest-is l p = take_all (length l - p) (drop p l) (simp length-drop (omega arith))

drop-take : (k n : ℕ) (l : List ℕ) → drop k (take n l) ≡ take (n - k) (drop k l)
drop-take zero n l = ap (λ (m : ℕ). take m l) (let z : n ≡ n - 0 = omega arith in z)
drop-take (suc k) zero l = ap (λ (m : ℕ). take m (drop (suc k) l)) (let z : 0 ≡ 0 - suc k = omega arith in z)
drop-take (suc k) (suc n) [] = sym (take-nil (suc n - suc k))
drop-take (suc k) (suc n) (x ∷ l) =
    drop-take k n l ∙ ap (λ (m : ℕ). take m (drop k l)) (let z : n - k ≡ suc n - suc k = omega arith in z)

pub line-is : (text : List ℕ) (place r : ℕ) → r ≡ newlines (take (place - 0) (drop 0 text)) → 1 + r ≡ line_at text place
unfolding line_at
line-is text place r e = ap (λ (n : ℕ). 1 + n) e ∙ ap (λ (l : List ℕ). 1 + newlines l) (front-is text place)

pub column-is : (text : List ℕ) (place r : ℕ) → r ≡ since_newline 0 (take (place - 0) (drop 0 text)) → 1 + r ≡ column_at text place
unfolding column_at
column-is text place r e = ap (λ (n : ℕ). 1 + n) e ∙ ap (λ (l : List ℕ). 1 + since_newline 0 l) (front-is text place)

-- the bytes since the newline are some of those before the place
pub since-few : (text : List ℕ) (place r : ℕ) → r ≤ length (take (place - 0) (drop 0 text)) → r ≤ place
since-few text place r h = omega (arith, h, length-take (place - 0) (drop 0 text))

-- the bytes up to the next newline are some of those after the place
pub left-few : (text : List ℕ) (place r : ℕ) → place ≤ length text
    → r ≡ first_byte NEWLINE (take (length text - place) (drop place text)) → place + r ≤ length text
left-few text place r h e =
    omega (
      arith,
      e,
      first-byte-most NEWLINE (take (length text - place) (drop place text)),
      length-take (length text - place) (drop place text),
    )

-- how long a part is
pub part-few : (text : List ℕ) (n p : ℕ) → length (take n (drop p text)) ≤ n
part-few text n p = omega (arith, length-take n (drop p text))

module _ (text : List ℕ) (place since left : ℕ) (few : since ≤ place)
    (e : since ≡ since_newline 0 (take (place - 0) (drop 0 text)))
    (f : left ≡ first_byte NEWLINE (take (length text - place) (drop place text))) where
  before-is : take (place - (place - since)) (drop (place - since) text) ≡ line_before text place
  unfolding line_before part
  before-is =
      let s : since ≡ since_newline 0 (take place text) = e ∙ ap (since_newline 0) (front-is text place) in
      let z : place - (place - since) ≡ since = omega arith in
      ap (λ (n : ℕ). take n (drop (place - since) text)) z ∙ ap (λ (n : ℕ). take n (drop (place - n) text)) s

  behind-is : take (place + left - place) (drop place text) ≡ line_behind text place
  unfolding line_behind part
  behind-is =
      let s : left ≡ first_byte NEWLINE (drop place text) = f ∙ ap (first_byte NEWLINE) (rest-is text place) in
      let z : place + left - place ≡ left = omega arith in
      ap (λ (n : ℕ). take n (drop place text)) (z ∙ s)

  module _ (out : ℕ)
      (g : out ≡ omitted (take (place - (place - since)) (drop (place - since) text)) (take (place + left - place) (drop place text))) where
    abbrev from : ℕ
    from = place - since + out

    shown-before : take (place - from) (drop from text) ≡ shown_before text place
    unfolding shown_before
    shown-before =
        let s : out ≡ omitted (line_before text place) (line_behind text place) = g ∙ ap₂ omitted before-is behind-is in
        let z : place - from ≡ place - (place - since) - out = omega arith in
        ap₂ take z (sym (drop-drop out (place - since) text))
        ∙ sym (drop-take out (place - (place - since)) (drop (place - since) text))
        ∙ ap₂ drop s before-is

    pub shows-by : (fits : ℕ) → out ≤ length (take (place - (place - since)) (drop (place - since) text))
        → fits ≡ fitting (COLUMNS - columns_of (take (place - from) (drop from text))) (take (place + left - place) (drop place text))
        → fits ≤ length (take (place + left - place) (drop place text)) → place ≤ length text
        → Shows text place (record { from = from; to = place + fits })
    unfolding part shown_behind
    shows-by fits h k m inside = record {
      start = omega (arith, h, length-take (place - (place - since)) (drop (place - since) text));
      stop = omega arith;
      inside = omega (arith, m, left-few text place left inside f, length-take (place + left - place) (drop place text));
      before = shown-before;
      behind = behind;
    }
      where
        behind : take (place + fits - place) (drop place text) ≡ shown_behind text place
        behind =
            let z : place + fits - place ≡ fits = omega arith in
            let c : fits ≤ place + left - place = omega (arith, m, length-take (place + left - place) (drop place text)) in
            ap (λ (n : ℕ). take n (drop place text)) z
            ∙ sym (take-take fits (place + left - place) (drop place text) c)
            ∙ ap₂ take (k ∙ ap₂ (λ (x y : List ℕ). fitting (COLUMNS - columns_of x) y) shown-before behind-is) behind-is
