-- Laws on field entries.
use mathlib.Core.Path.{◌≡◌, refl, sym, ap, ap₂, ◌∙◌}
use mathlib.Core.List.{List, [], ◌∷◌, ◌++◌}
use Prim.Native.Nat.{ℕ, zero, suc, ◌+◌, ◌-◌, ◌*◌, ◌/◌, ◌%◌, ◌≤◌, ◌<◌, ◌^◌, min}
use native.Mathlib.Omega.{arith}
use native.Mathlib.Decide.{dec_lt}
use lib.ListN.{length, take, drop, get_or, length-append, length-drop, get_or-append, drop_of_length-le}
use lib.Seq.{get_or_at, take_all, take-nil}
use Rattle.buffer.specs.Parts.{part, put}
use Rattle.little_endian.specs.Words.{le_bytes, le_value}
use Rattle.buffer.proofs.Parts.{length_part, length-put, part-put-below}
use Rattle.little_endian.proofs.Numbers.{le-put}
use Rattle.values.specs.Value.{Value, unset}
use Rattle.run_room.specs.Layout.{entry_bytes, entries_start, record_start, base_end}
use Rattle.run_room.specs.Room.{word_at, value_by, line_of, entry_at, entries_to, Placed, Outside}
use Rattle.run_room.specs.Held.{Entered}
use Rattle.run_room.specs.declared.lines.Line.{Line}
use Rattle.run_room.specs.declared.entries.Entry.{Entry}
use Rattle.run_room.proofs.Kept.{fresh-entry}
use Rattle.run_room.proofs.Outside.{part-before, part-after, outside-put, outside-on}

-- ---- what is packed in the first word

module _ (a b c : ℕ) (ha : a < 65536) (hb : b < 65536) (hc : c < 256) where
  packed : ℕ
  packed = a + 65536 * b + 4294967296 * c

  low-is : (m : ℕ) → (a + 65536 * m) % 65536 ≡ a
  low-is m = omega arith

  next-is : (m : ℕ) → (a + 65536 * m) / 65536 ≡ m
  next-is m = omega arith

  mid-is : (b + 65536 * c) % 65536 ≡ b
  mid-is = omega arith

  pub start-in : (a + 65536 * b + 4294967296 * c) % 65536 ≡ a
  start-in =
      let z : a + 65536 * b + 4294967296 * c ≡ a + 65536 * (b + 65536 * c) = omega arith in
      ap (λ (x : ℕ). x % 65536) z ∙ low-is (b + 65536 * c)

  pub size_in : (a + 65536 * b + 4294967296 * c) / 65536 % 65536 ≡ b
  size_in =
      let z : a + 65536 * b + 4294967296 * c ≡ a + 65536 * (b + 65536 * c) = omega arith in
      ap (λ (x : ℕ). x / 65536 % 65536) z ∙ ap (λ (x : ℕ). x % 65536) (next-is (b + 65536 * c)) ∙ mid-is

  pub kind-in : (a + 65536 * b + 4294967296 * c) / 4294967296 % 256 ≡ c
  kind-in =
      let q : (d : ℕ) → d < 4294967296 → (d + 4294967296 * c) / 4294967296 ≡ c = λ d h. omega arith in
      let z : (a + 65536 * b + 4294967296 * c) / 4294967296 ≡ c = q (a + 65536 * b) (omega arith) in
      ap (λ (x : ℕ). x % 256) z ∙ (let w : c % 256 ≡ c = omega arith in w)

-- what an entry with such a first word is, whatever its number
pub entry-by : (line : List ℕ) (h a b c w : ℕ) → a < 65536 → b < 65536 → c < 256 → h ≡ a + 65536 * b + 4294967296 * c
    → value_by (h / 4294967296 % 256) w (part (h % 65536) (h / 65536 % 65536) line) ≡ value_by c w (part a b line)
entry-by line h a b c w ha hb hc f =
    let v = a + 65536 * b + 4294967296 * c in
    ap (λ (n : ℕ). value_by (n / 4294967296 % 256) w (part (n % 65536) (n / 65536 % 65536) line)) f
    ∙ ap (λ (n : ℕ). value_by n w (part (v % 65536) (v / 65536 % 65536) line)) (kind-in a b c ha hb hc)
    ∙ ap₂ (λ (n m : ℕ). value_by c w (part n m line)) (start-in a b c ha hb hc) (size_in a b c ha hb hc)

-- ---- an entry that was written: two words

module _ (x : List ℕ) (k a b c w : ℕ) (ha : a < 65536) (hb : b < 65536) (hc : c < 256) (hw : w < 2 ^ 64)
    (h : entries_start + k * entry_bytes + entry_bytes ≤ length x) {y z : List ℕ}
    (e : y ≡ put x (entries_start + k * entry_bytes) (le_bytes 8 (a + 65536 * b + 4294967296 * c)))
    (f : z ≡ put y (entries_start + k * entry_bytes + 8) (le_bytes 8 w)) where
  ly : length y ≡ length x
  ly = ap length e ∙ length-put x (entries_start + k * entry_bytes) (le_bytes 8 (a + 65536 * b + 4294967296 * c)) (let q : entries_start + k * entry_bytes + 8 ≤ length x = omega arith in q)

  pub entry-outside : Outside (entries_start + k * entry_bytes) (entries_start + k * entry_bytes + entry_bytes) x z
  entry-outside =
      outside-on (entries_start + k * entry_bytes) (entries_start + k * entry_bytes + entry_bytes) x y z
      (rw e (outside-put (entries_start + k * entry_bytes) (entries_start + k * entry_bytes + entry_bytes) x (entries_start + k * entry_bytes)
      (le_bytes 8 (a + 65536 * b + 4294967296 * c)) (omega arith) (let q : entries_start + k * entry_bytes + 8 ≤ entries_start + k * entry_bytes + entry_bytes = omega arith in q)
      (let q : entries_start + k * entry_bytes + 8 ≤ length x = omega arith in q)))
      (rw f (outside-put (entries_start + k * entry_bytes) (entries_start + k * entry_bytes + entry_bytes) y (entries_start + k * entry_bytes + 8) (le_bytes 8 w)
      (omega arith) (let q : entries_start + k * entry_bytes + 8 + 8 ≤ entries_start + k * entry_bytes + entry_bytes = omega arith in q)
      (let q : entries_start + k * entry_bytes + 8 + 8 ≤ length y = omega (arith, ly) in q)))

  pub entry_value : (line : List ℕ) → entry_at line z k ≡ value_by c w (part a b line)
  unfolding entry_at word_at
  entry_value line =
      let p = entries_start + k * entry_bytes in
      let first : le_value (part p 8 z) ≡ a + 65536 * b + 4294967296 * c =
      ap le_value (ap (part p 8) f ∙ part-put-below y (p + 8) (le_bytes 8 w) (let q : p + 8 + 8 ≤ length y = omega (arith, ly) in q) p 8 (omega arith))
      ∙ ap (λ (l : List ℕ). le_value (part p 8 l)) e
      ∙ le-put 8 (a + 65536 * b + 4294967296 * c) p x (omega arith) (omega arith) in
      let second : le_value (part (p + 8) 8 z) ≡ w =
      ap (λ (l : List ℕ). le_value (part (p + 8) 8 l)) f ∙ le-put 8 w (p + 8) y hw (omega (arith, ly)) in
      entry-by line (le_value (part p 8 z)) a b c (le_value (part (p + 8) 8 z)) ha hb hc first
      ∙ ap (λ (n : ℕ). value_by c n (part a b line)) second

pub entered : (x : List ℕ) (k : ℕ) (e : Entry) {y z : List ℕ} → e.start < 65536 → e.size < 65536 → e.kind < 256 → e.number < 2 ^ 64
    → entries_start + k * entry_bytes + entry_bytes ≤ length x
    → y ≡ put x (entries_start + k * entry_bytes) (le_bytes 8 (e.start + 65536 * e.size + 4294967296 * e.kind))
    → z ≡ put y (entries_start + k * entry_bytes + 8) (le_bytes 8 e.number) → Entered x z k e
entered x k e {y} {z} ha hb hc hw h f g =
    record {
      outside = entry-outside x k e.start e.size e.kind e.number ha hb hc hw h f g;
      value = entry_value x k e.start e.size e.kind e.number ha hb hc hw h f g;
      held = λ line. fresh-entry line z k;
    }

-- ---- the frame

module _ (a e : ℕ) {x y : List ℕ} (o : Outside a e x y) (line : List ℕ) where
  pub entry-before : (k : ℕ) → entries_start + k * entry_bytes + 16 ≤ a → entry_at line y k ≡ entry_at line x k
  unfolding entry_at word_at
  entry-before k h =
      ap₂ (λ (n w : ℕ). value_by (n / 4294967296 % 256) w (part (n % 65536) (n / 65536 % 65536) line))
      (ap le_value (part-before a e (entries_start + k * entry_bytes) 8 o (omega arith))) (ap le_value (part-before a e (entries_start + k * entry_bytes + 8) 8 o (omega arith)))

  pub entry-after : (k : ℕ) → e ≤ entries_start + k * entry_bytes → entry_at line y k ≡ entry_at line x k
  unfolding entry_at word_at
  entry-after k h =
      ap₂ (λ (n w : ℕ). value_by (n / 4294967296 % 256) w (part (n % 65536) (n / 65536 % 65536) line))
      (ap le_value (part-after a e (entries_start + k * entry_bytes) 8 o (omega arith))) (ap le_value (part-after a e (entries_start + k * entry_bytes + 8) 8 o (omega arith)))

  pub entries-before : (n : ℕ) → entries_start + n * entry_bytes ≤ a → entries_to line y n ≡ entries_to line x n
  unfolding entries_to
  entries-before zero h = refl
  entries-before (suc n) h = ap₂ (λ (l : List Value) (v : Value). l ++ (v ∷ [])) (entries-before n (omega arith)) (entry-before n (omega arith))

  pub entries-after : (n : ℕ) → e ≤ entries_start → entries_to line y n ≡ entries_to line x n
  unfolding entries_to
  entries-after zero h = refl
  entries-after (suc n) h = ap₂ (λ (l : List Value) (v : Value). l ++ (v ∷ [])) (entries-after n h) (entry-after n (omega arith))

-- ---- the list of entries

module _ (line room : List ℕ) where
  pub length-entries : (n : ℕ) → length (entries_to line room n) ≡ n
  unfolding entries_to
  length-entries zero = refl
  length-entries (suc n) = length-append (entries_to line room n) (entry_at line room n ∷ []) ∙ (let e = length-entries n in omega arith)

  pub get_d-entries : (n k : ℕ) → k < n → get_or (entries_to line room n) k unset ≡ entry_at line room k
  unfolding entries_to
  get_d-entries zero k h = absurd (omega arith)
  get_d-entries (suc n) k h =
      let e = length-entries n in
      elim (dec_lt k n) [
        | yes p ↦ get_or-append (entries_to line room n) (entry_at line room n ∷ []) unset k (omega arith) ∙ get_d-entries n k p
        | no p ↦
            (let z : length (entries_to line room n) ≡ k = omega arith in
            get_or_at (entries_to line room n) (entry_at line room n) [] unset k z ∙ (let q : n ≡ k = omega arith in ap (entry_at line room) q))
      ]

-- ---- a span that is clipped

pub clipped : (line : List ℕ) (a n : ℕ) → part (min a (length line)) (min n (length line - min a (length line))) line ≡ part a n line
unfolding part
clipped line a n =
    elim (dec_lt a (length line)) [
      | yes p ↦
          (let e : min a (length line) ≡ a = omega arith in
          ap (λ (m : ℕ). take (min n (length line - m)) (drop m line)) e ∙ short)
      | no p ↦
          (let d : drop a line ≡ [] = drop_of_length-le line {i = a} (omega arith) in
          let m : drop (min a (length line)) line ≡ [] = drop_of_length-le line {i = min a (length line)} (omega arith) in
          ap (take (min n (length line - min a (length line)))) m ∙ take-nil (min n (length line - min a (length line))) ∙ sym (ap (take n) d ∙ take-nil n))
    ]
  where
    short : take (min n (length line - a)) (drop a line) ≡ take n (drop a line)
    short =
        let l : length (drop a line) ≡ length line - a = length-drop a line in
        elim (dec_lt n (length line - a)) [
          | yes p ↦ (let e : min n (length line - a) ≡ n = omega arith in ap (λ (m : ℕ). take m (drop a line)) e)
          | no p ↦ take_all (min n (length line - a)) (drop a line) (omega arith) ∙ sym (take_all n (drop a line) (omega arith))
        ]

-- ---- an entry that is read

pub length-line : (x : List ℕ) (l : Line) → Placed l → base_end ≤ length x → length (line_of x l) ≡ l.size
unfolding line_of
length-line x l p h = length_part (record_start l.side) l.size x (omega arith)

opened : (x : List ℕ) (l : Line) (k : ℕ) → let g = word_at x (entries_start + k * entry_bytes) in
    value_by (g / 4294967296 % 256) (word_at x (entries_start + k * entry_bytes + 8)) (part (g % 65536) (g / 65536 % 65536) (line_of x l)) ≡ entry_at (line_of x l) x k
unfolding entry_at
opened x l k = refl

pub entry_read : (x : List ℕ) (l : Line) (k h w start n : ℕ) → base_end ≤ length x → Placed l → h ≡ word_at x (entries_start + k * entry_bytes)
    → w ≡ word_at x (entries_start + k * entry_bytes + 8) → start ≡ min (h % 65536) l.size → n ≡ min (h / 65536 % 65536) (l.size - start)
    → value_by (h / 4294967296 % 256) w (part start n (line_of x l)) ≡ entry_at (line_of x l) x k
entry_read x l k h w start n fits p eh ew es en =
    let line = line_of x l in
    let len : length line ≡ l.size = length-line x l p fits in
    let es' : start ≡ min (h % 65536) (length line) = omega arith in
    let en' : n ≡ min (h / 65536 % 65536) (length line - min (h % 65536) (length line)) = omega arith in
    ap (value_by (h / 4294967296 % 256) w) (ap₂ (λ (p q : ℕ). part p q line) es' en' ∙ clipped line (h % 65536) (h / 65536 % 65536))
    ∙ ap₂ (λ (p q : ℕ). value_by (p / 4294967296 % 256) q (part (p % 65536) (p / 65536 % 65536) line)) eh ew
    ∙ opened x l k
