-- A bracket reads exactly as the grammar says.
-- Assumes nothing.
use mathlib.Core.Path.{◌≡◌, refl, sym, ap, ◌∙◌}
use mathlib.Core.Bool.{Bool, true, false, not, ◌&&◌}
use mathlib.Core.List.{List, [], ◌∷◌, ◌++◌, append_assoc}
use mathlib.Core.Option.{Option, some, none}
use Prim.Native.Nat.{ℕ, zero, suc, ◌<◌}
use native.Mathlib.Omega.{arith}
use lib.ListN.{length, length-append}
use lib.Dec.{eqb, leb}
use borrow.Author.Tests.{eqb-true, leb-true, le-leb, not-true}
use Rattle.lists.proofs.Tests.{clash, or-false, and-true, and-false}
use Rattle.lists.specs.Elements.{one_of}
use Rattle.lists.specs.Parsing.{Parsed, parsed}
use Rattle.ere_meaning.specs.Tree.{Range, Class}
use Rattle.ere_grammar.specs.Bytes.{escape_of}
use Rattle.ere_grammar.specs.Grammar.{at-end, before, Opened, other, escaped, clear, Member, itself, senses, Ends, hyphen, range, Items, done, byte, span, Bracket, taking, leaving}
use Rattle.ere_grammar.specs.Read.{begins, tail, escaped_byte, read_escape, read_member, joins, with_range, last_hyphen, range_to, after_byte, read_items, bracket_of, read_bracket}
use Rattle.ere_grammar.proofs.Laws.{not_first, not-others, begins-one, clear-begins, begins-clear, Holds, holds-cond}

-- ---- one byte

-- b was read at the front of t, and l is left
abbrev MemberRead : List ℕ → List ℕ → ℕ → List ℕ → Type 0
MemberRead barred t b l = (s : List ℕ) × (t ≡ s ++ l) × Member barred s b × ((u r : List ℕ) → l ≡ u ++ r → Opened s u)

escape-sound : (barred t : List ℕ) → Holds (MemberRead barred (92 ∷ t)) (read_escape t)
unfolding read_escape escaped_byte Holds
escape-sound barred [] = tt
escape-sound barred (b ∷ t) = go (escape_of b) refl
  where
    go : (o : Option ℕ) → escape_of b ≡ o → Holds (MemberRead barred (92 ∷ b ∷ t)) (escaped_byte t o)
    go none e = tt
    go (some c) e = (92 ∷ b ∷ [], refl, Member.escaped e, λ u r k. Opened.escaped)

member-sound : (barred t : List ℕ) → begins barred t ≡ false → Holds (MemberRead barred t) (read_member t)
unfolding read_member begins Holds one_of
member-sound barred [] h = tt
member-sound barred (b ∷ t) h =
    holds-cond _ (eqb b 92) _ _ (λ e. rw (eqb-true b 92 e) (escape-sound barred t)) (λ e.
    holds-cond _ (eqb b 91 && begins (58 ∷ 61 ∷ 46 ∷ []) t) _ _ (λ k. tt) (λ k.
    (b ∷ [], refl, itself (rw (e, h)), λ u r q. opened (eqb b 91) e refl k u r q)))
  where
    opened : (q : Bool) → eqb b 92 ≡ false → eqb b 91 ≡ q → (eqb b 91 && begins (58 ∷ 61 ∷ 46 ∷ []) t) ≡ false → (u r : List ℕ) → t ≡ u ++ r → Opened (b ∷ []) u
    opened true n e k u r p = rw (eqb-true b 91 e) (clear (begins-clear _ u r (rw (e, p) at k)))
    opened false n e k u r p = other {b = b} (rw (e, n))

-- an unescaped `[`, and one of the bytes that it may not have after it
unfoldable blocked : List ℕ → List ℕ → Bool
blocked [] r = false
blocked (b ∷ []) r = eqb b 91 && begins (58 ∷ 61 ∷ 46 ∷ []) r
blocked (b ∷ c ∷ s) r = false

opened-free : {s t : List ℕ} → Opened s t → (l : List ℕ) → blocked s (t ++ (93 ∷ l)) ≡ false
unfolding blocked begins one_of
opened-free (other {b} h) l = rw (not_first 91 (92 ∷ []) b h)
opened-free escaped l = refl
opened-free (clear c) l = clear-begins c (93 ∷ l) refl

hyphen-free : (s r : List ℕ) → blocked s (45 ∷ r) ≡ false
unfolding blocked begins one_of
hyphen-free [] r = refl
hyphen-free (b ∷ []) r = and-false (eqb b 91)
hyphen-free (b ∷ c ∷ s) r = refl

member-complete : {barred s : List ℕ} {b : ℕ} → Member barred s b → (r : List ℕ) → blocked s r ≡ false → read_member (s ++ r) ≡ parsed b r
unfolding blocked read_member read_escape escaped_byte
member-complete (itself {b} h) r k = rw (not_first 92 _ b h, k)
member-complete (escaped e) r k = rw e

member-long : {barred s : List ℕ} {b : ℕ} → Member barred s b → 0 < length s
member-long (itself h) = omega arith
member-long (escaped h) = omega arith

-- ---- the items

abbrev ItemsRead : Bool → List ℕ → List Range → List ℕ → Type 0
ItemsRead first t rs l = (s : List ℕ) × (t ≡ s ++ (93 ∷ l)) × Items first s rs

-- a `-` that begins the items that follow others is last
not-hyphen : {s : List ℕ} {b : ℕ} → Member (senses false) s b → (t : List ℕ) (c : ℕ) (u : List ℕ) → s ++ t ≡ c ∷ u → eqb c 45 ≡ false
not-hyphen (itself {b} h) t c u e =
    let k : b ≡ c = cc in rw (← k) (not_first 45 [] b (not-others 93 (45 ∷ []) b (not-others 92 (93 ∷ 45 ∷ []) b h)))
not-hyphen (escaped h) t c u e = let k : 92 ≡ c = cc in rw (← k)

hyphen-last : {s : List ℕ} {rs : List Range} → Items false s rs → (c d : ℕ) (u : List ℕ) → s ≡ c ∷ d ∷ u → eqb c 45 ≡ false
hyphen-last done c d u h = let z : ◌≡◌ {A = ℕ} 0 1 = cc in absurd (omega arith)
hyphen-last hyphen c d u h = let z : ◌≡◌ {A = ℕ} 0 1 = cc in absurd (omega arith)
hyphen-last (byte {t} m o e i) c d u h = not-hyphen m t c (d ∷ u) h
hyphen-last (span {u = w} {t} m k o l i) c d u h = not-hyphen m (45 ∷ (w ++ t)) c (d ∷ u) h

ends-sound : {s : List ℕ} {rs : List Range} → Items false s rs → (l : List ℕ) → joins (s ++ (93 ∷ l)) ≡ false → Ends s
unfolding joins one_of
ends-sound {s} i l h = go s refl
  where
    one : (c : ℕ) (q : Bool) → eqb c 45 ≡ q → Ends (c ∷ [])
    one c true e = rw (eqb-true c 45 e) hyphen
    one c false e = clear (before {b = c} (rw e))

    go : (u : List ℕ) → s ≡ u → Ends u
    go [] e = clear at-end
    go (c ∷ []) e = one c (eqb c 45) refl
    go (c ∷ d ∷ u) e = clear (before {b = c} (rw (hyphen-last i c d u e)))

module _ (rest : List ℕ → Option (Parsed (List Range))) (ih : (t : List ℕ) → Holds (ItemsRead false t) (rest t)) where
  byte-sound : (first : Bool) (s l : List ℕ) (b : ℕ) → Member (senses first) s b → ((u r : List ℕ) → l ≡ u ++ r → Opened s u) → joins l ≡ false
      → Holds (ItemsRead first (s ++ l)) (with_range (range b b) (rest l))
  unfolding Holds with_range
  byte-sound first s l b m o h = go (rest l) (ih l)
    where
      go : (x : Option (Parsed (List Range))) → Holds (ItemsRead false l) x → Holds (ItemsRead first (s ++ l)) (with_range (range b b) x)
      go none k = tt
      go (some g) k =
          (s ++ k.0, ap (λ (v : List ℕ). s ++ v) k.1 ∙ sym (append_assoc s k.0 _), byte m (o k.0 _ k.1) (ends-sound k.2 g.rest (rw k.1 at h)) k.2)

  span-sound : (first : Bool) (s l : List ℕ) (a : ℕ) → Member (senses first) s a → (o : Option (Parsed ℕ)) → Holds (MemberRead (93 ∷ []) l) o
      → Holds (ItemsRead first (s ++ (45 ∷ l))) (range_to rest a o)
  unfolding Holds with_range range_to
  span-sound first s l a m none h = tt
  span-sound first s l a m (some g) (u, e, w, o) = holds-cond _ _ _ _ (λ n. go n (rest g.rest) (ih g.rest)) (λ n. tt)
    where
      go : leb a g.value ≡ true → (x : Option (Parsed (List Range))) → Holds (ItemsRead false g.rest) x
          → Holds (ItemsRead first (s ++ (45 ∷ l))) (with_range (range a g.value) x)
      go n none k = tt
      go n (some i) k =
          (s ++ (45 ∷ (u ++ k.0)), rw (e, k.1) (simp append_assoc), span m w (o k.0 _ k.1) (leb-true a g.value n) k.2)

  joined-sound : (first : Bool) (s l : List ℕ) (a : ℕ) → Member (senses first) s a → joins l ≡ true → Holds (ItemsRead first (s ++ l)) (range_to rest a (read_member (tail l)))
  unfolding joins tail begins one_of
  joined-sound first s [] a m j = absurd (clash (sym j))
  joined-sound first s (b ∷ []) a m j = absurd (clash (sym (and-true (eqb b 45) false j).1))
  joined-sound first s (b ∷ c ∷ u) a m j =
      let k = and-true (eqb b 45) (not (eqb c 93)) j in
      let n = not-true (eqb c 93) k.1 in
      rw (eqb-true b 45 k.0) (span-sound first s (c ∷ u) a m (read_member (c ∷ u)) (member-sound (93 ∷ []) (c ∷ u) (rw n)))

  after-sound : (first : Bool) (t : List ℕ) (o : Option (Parsed ℕ)) → Holds (MemberRead (senses first) t) o → Holds (ItemsRead first t) (after_byte rest o)
  unfolding Holds after_byte
  after-sound first t none h = tt
  after-sound first t (some g) (s, e, m, o) =
      rw e (holds-cond _ (joins g.rest) _ _ (λ j. joined-sound first s g.rest g.value m j) (λ j. byte-sound first s g.rest g.value m o j))

hyphen-sound : (t : List ℕ) → Holds (ItemsRead false (45 ∷ t)) (last_hyphen t)
unfolding last_hyphen Holds
hyphen-sound t =
    holds-cond (ItemsRead false (45 ∷ t)) _ (parsed (range 45 45 ∷ []) (tail t)) none (λ k. (45 ∷ [], ap (λ (v : List ℕ). 45 ∷ v) (begins-one 93 t k), hyphen)) (λ k. tt)

items-sound : (turns : ℕ) (first : Bool) (t : List ℕ) → Holds (ItemsRead first t) (read_items turns first t)
unfolding Holds read_items one_of begins
items-sound zero first t = tt
items-sound (suc turns) first [] = tt
items-sound (suc turns) true (b ∷ t) = after-sound (read_items turns false) (λ u. items-sound turns false u) true (b ∷ t) _ (member-sound [] (b ∷ t) refl)
items-sound (suc turns) false (b ∷ t) =
    holds-cond (ItemsRead false (b ∷ t)) _ (parsed [] t) _ (λ h. ([], rw (eqb-true b 93 h), done)) (λ h.
    holds-cond (ItemsRead false (b ∷ t)) _ (last_hyphen t) _ (λ k. rw (eqb-true b 45 k) (hyphen-sound t)) (λ k.
    after-sound (read_items turns false) (λ u. items-sound turns false u) false (b ∷ t) _ (member-sound (93 ∷ 45 ∷ []) (b ∷ t) (rw (h, k)))))

-- an item's first byte, and what is after it
item-complete : (first : Bool) {s : List ℕ} {a : ℕ} → Member (senses first) s a → (turns : ℕ) (r : List ℕ) → blocked s r ≡ false
    → read_items (suc turns) first (s ++ r) ≡ after_byte (read_items turns false) (parsed a r)
unfolding read_items
item-complete true (itself {b} h) turns r k = rw (member-complete (itself {b = b} h) r k)
item-complete true (escaped h) turns r k = rw (member-complete {barred = []} (escaped h) r k)
item-complete false (itself {b} h) turns r k =
    let n = not-others 92 (93 ∷ 45 ∷ []) b h in
    rw (not_first 93 (45 ∷ []) b n, not_first 45 [] b (not-others 93 (45 ∷ []) b n), member-complete (itself {b = b} h) r k)
item-complete false (escaped h) turns r k = rw (member-complete {barred = []} (escaped h) r k)

ends-complete : {t : List ℕ} → Ends t → (l : List ℕ) → joins (t ++ (93 ∷ l)) ≡ false
unfolding joins one_of
ends-complete hyphen l = refl
ends-complete (clear at-end) l = refl
ends-complete (clear (before {b} h)) l = rw (or-false (eqb b 45) false h).0

goes_on : {u : List ℕ} {b : ℕ} → Member (93 ∷ []) u b → (r : List ℕ) → joins (45 ∷ (u ++ r)) ≡ true
unfolding joins
goes_on (itself {b} h) r = rw (not_first 93 [] b (not-others 92 (93 ∷ []) b h))
goes_on (escaped h) r = refl

items-complete : {first : Bool} {s : List ℕ} {rs : List Range} → Items first s rs → (turns : ℕ) (l : List ℕ) → length s < turns → read_items turns first (s ++ (93 ∷ l)) ≡ parsed rs l
unfolding read_items last_hyphen begins tail one_of after_byte range_to with_range
items-complete i zero l h = absurd (omega arith)
items-complete done (suc turns) l h = refl
items-complete hyphen (suc turns) l h = refl
items-complete (byte {first} {s} {t} m o e i) (suc turns) l h =
    rw (
      append_assoc,
      item-complete first m turns (t ++ (93 ∷ l)) (opened-free o l),
      ends-complete e l,
      items-complete i turns l (omega (arith, member-long m, length-append s t)),
    )
items-complete (span {first} {s} {u} {t} {a} {b} m w o n i) (suc turns) l h =
    simp append_assoc (rw (
      item-complete first m turns (45 ∷ (u ++ (t ++ (93 ∷ l)))) (hyphen-free s _),
      goes_on w (t ++ (93 ∷ l)),
      member-complete w (t ++ (93 ∷ l)) (opened-free o l),
      le-leb a b n,
      items-complete i turns l (omega (arith, length-append s (45 ∷ (u ++ t)), length-append u t)),
    ))

-- ---- the bracket, after its `[`

abbrev pub BracketRead : List ℕ → Class → List ℕ → Type 0
BracketRead t c l = (s : List ℕ) × (t ≡ s ++ l) × Bracket (91 ∷ s) c

module _ (t : List ℕ) where
  left_out : (o : Option (Parsed (List Range))) → Holds (ItemsRead true (tail t)) o → begins (94 ∷ []) t ≡ true → Holds (BracketRead t) (bracket_of true o)
  unfolding Holds bracket_of
  left_out none h k = tt
  left_out (some g) (s, e, i) k =
      (94 ∷ (s ++ (93 ∷ [])), begins-one 94 t k ∙ rw e (simp append_assoc), leaving i)

  taken : (o : Option (Parsed (List Range))) → Holds (ItemsRead true t) o → begins (94 ∷ []) t ≡ false → Holds (BracketRead t) (bracket_of false o)
  unfolding Holds bracket_of
  taken none h k = tt
  taken (some g) (s, e, i) k = (s ++ (93 ∷ []), rw e (simp append_assoc), taking (begins-clear (94 ∷ []) s _ (rw e at k)) i)

  pub bracket-sound : Holds (BracketRead t) (read_bracket t)
  unfolding read_bracket
  bracket-sound =
      holds-cond _ (begins (94 ∷ []) t) _ _ (λ k. left_out _ (items-sound (length t) true (tail t)) k) (λ k. taken _ (items-sound (suc (length t)) true t) k)

-- what comes after the `[` of a bracket
pub bracket-complete : {s : List ℕ} {c : Class} → Bracket s c → (r : List ℕ) → (t : List ℕ) × (s ++ r ≡ 91 ∷ t) × (read_bracket t ≡ parsed c r)
unfolding read_bracket begins tail bracket_of one_of
bracket-complete (taking {s} k i) r = (
  s ++ (93 ∷ r),
  simp append_assoc,
  rw (clear-begins k (93 ∷ r) refl, items-complete i (suc (length (s ++ (93 ∷ r)))) r (omega (arith, length-append s (93 ∷ r)))),
)
bracket-complete (leaving {s} i) r =
    (94 ∷ (s ++ (93 ∷ r)), simp append_assoc, rw (items-complete i (suc (length (s ++ (93 ∷ r)))) r (omega (arith, length-append s (93 ∷ r)))))
