-- A step of two sets together is that of each, together.
use Rattle.std.proofs.Common.{◌≡◌, ℕ, zero, suc, ◌+◌, ◌*◌, ◌/◌, ◌%◌, ◌≤◌, max, Bool, true, false, cond, ◌||◌, List, [], ◌∷◌, get_or, sym, refl, ap, ◌∙◌, ap₂, le_refl, arith}
use lib.Bits.{bit_or, or_step, or_zero_l, or_comm, or_self}
use Rattle.lists.specs.Digit.{bit}
use Rattle.lists.proofs.Digits.{bit-or}
use Rattle.ere_table.specs.Table.{row, join, no_place, accepts_at}
use Rattle.ere_search.specs.Walk.{step_word, put, step}

-- ---- words

assoc-to : (n a b c : ℕ) → a ≤ n → bit_or (bit_or a b) c ≡ bit_or a (bit_or b c)
assoc-to zero a b c h =
    let z : a ≡ 0 = omega arith in
    ap (λ (x : ℕ). bit_or (bit_or x b) c) z
    ∙ ap (λ (x : ℕ). bit_or x c) (or_zero_l b)
    ∙ sym (or_zero_l (bit_or b c))
    ∙ ap (λ (x : ℕ). bit_or x (bit_or b c)) (sym z)
assoc-to (suc n) a b c h =
    let p : bit_or a b / 2 ≡ bit_or (a / 2) (b / 2) = omega (arith, or_step a b) in
    let p' : bit_or a b % 2 ≡ max (a % 2) (b % 2) = omega (arith, or_step a b) in
    let q : bit_or b c / 2 ≡ bit_or (b / 2) (c / 2) = omega (arith, or_step b c) in
    let q' : bit_or b c % 2 ≡ max (b % 2) (c % 2) = omega (arith, or_step b c) in
    let same = assoc-to n (a / 2) (b / 2) (c / 2) (omega arith) in
    let e : max (bit_or a b % 2) (c % 2) ≡ max (a % 2) (bit_or b c % 2) = omega arith in
    or_step (bit_or a b) c
    ∙ ap₂ (λ (x y : ℕ). x * 2 + y) (ap (λ (x : ℕ). bit_or x (c / 2)) p ∙ same ∙ ap (bit_or (a / 2)) (sym q)) e
    ∙ sym (or_step a (bit_or b c))

or_assoc : (a b c : ℕ) → bit_or (bit_or a b) c ≡ bit_or a (bit_or b c)
or_assoc a b c = assoc-to a a b c (le_refl a)

word-left : (o p r : ℕ) → bit_or (bit_or o r) p ≡ bit_or (bit_or o p) r
word-left o p r = or_assoc o r p ∙ ap (bit_or o) (or_comm r p) ∙ sym (or_assoc o p r)

word-right : (o p r : ℕ) → bit_or o (bit_or p r) ≡ bit_or (bit_or o p) r
word-right o p r = sym (or_assoc o p r)

word-both : (o p r : ℕ) → bit_or (bit_or o r) (bit_or p r) ≡ bit_or (bit_or o p) r
word-both o p r =
    sym (or_assoc (bit_or o r) p r)
    ∙ ap (λ (x : ℕ). bit_or x r) (word-left o p r)
    ∙ or_assoc (bit_or o p) r r
    ∙ ap (bit_or (bit_or o p)) (or_self r)

-- ---- sets

pub three : {a b c x y z : ℕ} → a ≡ x → b ≡ y → c ≡ z → ◌≡◌ {A = List ℕ} (a ∷ b ∷ c ∷ []) (x ∷ y ∷ z ∷ [])
three p q r = cc

join-left : (o p r : List ℕ) → join (join o r) p ≡ join (join o p) r
join-left o p r =
    three (word-left (get_or o 0 0) (get_or p 0 0) _) (word-left (get_or o 1 0) (get_or p 1 0) _)
    (word-left (get_or o 2 0) (get_or p 2 0) _)

pub join-right : (o p r : List ℕ) → join o (join p r) ≡ join (join o p) r
join-right o p r =
    three (word-right (get_or o 0 0) (get_or p 0 0) _) (word-right (get_or o 1 0) (get_or p 1 0) _)
    (word-right (get_or o 2 0) (get_or p 2 0) _)

join-both : (o p r : List ℕ) → join (join o r) (join p r) ≡ join (join o p) r
join-both o p r =
    three (word-both (get_or o 0 0) (get_or p 0 0) _) (word-both (get_or o 1 0) (get_or p 1 0) _)
    (word-both (get_or o 2 0) (get_or p 2 0) _)

pub join-comm : (o p : List ℕ) → join o p ≡ join p o
join-comm o p =
    three (or_comm (get_or o 0 0) (get_or p 0 0)) (or_comm (get_or o 1 0) (get_or p 1 0)) (or_comm (get_or o 2 0) (get_or p 2 0))

-- the same again
pub join-self : (o p : List ℕ) → join p (join o o) ≡ join p o
join-self o p =
    ap (join p) (three (or_self (get_or o 0 0)) (or_self (get_or o 1 0)) (or_self (get_or o 2 0)))

-- nothing more
pub join-none : (r : List ℕ) → join no_place r ≡ get_or r 0 0 ∷ get_or r 1 0 ∷ get_or r 2 0 ∷ []
join-none r = three (or_zero_l _) (or_zero_l _) (or_zero_l _)

pub join-nothing : (o r : List ℕ) → join (join no_place o) r ≡ join o r
join-nothing o r = ap (λ (l : List ℕ). join l r) (join-none o)

-- ---- steps

one : (c d a : Bool) (o p r : List ℕ)
    → cond (c || d) (cond a (join (join o p) r) (join o p)) (join o p)
    ≡ join (cond c (cond a (join o r) o) o) (cond d (cond a (join p r) p) p)
one true true true o p r = sym (join-both o p r)
one true true false o p r = refl
one true false true o p r = sym (join-left o p r)
one true false false o p r = refl
one false true true o p r = sym (join-right o p r)
one false true false o p r = refl
one false false a o p r = refl

word-join : (t : List ℕ) (b x y w : ℕ) (o p : List ℕ) (n : ℕ)
    → step_word t b (bit_or x y) w (join o p) n ≡ join (step_word t b x w o n) (step_word t b y w p n)
unfolding step_word
word-join t b x y w o p zero = refl
word-join t b x y w o p (suc n) =
    ap₂ (λ (c : Bool) (out : List ℕ). cond c (put t out b (64 * w + n)) out) (bit-or x y n) (word-join t b x y w o p n)
    ∙ one (bit x n) (bit y n) (accepts_at t (64 * w + n) b) (step_word t b x w o n) (step_word t b y w p n)
    (row t (64 * w + n + 2))

pub step-join : (t u v : List ℕ) (b : ℕ) → step t (join u v) b ≡ join (step t u b) (step t v b)
step-join t u v b =
    let none : no_place ≡ join no_place no_place = sym (join-none no_place) in
    ap (λ (o : List ℕ). step_word t b (bit_or (get_or u 1 0) (get_or v 1 0)) 1 o 64)
    (ap (λ (o : List ℕ). step_word t b (bit_or (get_or u 0 0) (get_or v 0 0)) 0 o 64) none
    ∙ word-join t b (get_or u 0 0) (get_or v 0 0) 0 no_place no_place 64)
    ∙ word-join t b (get_or u 1 0) (get_or v 1 0) 1 (step_word t b (get_or u 0 0) 0 no_place 64)
    (step_word t b (get_or v 0 0) 0 no_place 64) 64
