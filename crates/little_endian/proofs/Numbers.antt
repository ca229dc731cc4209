-- Laws on numbers in bytes, over the number k of bytes.
use mathlib.Core.Path.{◌≡◌, refl, sym, ap, ap₂, ◌∙◌}
use mathlib.Core.List.{List, [], ◌∷◌}
use Prim.Native.Nat.{ℕ, zero, suc, ◌+◌, ◌*◌, ◌/◌, ◌%◌, ◌^◌, ◌≤◌, ◌<◌}
use native.Mathlib.Nat.{add-suc, pow-suc}
use native.Mathlib.Numerals.{add-one}
use native.Mathlib.Omega.{arith}
use lib.ListN.{length, get_or}
use lib.Seq.{drop-cons}
use Rattle.buffer.specs.Parts.{part, put}
use Rattle.little_endian.specs.Words.{le_bytes, le_value}
use Rattle.buffer.proofs.Parts.{part-put-same}

pub length-le_bytes : (k x : ℕ) → length (le_bytes k x) ≡ k
length-le_bytes zero x = refl
length-le_bytes (suc k) x = ap suc (length-le_bytes k (x / 256))

-- a number that fits k bytes is the number that its bytes spell
pub le-round : (k x : ℕ) → x < 256 ^ k → le_value (le_bytes k x) ≡ x
le-round zero x h = omega arith
le-round (suc k) x h =
    let h' : x < 256 ^ k * 256 = rw pow-suc at h in
    let r : le_value (le_bytes k (x / 256)) ≡ x / 256 = le-round k (x / 256) (omega arith) in
    omega arith

-- a number that was written is read back
pub le-put : (k x a : ℕ) (l : List ℕ) → x < 256 ^ k → a + k ≤ length l → le_value (part a k (put l a (le_bytes k x))) ≡ x
le-put k x a l h fits =
    let e : length (le_bytes k x) ≡ k = length-le_bytes k x in
    ap (λ (n : ℕ). le_value (part a n (put l a (le_bytes k x)))) (sym e)
    ∙ ap le_value (part-put-same l a (le_bytes k x) (omega arith))
    ∙ le-round k x h

-- the number that k bytes spell fits k bytes
pub le-bound : (b : List ℕ) → ((i : ℕ) → get_or b i 0 < 256) → le_value b < 256 ^ length b
le-bound [] h = omega arith
le-bound (x ∷ b) h =
    let r : le_value b < 256 ^ length b = le-bound b (λ i. h (suc i)) in
    rw pow-suc (omega (arith, h 0))

-- bytes are the bytes of the number that they spell
pub le-back : (b : List ℕ) → ((i : ℕ) → get_or b i 0 < 256) → le_bytes (length b) (le_value b) ≡ b
le-back [] h = refl
le-back (x ∷ b) h =
    let low : (x + 256 * le_value b) % 256 ≡ x = omega (arith, h 0) in
    let high : (x + 256 * le_value b) / 256 ≡ le_value b = omega (arith, h 0) in
    ap₂ ◌∷◌ low (ap (le_bytes (length b)) high ∙ le-back b (λ i. h (suc i)))

-- the number that k bytes spell, read byte by byte from index a + i on
abbrev pub le_at : List ℕ → ℕ → ℕ → ℕ → ℕ
le_at s a i zero = 0
le_at s a i (suc k) = get_or s (a + i) 0 + 256 * le_at s a (suc i) k

-- a number's first byte, and the number above it
le-first : (k a : ℕ) (s : List ℕ) → a < length s → le_value (part a (suc k) s) ≡ get_or s a 0 + 256 * le_value (part (suc a) k s)
unfolding part
le-first k a s h = rw (drop-cons s a 0)

le-above : (k a i : ℕ) (s : List ℕ) → a + i + k ≤ length s → le_value (part (a + i) k s) ≡ le_at s a i k
unfolding part
le-above zero a i s h = refl
le-above (suc k) a i s h =
    le-first k (a + i) s (omega arith)
    ∙ ap (λ (n : ℕ). get_or s (a + i) 0 + 256 * le_value (part n k s)) (sym (add-suc a i))
    ∙ ap (λ (v : ℕ). get_or s (a + i) 0 + 256 * v) (le-above k a (suc i) s (omega arith))

-- the number in the k + 1 bytes from index a on, by its bytes
pub le-at : (k a : ℕ) (s : List ℕ) → a + suc k ≤ length s → le_value (part a (suc k) s) ≡ get_or s a 0 + 256 * le_at s a 1 k
le-at k a s h =
    le-first k a s (omega arith)
    ∙ ap (λ (n : ℕ). get_or s a 0 + 256 * le_value (part n k s)) (sym (add-one a))
    ∙ ap (λ (v : ℕ). get_or s a 0 + 256 * v) (le-above k a 1 s (omega arith))
