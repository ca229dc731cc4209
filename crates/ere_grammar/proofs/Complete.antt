-- What the bytes spell is what the reader reads.
-- Assumes nothing.
use mathlib.Core.Path.{◌≡◌, refl, sym, ap, subst, ◌∙◌}
use mathlib.Core.Bool.{Bool, true, false}
use mathlib.Core.List.{List, [], ◌∷◌, ◌++◌, append_assoc, append-nil}
use mathlib.Core.Option.{Option, some, none}
use Prim.Native.Nat.{ℕ, zero, suc, ◌≤◌, ◌<◌}
use native.Mathlib.Omega.{arith}
use lib.ListN.{length, length-append}
use lib.Dec.{eqb}
use borrow.Author.Tests.{eqb-true}
use Rattle.lists.proofs.Tests.{clash, or-false}
use Rattle.lists.specs.Elements.{one_of}
use Rattle.lists.specs.Parsing.{parsed}
use Rattle.ere_meaning.specs.Tree.{Class, only, any_byte, Ere, place, cat, alt, star, plus, opt}
use Rattle.ere_grammar.specs.Bytes.{escape_of, is_plain}
use Rattle.ere_grammar.specs.Grammar.{Bracket, Part, alternatives, sequence, piece, atom, Spells, alternative, or, single, then, start, end, once, any_times, some_times, at_most_once, byte, escaped, dot, bracket, group}
use Rattle.ere_grammar.specs.Read.{begins, tail, escaped_byte, read_escape, only_byte, read_atom, and_then, or_else, Rest, finished, repeated, after_atom, after_group, after_bar, read_group, read_rest}
use Rattle.ere_grammar.proofs.Bracket.{bracket-complete}

-- ---- plain bytes

plain-not : (x b : ℕ) → is_plain x ≡ false → is_plain b ≡ true → eqb b x ≡ false
plain-not x b h k = go (eqb b x) refl
  where
    go : (q : Bool) → eqb b x ≡ q → q ≡ false
    go true e = absurd (clash (sym k ∙ ap is_plain (eqb-true b x e) ∙ h))
    go false e = refl

-- ---- how a reading goes on

-- none of `* + ?` comes next
abbrev Unmarked : List ℕ → Type 0
Unmarked r = begins (42 ∷ 43 ∷ 63 ∷ []) r ≡ false

module _ (edition : ℕ) where
  -- What a part's bytes s do to a reading that has r after them: an atom is handed on to what may repeat it; a piece
  -- goes to the sequence so far, in one turn; a sequence is all of the sequence; alternatives leave the last of them to
  -- be joined to the others.
  unfoldable Complete : Part → ℕ → List ℕ → Ere Class → Type 0
  Complete atom n s e =
      (0 < length s) × ((r : List ℕ) → Unmarked (s ++ r))
      × ((A S : Option (Ere Class)) (turns : ℕ) (r : List ℕ) → length (s ++ r) ≤ turns → read_rest (suc turns) n A S (s ++ r) ≡ repeated (read_rest turns) n A S e r)
  Complete piece n s e =
      (0 < length s) × ((r : List ℕ) → Unmarked (s ++ r))
      × ((A S : Option (Ere Class)) (turns : ℕ) (r : List ℕ) → Unmarked r → length (s ++ r) ≤ turns
      → read_rest (suc turns) n A S (s ++ r) ≡ read_rest turns n A (some (and_then S e)) r)
  Complete sequence n s e =
      (A : Option (Ere Class)) (turns : ℕ) (r : List ℕ) → Unmarked r → length (s ++ r) < turns
      → (k : ℕ) × (length r < k) × (read_rest turns n A none (s ++ r) ≡ read_rest k n A (some e) r)
  Complete alternatives n s e =
      (turns : ℕ) (r : List ℕ) → Unmarked r → length (s ++ r) < turns
      → (A : Option (Ere Class)) × (S : Ere Class) × (k : ℕ) × (or_else A S ≡ e) × (length r < k) × (read_rest turns n none none (s ++ r) ≡ read_rest k n A (some S) r)

  repeated-none : (rest : Rest) (n : ℕ) (A S : Option (Ere Class)) (e : Ere Class) (r : List ℕ) → Unmarked r → repeated rest n A S e r ≡ rest n A (some (and_then S e)) r
  unfolding repeated begins one_of
  repeated-none rest n A S e [] h = refl
  repeated-none rest n A S e (b ∷ r) h =
      let h₁ = or-false (eqb b 42) _ h in
      let h₂ = or-false (eqb b 43) _ h₁.1 in
      rw (h₁.0, h₂.0, (or-false (eqb b 63) false h₂.1).0)

  read-bar : (k n : ℕ) (A : Option (Ere Class)) (s : Ere Class) (r : List ℕ) (a : Ere Class) → or_else A s ≡ a
      → read_rest (suc k) n A (some s) (124 ∷ r) ≡ read_rest k n (some a) none r
  unfolding read_rest after_bar
  read-bar k n A s r a o = rw o

  -- ---- atoms

  byte-complete : (n b : ℕ) → is_plain b ≡ true → Complete atom n (b ∷ []) (place (only b))
  unfolding Complete read_rest read_atom after_atom begins is_plain one_of
  byte-complete n b h =
      let no : (x : ℕ) → is_plain x ≡ false → eqb b x ≡ false = λ x k. plain-not x b k h in (
        omega arith,
        λ r. rw (no 42 refl, no 43 refl, no 63 refl),
        λ A S turns r l. rw (h, no 41 refl, no 124 refl, no 94 refl, no 36 refl, no 40 refl, no 92 refl, no 46 refl, no 91 refl),
      )

  escaped-complete : (n b c : ℕ) → escape_of b ≡ some c → Complete atom n (92 ∷ b ∷ []) (place (only c))
  unfolding Complete read_rest read_atom after_atom begins one_of read_escape escaped_byte only_byte
  escaped-complete n b c h = (omega arith, λ r. refl, λ A S turns r l. rw h)

  dot-complete : (n : ℕ) → Complete atom n (46 ∷ []) (place any_byte)
  unfolding Complete read_rest read_atom after_atom begins one_of
  dot-complete n = (omega arith, λ r. refl, λ A S turns r l. refl)

  class-complete : (n : ℕ) {s : List ℕ} {c : Class} → Bracket s c → Complete atom n s (place c)
  unfolding Complete read_rest read_atom after_atom begins one_of
  class-complete n {s} {c} d = (
    let (t, e, q) = bracket-complete d [] in omega (arith, length-append s [], ap length e),
    λ r. let (t, e, q) = bracket-complete d r in rw e,
    λ A S turns r l. let (t, e, q) = bracket-complete d r in rw (e, q),
  )

  -- a `)`, and the end
  read-close : (k n : ℕ) (A : Option (Ere Class)) (s : Ere Class) (r : List ℕ) → length (41 ∷ r) < k → read_rest k n A (some s) (41 ∷ r) ≡ parsed (or_else A s) (41 ∷ r)
  unfolding read_rest finished
  read-close zero n A s r h = absurd (omega arith)
  read-close (suc k) n A s r h = refl

  read-end : (k n : ℕ) (A : Option (Ere Class)) (s : Ere Class) → 0 < k → read_rest k n A (some s) [] ≡ parsed (or_else A s) []
  unfolding read_rest finished
  read-end zero n A s h = absurd (omega arith)
  read-end (suc k) n A s h = refl

  group-complete : (n : ℕ) (s : List ℕ) (e : Ere Class) → Complete alternatives n s e → Complete atom (suc n) (40 ∷ (s ++ (41 ∷ []))) e
  unfolding Complete read_rest read_group after_group begins one_of tail
  group-complete n s e d = (
    omega arith,
    λ r. refl,
    λ A S turns r l.
        let (A', S', k, o, m, q) = d turns (41 ∷ r) refl (omega (arith, ap length (append_assoc s (41 ∷ []) r))) in
        rw (append_assoc, q, read-close k n A' S' r m, o),
  )

  -- ---- pieces

  piece-complete : (n : ℕ) (s : List ℕ) (e : Ere Class) → Complete atom n s e → Complete piece n s e
  unfolding Complete
  piece-complete n s e (p, u, f) = (p, u, λ A S turns r h l. f A S turns r l ∙ repeated-none (read_rest turns) n A S e r h)

  -- an atom, and the mark b that makes it x
  marked-complete : (n : ℕ) (s : List ℕ) (e x : Ere Class) (b : ℕ) → Complete atom n s e
      → ((rest : Rest) (A S : Option (Ere Class)) (r : List ℕ) → repeated rest n A S e (b ∷ r) ≡ rest n A (some (and_then S x)) r) → Complete piece n (s ++ (b ∷ [])) x
  unfolding Complete
  marked-complete n s e x b (p, u, f) g = (
    omega (arith, length-append s (b ∷ [])),
    λ r. rw append_assoc (u (b ∷ r)),
    λ A S turns r h l.
        rw append_assoc (f A S turns (b ∷ r) (omega (arith, ap length (append_assoc s (b ∷ []) r))) ∙ g (read_rest turns) A S r),
  )

  -- ---- sequences and alternatives

  single-complete : (n : ℕ) (s : List ℕ) (e : Ere Class) → Complete piece n s e → Complete sequence n s e
  unfolding Complete
  single-complete n s e (p, u, f) A zero r h l = absurd (omega arith)
  single-complete n s e (p, u, f) A (suc turns) r h l = (turns, omega (arith, length-append s r), f A none turns r h (omega arith))

  then-complete : (n : ℕ) (s t : List ℕ) (a b : Ere Class) → Complete sequence n s a → Complete piece n t b → Complete sequence n (s ++ t) (cat a b)
  unfolding Complete
  then-complete n s t a b d (p, u, f) A turns r h l =
      let (k, m, q) = d A turns (t ++ r) (u r) (omega (arith, ap length (append_assoc s t r))) in
      rw append_assoc (go k m q)
    where
      go : (k : ℕ) → length (t ++ r) < k → read_rest turns n A none (s ++ (t ++ r)) ≡ read_rest k n A (some a) (t ++ r)
          → (j : ℕ) × (length r < j) × (read_rest turns n A none (s ++ (t ++ r)) ≡ read_rest j n A (some (cat a b)) r)
      go zero m q = absurd (omega arith)
      go (suc k) m q = (k, omega (arith, length-append t r), q ∙ f A (some a) k r h (omega arith))

  or-complete : (n : ℕ) (s t : List ℕ) (a b : Ere Class) → Complete alternatives n s a → Complete sequence n t b → Complete alternatives n (s ++ (124 ∷ t)) (alt a b)
  unfolding Complete begins one_of
  or-complete n s t a b d f turns r h l =
      let (A, S, k, o, m, q) = d turns (124 ∷ (t ++ r)) refl (omega (arith, ap length (append_assoc s (124 ∷ t) r))) in
      rw append_assoc (go A S k o m q)
    where
      go : (A : Option (Ere Class)) (S : Ere Class) (k : ℕ) → or_else A S ≡ a → length (124 ∷ (t ++ r)) < k
          → read_rest turns n none none (s ++ (124 ∷ (t ++ r))) ≡ read_rest k n A (some S) (124 ∷ (t ++ r))
          → (B : Option (Ere Class)) × (T : Ere Class) × (j : ℕ) × (or_else B T ≡ alt a b) × (length r < j) × (read_rest turns n none none (s ++ (124 ∷ (t ++ r))) ≡ read_rest j n B (some T) r)
      go A S zero o m q = absurd (omega arith)
      go A S (suc k) o m q = let (j, i, w) = f (some a) k r h (omega arith) in (some a, b, j, refl, i, q ∙ read-bar k n A S (t ++ r) a o ∙ w)

  complete : {part : Part} {n : ℕ} {s : List ℕ} {e : Ere Class} → Spells edition part n s e → Complete part n s e
  unfolding Complete read_rest repeated begins tail one_of
  complete (alternative {e} d) = λ turns r u h. let (k, l, q) = complete d none turns r u h in (none, e, k, refl, l, q)
  complete (or {n} {s} {t} {a} {b} d d₂) = or-complete n s t a b (complete d) (complete d₂)
  complete (single {n} {s} {e} d) = single-complete n s e (complete d)
  complete (then {n} {s} {t} {a} {b} d d₂) = then-complete n s t a b (complete d) (complete d₂)
  complete start = (omega arith, λ r. refl, λ A S turns r u h. refl)
  complete end = (omega arith, λ r. refl, λ A S turns r u h. refl)
  complete (once {n} {s} {e} d) = piece-complete n s e (complete d)
  complete (any_times {n} {s} {e} d) = marked-complete n s e (star e) 42 (complete d) (λ rest A S r. refl)
  complete (some_times {n} {s} {e} d) = marked-complete n s e (plus e) 43 (complete d) (λ rest A S r. refl)
  complete (at_most_once {n} {s} {e} d) = marked-complete n s e (opt e) 63 (complete d) (λ rest A S r. refl)
  complete (byte {n} {b} h) = byte-complete n b h
  complete (escaped {n} {b} {c} h) = escaped-complete n b c h
  complete (dot {n}) = dot-complete n
  complete (bracket {n} d) = class-complete n d
  complete (group {n} {s} {e} d) = group-complete n s e (complete d)

  -- the whole, in any number of turns that is enough
  pub whole-complete : {n : ℕ} {s : List ℕ} {e : Ere Class} → Spells edition alternatives n s e → (turns : ℕ) → length s < turns → read_rest turns n none none s ≡ parsed e []
  unfolding Complete begins
  whole-complete {n} {s} {e} d turns h =
      let (A, S, k, o, m, q) = complete d turns [] refl (omega (arith, length-append s [])) in
      subst (λ (t : List ℕ). read_rest turns n none none t ≡ parsed e []) (append-nil s) (q ∙ read-end k n A S m ∙ ap (λ (x : Ere Class). parsed x []) o)
