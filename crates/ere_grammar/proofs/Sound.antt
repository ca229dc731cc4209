-- What the reader reads is spelled by the bytes that it takes.
-- Assumes nothing.
use mathlib.Core.Path.{◌≡◌, refl, sym, ap, subst, ◌∙◌}
use mathlib.Core.Bool.{true}
use mathlib.Core.List.{List, [], ◌∷◌, ◌++◌, append_assoc, append-nil}
use mathlib.Core.Option.{Option, some, none}
use Prim.Native.Nat.{ℕ, zero, suc}
use lib.Dec.{eqb}
use borrow.Author.Tests.{eqb-true}
use Rattle.lists.specs.Parsing.{Parsed}
use Rattle.ere_meaning.specs.Tree.{Class, Ere, place, bol, eol, star, plus, opt}
use Rattle.ere_grammar.specs.Bytes.{escape_of, is_plain}
use Rattle.ere_grammar.specs.Grammar.{alternatives, sequence, piece, atom, Spells, alternative, or, single, then, start, end, once, any_times, some_times, at_most_once, byte, escaped, dot, bracket, group}
use Rattle.ere_grammar.specs.Read.{begins, tail, escaped_byte, read_escape, read_bracket, only_byte, read_atom, and_then, or_else, Tree, Rest, finished, repeated, after_atom, after_group, after_bar, read_group, read_rest}
use Rattle.ere_grammar.proofs.Laws.{begins-one, Holds, holds-cond, holds-map}
use Rattle.ere_grammar.proofs.Bracket.{BracketRead, bracket-sound}

module _ (edition : ℕ) where
  -- ---- an atom that is no group

  abbrev AtomRead : List ℕ → Class → List ℕ → Type 0
  AtomRead t c l = (s : List ℕ) × (t ≡ s ++ l) × ((n : ℕ) → Spells edition atom n s (place c))

  escape-sound : (t : List ℕ) → Holds (AtomRead (92 ∷ t)) (only_byte (read_escape t))
  unfolding read_escape escaped_byte only_byte Holds
  escape-sound [] = tt
  escape-sound (b ∷ t) = go (escape_of b) refl
    where
      go : (o : Option ℕ) → escape_of b ≡ o → Holds (AtomRead (92 ∷ b ∷ t)) (only_byte (escaped_byte t o))
      go none e = tt
      go (some c) e = (92 ∷ b ∷ [], refl, λ n. escaped e)

  plain-sound : (b : ℕ) (t : List ℕ) → Holds (AtomRead (b ∷ t)) (read_atom b t)
  unfolding read_atom Holds
  plain-sound b t =
      holds-cond (AtomRead (b ∷ t)) (eqb b 92) _ _ (λ h. rw (eqb-true b 92 h) (escape-sound t)) (λ h₁.
      holds-cond (AtomRead (b ∷ t)) (eqb b 46) _ _ (λ h. (46 ∷ [], rw (eqb-true b 46 h), λ n. dot)) (λ h₂.
      holds-cond (AtomRead (b ∷ t)) (eqb b 91) _ _
      (λ h. holds-map (BracketRead t) (AtomRead (b ∷ t)) (read_bracket t) (λ c l g. (91 ∷ g.0, rw (eqb-true b 91 h) (ap (λ (v : List ℕ). 91 ∷ v) g.1), λ n. bracket g.2)) (bracket-sound t)) (λ h₃.
      holds-cond (AtomRead (b ∷ t)) (is_plain b) _ _ (λ h. (b ∷ [], refl, λ n. byte h)) (λ h₄. tt))))

  -- ---- what was read in this group so far

  -- the bytes of the alternatives so far, each with its bar
  unfoldable Alternatives : ℕ → Option (Ere Class) → List ℕ → Type 0
  Alternatives n none p = p ≡ []
  Alternatives n (some a) p = (q : List ℕ) × (p ≡ q ++ (124 ∷ [])) × Spells edition alternatives n q a

  -- the bytes of the sequence so far
  unfoldable Sequence : ℕ → Option (Ere Class) → List ℕ → Type 0
  Sequence n none p = p ≡ []
  Sequence n (some s) p = Spells edition sequence n p s

  abbrev Before : ℕ → Option (Ere Class) → Option (Ere Class) → List ℕ → Type 0
  Before n A S p = (q : List ℕ) × (r : List ℕ) × (p ≡ q ++ r) × Alternatives n A q × Sequence n S r

  before-all : (n : ℕ) → Before n none none []
  unfolding Alternatives Sequence
  before-all n = ([], [], refl, refl, refl)

  one_more : (n : ℕ) (S : Option (Ere Class)) (p u : List ℕ) (e : Ere Class) → Sequence n S p → Spells edition piece n u e → Spells edition sequence n (p ++ u) (and_then S e)
  unfolding Sequence
  one_more n none p u e h k = rw h (single k)
  one_more n (some s) p u e h k = then h k

  one-else : (n : ℕ) (A : Option (Ere Class)) (p u : List ℕ) (e : Ere Class) → Alternatives n A p → Spells edition sequence n u e
      → Spells edition alternatives n (p ++ u) (or_else A e)
  unfolding Alternatives
  one-else n none p u e h k = rw h (alternative k)
  one-else n (some a) p u e (q, h, w) k = rw (h, append_assoc) (or w k)

  -- ---- what is still to be shown of a reading from t on, with p read before

  abbrev pub RestRead : ℕ → List ℕ → List ℕ → Ere Class → List ℕ → Type 0
  RestRead n p t e l = (s : List ℕ) × (t ≡ s ++ l) × Spells edition alternatives n (p ++ s) e

  Sound : Rest → Type 0
  Sound rest = (n : ℕ) (A S : Option (Ere Class)) (p t : List ℕ) → Before n A S p → Holds (RestRead n p t) (rest n A S t)

  module _ (rest : Rest) (ih : Sound rest) (n : ℕ) (A S : Option (Ere Class)) (p : List ℕ) (so : Before n A S p) where
    -- one piece more, and what is after it
    piece-sound : (u t : List ℕ) (e : Ere Class) → Spells edition piece n u e → Holds (RestRead n p (u ++ t)) (rest n A (some (and_then S e)) t)
    unfolding Sound Sequence
    piece-sound u t e k =
        let (q, r, h, a, s) = so in
        holds-map (RestRead n (p ++ u) t) _ _ (λ x l g. (u ++ g.0, rw g.1 (sym (append_assoc u g.0 l)), rw append_assoc at g.2))
        (ih n A (some (and_then S e)) (p ++ u) t (q, r ++ u, rw (h, append_assoc), a, one_more n S r u e s k))

    finished-sound : (t : List ℕ) → Holds (RestRead n p t) (finished A S t)
    unfolding finished Holds Sequence
    finished-sound t = go S so.4
      where
        go : (S' : Option (Ere Class)) → Sequence n S' so.1 → Holds (RestRead n p t) (finished A S' t)
        go none h = tt
        go (some s) h = ([], refl, rw (append-nil, so.2) (one-else n A so.0 so.1 s so.3 h))

    bar-sound : (t : List ℕ) → Holds (RestRead n p (124 ∷ t)) (after_bar rest n A S t)
    unfolding after_bar Holds Sequence Alternatives Sound
    bar-sound t = go S so.4
      where
        go : (S' : Option (Ere Class)) → Sequence n S' so.1 → Holds (RestRead n p (124 ∷ t)) (after_bar rest n A S' t)
        go none h = tt
        go (some s) h =
            holds-map (RestRead n (p ++ (124 ∷ [])) t) (RestRead n p (124 ∷ t)) (rest n (some (or_else A s)) none t) (λ x l g. (124 ∷ g.0, rw g.1, rw append_assoc at g.2))
            (ih n (some (or_else A s)) none (p ++ (124 ∷ [])) t
            (p ++ (124 ∷ []), [], sym (append-nil (p ++ (124 ∷ []))), (p, refl, rw so.2 (one-else n A so.0 so.1 s so.3 h)), refl))

    repeated-sound : (u t : List ℕ) (e : Ere Class) → Spells edition atom n u e → Holds (RestRead n p (u ++ t)) (repeated rest n A S e t)
    unfolding repeated
    repeated-sound u t e k =
        holds-cond _ (begins (42 ∷ []) t) _ _ (λ h. mark 42 (star e) (any_times k) h) (λ h₁.
        holds-cond _ (begins (43 ∷ []) t) _ _ (λ h. mark 43 (plus e) (some_times k) h) (λ h₂.
        holds-cond _ (begins (63 ∷ []) t) _ _ (λ h. mark 63 (opt e) (at_most_once k) h) (λ h₃. piece-sound u t e (once k))))
      where
        mark : (b : ℕ) (x : Ere Class) → Spells edition piece n (u ++ (b ∷ [])) x → begins (b ∷ []) t ≡ true
            → Holds (RestRead n p (u ++ t)) (rest n A (some (and_then S x)) (tail t))
        mark b x w h = subst (λ (v : List ℕ). Holds (RestRead n p v) (rest n A (some (and_then S x)) (tail t)))
            (append_assoc u (b ∷ []) (tail t) ∙ ap (λ (v : List ℕ). u ++ v) (sym (begins-one b t h))) (piece-sound (u ++ (b ∷ [])) (tail t) x w)

    atom-sound : (t : List ℕ) (o : Option (Parsed Class)) → Holds (AtomRead t) o → Holds (RestRead n p t) (after_atom rest n A S o)
    unfolding Holds after_atom
    atom-sound t none h = tt
    atom-sound t (some g) (u, e, k) = rw e (repeated-sound u g.rest (place g.value) (k n))

  group-sound : (rest : Rest) → Sound rest → (n : ℕ) (A S : Option (Ere Class)) (p t : List ℕ) → Before n A S p → Holds (RestRead n p (40 ∷ t)) (read_group rest n A S t)
  unfolding read_group after_group Holds Sound
  group-sound rest ih zero A S p t so = tt
  group-sound rest ih (suc n) A S p t so = go (rest n none none t) (ih n none none [] t (before-all n))
    where
      go : (o : Tree) → Holds (RestRead n [] t) o → Holds (RestRead (suc n) p (40 ∷ t)) (after_group rest (suc n) A S o)
      go none h = tt
      go (some g) (s, e, k) =
          holds-cond (RestRead (suc n) p (40 ∷ t)) (begins (41 ∷ []) g.rest) _ _
          (λ h. subst (λ (v : List ℕ). Holds (RestRead (suc n) p (40 ∷ v)) (repeated rest (suc n) A S g.value (tail g.rest)))
          (append_assoc s (41 ∷ []) (tail g.rest) ∙ ap (λ (v : List ℕ). s ++ v) (sym (begins-one 41 g.rest h)) ∙ sym e)
          (repeated-sound rest ih (suc n) A S p so (40 ∷ (s ++ (41 ∷ []))) (tail g.rest) g.value (group k))) (λ h. tt)

  rest-sound : (turns : ℕ) → Sound (read_rest turns)
  unfolding read_rest Holds Sound
  rest-sound zero n A S p t so = tt
  rest-sound (suc turns) n A S p [] so = finished-sound (read_rest turns) (rest-sound turns) n A S p so []
  rest-sound (suc turns) n A S p (b ∷ t) so =
      holds-cond (RestRead n p (b ∷ t)) (eqb b 41) _ _ (λ h. finished-sound (read_rest turns) (rest-sound turns) n A S p so (b ∷ t)) (λ h₁.
      holds-cond (RestRead n p (b ∷ t)) (eqb b 124) _ _ (λ h. rw (eqb-true b 124 h) (bar-sound (read_rest turns) (rest-sound turns) n A S p so t)) (λ h₂.
      holds-cond (RestRead n p (b ∷ t)) (eqb b 94) _ _ (λ h. rw (eqb-true b 94 h) (piece-sound (read_rest turns) (rest-sound turns) n A S p so (94 ∷ []) t bol start)) (λ h₃.
      holds-cond (RestRead n p (b ∷ t)) (eqb b 36) _ _ (λ h. rw (eqb-true b 36 h) (piece-sound (read_rest turns) (rest-sound turns) n A S p so (36 ∷ []) t eol end)) (λ h₄.
      holds-cond (RestRead n p (b ∷ t)) (eqb b 40) _ _ (λ h. rw (eqb-true b 40 h) (group-sound (read_rest turns) (rest-sound turns) n A S p t so)) (λ h₅.
      atom-sound (read_rest turns) (rest-sound turns) n A S p so (b ∷ t) (read_atom b t) (plain-sound b t))))))

  -- a group, or the whole, from its start
  pub group-spelled : (turns n : ℕ) (t : List ℕ) → Holds (RestRead n [] t) (read_rest turns n none none t)
  unfolding Sound
  group-spelled turns n t = rest-sound turns n none none [] t (before-all n)
