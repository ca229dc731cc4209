-- Words by number: the numbers at the time of entry are those of the last list.
use mathlib.Core.Path.{◌≡◌, refl, sym, ap, ◌∙◌}
use mathlib.Core.Bool.{Bool, true, false, cond}
use mathlib.Core.List.{List, [], ◌∷◌, ◌++◌, map, append_assoc}
use Prim.Native.Nat.{ℕ, suc}
use lib.ListN.{length}
use Rattle.image_format.specs.Image.{Constant}
use Rattle.program_numbering.specs.Names.{with_new, number_of}
use Rattle.program_numbering.specs.Numbering.{same_constant}
use Rattle.program_numbering.proofs.Numbers.{constant-same}
use Rattle.program_words.specs.Words.{op_in}
use Rattle.program_entries.specs.Named.{is_named}
use Rattle.program_numberer.specs.Numbered.{with_operand, thing_at, things, numbered, numbered_from}
use Rattle.program_numberer.proofs.Lists.{new-append, number-entered}

module _ (edition : ℕ) (s : List ℕ) (what : ℕ) where
  abbrev Things : List ℕ → List Constant
  Things = things edition s what

  abbrev With : List Constant → List Constant → List Constant
  With = with_new same_constant

  pub things-append : (a b : List ℕ) → Things (a ++ b) ≡ Things a ++ Things b
  unfolding things
  things-append [] b = refl
  things-append (w ∷ a) b = go (is_named what (op_in w)) (things-append a b)
    where
      t : Constant
      t = thing_at edition s what w

      go : (x : Bool) → Things (a ++ b) ≡ Things a ++ Things b
          → cond x (t ∷ Things (a ++ b)) (Things (a ++ b)) ≡ cond x (t ∷ Things a) (Things a) ++ Things b
      go true e = ap (λ (l : List Constant). t ∷ l) e
      go false e = e

  -- the list after one word, and after more
  entered-more : (l : List Constant) (w : ℕ) (ws : List ℕ) (rest : List Constant)
      → With l (Things (w ∷ ws) ++ rest) ≡ With (With l (Things (w ∷ []))) (Things ws ++ rest)
  entered-more l w ws rest =
      ap (λ (m : List Constant). With l (m ++ rest)) (things-append (w ∷ []) ws)
      ∙ (ap (With l) (append_assoc (Things (w ∷ [])) (Things ws) rest)
      ∙ new-append same_constant (Things (w ∷ [])) (Things ws ++ rest) l)

  pub numbered-append : (a b : List ℕ) (l : List Constant)
      → numbered_from edition s what l (a ++ b)
      ≡ numbered_from edition s what l a ++ numbered_from edition s what (With l (Things a)) b
  unfolding numbered_from things with_new
  numbered-append [] b l = refl
  numbered-append (w ∷ a) b l =
      let m : List Constant = With l (Things (w ∷ [])) in
      let more : With m (Things a) ≡ With l (Things (w ∷ a)) =
      sym (ap (With l) (things-append (w ∷ []) a) ∙ new-append same_constant (Things (w ∷ [])) (Things a) l) in
      ap (λ (vs : List ℕ). numbered edition s what l w ∷ vs)
      (numbered-append a b m
      ∙ ap (λ (k : List Constant). numbered_from edition s what m a ++ numbered_from edition s what k b) more)

  pub numbered-length : (ws : List ℕ) (l : List Constant) → length (numbered_from edition s what l ws) ≡ length ws
  unfolding numbered_from
  numbered-length [] l = refl
  numbered-length (w ∷ ws) l = ap suc (numbered-length ws (With l (Things (w ∷ []))))

  -- one word, by a list that has more
  numbered-later : (l : List Constant) (w : ℕ) (m : List Constant)
      → numbered edition s what l w ≡ numbered edition s what (With l (Things (w ∷ []) ++ m)) w
  unfolding numbered things
  numbered-later l w m = go (is_named what (op_in w))
    where
      t : Constant
      t = thing_at edition s what w

      go : (x : Bool) → cond x (with_operand w (number_of same_constant l t)) w
          ≡ cond x (with_operand w (number_of same_constant (With l (cond x (t ∷ []) [] ++ m)) t)) w
      go true = ap (with_operand w) (sym (number-entered same_constant t (constant-same t) m l))
      go false = refl

  -- all words, by the last list
  pub numbered-all : (ws : List ℕ) (l rest : List Constant)
      → numbered_from edition s what l ws ≡ map (numbered edition s what (With l (Things ws ++ rest))) ws
  unfolding numbered_from
  numbered-all [] l rest = refl
  numbered-all (w ∷ ws) l rest =
      let one : List Constant = With l (Things (w ∷ [])) in
      let last : List Constant = With l (Things (w ∷ ws) ++ rest) in
      let more : With one (Things ws ++ rest) ≡ last = sym (entered-more l w ws rest) in
      let head : numbered edition s what l w ≡ numbered edition s what last w =
      numbered-later l w (Things ws ++ rest)
      ∙ ap (λ (m : List Constant). numbered edition s what m w)
      (new-append same_constant (Things (w ∷ [])) (Things ws ++ rest) l ∙ more) in
      let tail : numbered_from edition s what one ws ≡ map (numbered edition s what last) ws =
      numbered-all ws one rest ∙ ap (λ (m : List Constant). map (numbered edition s what m) ws) more in
      ap (λ (v : ℕ). v ∷ numbered_from edition s what one ws) head
      ∙ ap (λ (vs : List ℕ). numbered edition s what last w ∷ vs) tail
