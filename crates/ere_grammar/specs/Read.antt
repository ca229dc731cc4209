-- Internal: cited by private contracts only. The grammar, computed: the bytes are read from the left. What a reader has
-- to believe is Grammar.antt; proofs/ shows that the two agree.
use Rattle.std.specs.Prelude.{Bool, true, false, not, cond, ◌&&◌, List, [], ◌∷◌, ℕ, zero, suc, length, eqb, leb}
use Rattle.std.proofs.Math.Option.{Option, some, none}
use Rattle.lists.specs.Elements.{one_of}
use Rattle.edition.specs.Limits.{ere_bytes, ere_places, ere_groups}
use Rattle.ere_meaning.specs.Tree.{Range, Class, only, any_byte, Ere, place, bol, eol, cat, alt, star, plus, opt, places}
use Rattle.lists.specs.Parsing.{Parsed, parsed}
use Rattle.ere_grammar.specs.Bytes.{escape_of, is_plain}
use Rattle.ere_grammar.specs.Grammar.{range}

-- the list begins with one of some bytes
unfoldable pub begins : List ℕ → List ℕ → Bool
begins bytes [] = false
begins bytes (b ∷ t) = one_of bytes b

unfoldable pub tail : List ℕ → List ℕ
tail [] = []
tail (b ∷ t) = t

-- ---- brackets

unfoldable pub escaped_byte : List ℕ → Option ℕ → Option (Parsed ℕ)
escaped_byte t none = none
escaped_byte t (some c) = parsed c t

unfoldable pub read_escape : List ℕ → Option (Parsed ℕ)
read_escape [] = none
read_escape (b ∷ t) = escaped_byte t (escape_of b)

-- one byte of a bracket
unfoldable pub read_member : List ℕ → Option (Parsed ℕ)
read_member [] = none
read_member (b ∷ t) = cond (eqb b 92) (read_escape t) (cond (eqb b 91 && begins (58 ∷ 61 ∷ 46 ∷ []) t) none (parsed b t))

-- a `-` with something after it that does not end the bracket
unfoldable pub joins : List ℕ → Bool
joins [] = false
joins (b ∷ t) = eqb b 45 && goes_on t
  where
    goes_on : List ℕ → Bool
    goes_on [] = false
    goes_on (c ∷ u) = not (eqb c 93)

abbrev pub Items : Type 0
Items = Option (Parsed (List Range))

unfoldable pub with_range : Range → Items → Items
with_range r none = none
with_range r (some g) = parsed (r ∷ g.value) g.rest

unfoldable pub last_hyphen : List ℕ → Items
last_hyphen t = cond (begins (93 ∷ []) t) (parsed (range 45 45 ∷ []) (tail t)) none

module _ (rest : List ℕ → Items) where
  unfoldable pub range_to : ℕ → Option (Parsed ℕ) → Items
  range_to a none = none
  range_to a (some g) = cond (leb a g.value) (with_range (range a g.value) (rest g.rest)) none

  unfoldable pub after_byte : Option (Parsed ℕ) → Items
  after_byte none = none
  after_byte (some g) = cond (joins g.rest) (range_to g.value (read_member (tail g.rest)))
      (with_range (range g.value g.value) (rest g.rest))

-- the items of a bracket and its end, in at most that number of turns; `first` where none is before them
unfoldable pub read_items : ℕ → Bool → List ℕ → Items
read_items zero first t = none
read_items (suc turns) first [] = none
read_items (suc turns) first (b ∷ t) =
    cond (not first && eqb b 93) (parsed [] t)
    (cond (not first && eqb b 45) (last_hyphen t) (after_byte (read_items turns false) (read_member (b ∷ t))))

unfoldable pub bracket_of : Bool → Items → Option (Parsed Class)
bracket_of negated none = none
bracket_of negated (some g) = parsed (record { negated = negated; ranges = g.value }) g.rest

-- a bracket, after its `[`
unfoldable pub read_bracket : List ℕ → Option (Parsed Class)
read_bracket t = cond (begins (94 ∷ []) t) (bracket_of true (read_items (length t) true (tail t)))
    (bracket_of false (read_items (suc (length t)) true t))

-- ---- atoms that are no groups

unfoldable pub only_byte : Option (Parsed ℕ) → Option (Parsed Class)
only_byte none = none
only_byte (some g) = parsed (only g.value) g.rest

unfoldable pub read_atom : ℕ → List ℕ → Option (Parsed Class)
read_atom b t =
    cond (eqb b 92) (only_byte (read_escape t))
    (cond (eqb b 46) (parsed any_byte t) (cond (eqb b 91) (read_bracket t) (cond (is_plain b) (parsed (only b) t) none)))

-- ---- the whole

-- the sequence so far, and one piece more; the alternatives so far, and one more
abbrev pub and_then : Option (Ere Class) → Ere Class → Ere Class
and_then none e = e
and_then (some s) e = cat s e

abbrev pub or_else : Option (Ere Class) → Ere Class → Ere Class
or_else none e = e
or_else (some a) e = alt a e

abbrev pub Tree : Type 0
Tree = Option (Parsed (Ere Class))

abbrev pub Rest : Type 0
Rest = ℕ → Option (Ere Class) → Option (Ere Class) → List ℕ → Tree

unfoldable pub finished : Option (Ere Class) → Option (Ere Class) → List ℕ → Tree
finished A none t = none
finished A (some s) t = parsed (or_else A s) t

module _ (rest : Rest) (n : ℕ) (A S : Option (Ere Class)) where
  -- the atom e, with what repeats it, and what is after
  unfoldable pub repeated : Ere Class → List ℕ → Tree
  repeated e t =
      cond (begins (42 ∷ []) t) (rest n A (some (and_then S (star e))) (tail t))
      (cond (begins (43 ∷ []) t) (rest n A (some (and_then S (plus e))) (tail t))
      (cond (begins (63 ∷ []) t) (rest n A (some (and_then S (opt e))) (tail t)) (rest n A (some (and_then S e)) t)))

  unfoldable pub after_atom : Option (Parsed Class) → Tree
  after_atom none = none
  after_atom (some g) = repeated (place g.value) g.rest

  unfoldable pub after_group : Tree → Tree
  after_group none = none
  after_group (some g) = cond (begins (41 ∷ []) g.rest) (repeated g.value (tail g.rest)) none

unfoldable pub after_bar : Rest → ℕ → Option (Ere Class) → Option (Ere Class) → List ℕ → Tree
after_bar rest n A none t = none
after_bar rest n A (some s) t = rest n (some (or_else A s)) none t

unfoldable pub read_group : Rest → ℕ → Option (Ere Class) → Option (Ere Class) → List ℕ → Tree
read_group rest zero A S t = none
read_group rest (suc n) A S t = after_group rest (suc n) A S (rest n none none t)

-- the rest of a group, with the alternatives and the sequence so far, in at most that number of turns; it ends before a
-- `)` or at the end
unfoldable pub read_rest : ℕ → Rest
read_rest zero n A S t = none
read_rest (suc turns) n A S [] = finished A S []
read_rest (suc turns) n A S (b ∷ t) =
    let bar = after_bar (read_rest turns) n A S t in
    let first = read_rest turns n A (some (and_then S bol)) t in
    let last = read_rest turns n A (some (and_then S eol)) t in
    let group = read_group (read_rest turns) n A S t in
    let atom = after_atom (read_rest turns) n A S (read_atom b t) in
    cond (eqb b 41) (finished A S (b ∷ t))
    (cond (eqb b 124) bar (cond (eqb b 94) first (cond (eqb b 36) last (cond (eqb b 40) group atom))))

unfoldable pub whole : Tree → Option (Ere Class)
whole none = none
whole (some g) = ended g.rest g.value
  where
    ended : List ℕ → Ere Class → Option (Ere Class)
    ended [] e = cond (leb (places e) ere_places) (some e) none
    ended (b ∷ t) e = none

-- the tree that the bytes spell, within the sizes
unfoldable pub read_ere : ℕ → List ℕ → Option (Ere Class)
read_ere edition bytes = cond (leb (length bytes) ere_bytes)
    (whole (read_rest (suc (length bytes)) ere_groups none none bytes)) none
