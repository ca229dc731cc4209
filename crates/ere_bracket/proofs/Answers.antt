-- Laws on the class of a place: of a byte, of any byte, and of a whole bracket.
use mathlib.Core.Path.{◌≡◌, refl, sym, ap, ◌∙◌}
use mathlib.Core.Bool.{Bool, true, false, true≢false, not}
use mathlib.Core.List.{List, [], ◌∷◌}
use mathlib.Core.Option as maybe
use Prim.Native.Nat.{ℕ, ◌+◌, ◌≤◌, ◌<◌}
use native.Mathlib.Omega.{arith}
use lib.ListN.{drop}
use Rattle.std.specs.Prelude.{Option, Some, None, IfSome}
use Rattle.lists.specs.Parsing.{Parsed, parsed}
use Rattle.ere_meaning.specs.Tree.{Range, in_some, accepts, only, any_byte}
use Rattle.ere_grammar.specs.Grammar.{range}
use Rattle.ere_grammar.specs.Read.{begins, tail, Items, bracket_of, read_bracket}
use Rattle.ere_byte_set.specs.Words.{in_class, no_byte, every_byte, with_byte, with_spans, other_bytes}
use Rattle.ere_bracket.specs.Items.{items_of, worded, Ended}
use Rattle.ere_bracket.specs.Answer.{ClassRead, ClassReads}
use Rattle.ere_bracket.specs.declared.brackets.Bracket.{Bracket}
use Rattle.ere_byte_set.proofs.Laws.{bytes_one, four-none, four-spans, in-ranges, in-other, class-bit}
use Rattle.ere_bracket.proofs.Steps.{tail-drop}

-- ---- a byte, and any byte

-- the class of one byte
pub in-only : (b x : ℕ) → x < 256 → in_class (with_byte no_byte b) x ≡ accepts (only b) x
unfolding accepts with_spans
in-only b x h = ap (λ (c : List ℕ). in_class c x) (bytes_one no_byte b) ∙ in-ranges (range b b ∷ []) x h

-- the class of all bytes
pub in-any : (x : ℕ) → x < 256 → in_class every_byte x ≡ accepts any_byte x
unfolding accepts in_some
in-any x h = (class-bit no_byte x four-none h).full

-- ---- a bracket is its items, after the `^` where there is one

bracket-other : (t : List ℕ) → true ≡ begins (94 ∷ []) t → read_bracket t ≡ bracket_of true (items_of true (tail t))
unfolding begins read_bracket items_of tail
bracket-other [] e = absurd (true≢false e)
bracket-other (b ∷ t) e = rw (← e)

bracket-plain : (t : List ℕ) → false ≡ begins (94 ∷ []) t → read_bracket t ≡ bracket_of false (items_of true t)
unfolding read_bracket items_of
bracket-plain t e = rw (← e)

-- ---- items that are words

worded-none : (c : List ℕ) (i : Items) → maybe.none ≡ worded c i → i ≡ maybe.none
unfolding worded
worded-none c maybe.none e = refl
worded-none c (maybe.some g) e = let z : ◌≡◌ {A = ℕ} 0 1 = cc in absurd (omega arith)

-- the items that some words come from
record From (c w t : List ℕ) (i : Items) : Type 0 where
  ranges : List Range
  same : i ≡ parsed ranges t
  words : w ≡ with_spans c ranges

worded-some : (c w t : List ℕ) (i : Items) → parsed w t ≡ worded c i → From c w t i
unfolding worded
worded-some c w t maybe.none e = let z : ◌≡◌ {A = ℕ} 0 1 = cc in absurd (omega arith)
worded-some c w t (maybe.some g) e =
    let z : ◌≡◌ {A = Parsed (List ℕ)} (record { value = w; rest = t }) (record { value = with_spans c g.value; rest = g.rest }) = cc in
    record { ranges = g.value; same = ap (λ (x : Parsed (List ℕ)). parsed g.value x.rest) (sym z); words = ap (λ (x : Parsed (List ℕ)). x.value) z }

-- ---- the answer

-- a bracket with other words, if it was read
abbrev pub with_words : Option Bracket → List ℕ → Option Bracket
with_words None c = None
with_words (Some r) c = Some (record { next = r.next; words = c })

module _ (r : Bracket) (l : List ℕ) (from : ℕ) (w : Ended (Some r) l from (worded no_byte (items_of true (drop from l)))) where
  answer : (at : ℕ) (negated : Bool) (c : List ℕ) → at ≤ from → read_bracket (drop at l) ≡ bracket_of negated (items_of true (drop from l))
      → ((rs : List Range) → r.words ≡ with_spans no_byte rs → (b : ℕ) → b < 256 → in_class c b ≡ accepts (record { negated = negated; ranges = rs }) b)
      → ClassRead (record { next = r.next; words = c }) l at (read_bracket (drop at l))
  unfolding bracket_of
  answer at negated c h e same =
      let i = worded-some no_byte r.words (drop r.next l) (items_of true (drop from l)) w.0 in
      record {
        class = record { negated = negated; ranges = i.ranges };
        same = e ∙ ap (bracket_of negated) i.same;
        further = omega arith;
        inside = omega arith;
        bytes = same i.ranges i.words;
      }

module _ (l : List ℕ) (at : ℕ) where
  pub answer-plain : (r : Option Bracket) → Ended r l at (worded no_byte (items_of true (drop at l))) → false ≡ begins (94 ∷ []) (drop at l)
      → ClassReads r l at (read_bracket (drop at l))
  unfolding accepts bracket_of
  answer-plain None w e = bracket-plain (drop at l) e ∙ ap (bracket_of false) (worded-none no_byte (items_of true (drop at l)) w)
  answer-plain (Some r) w e =
      answer r l at w at false r.words (omega arith) (bracket-plain (drop at l) e)
      (λ rs z b h. ap (λ (c : List ℕ). in_class c b) z ∙ in-ranges rs b h)

  module _ (e : true ≡ begins (94 ∷ []) (drop at l)) where
    others : read_bracket (drop at l) ≡ bracket_of true (items_of true (drop (at + 1) l))
    others = bracket-other (drop at l) e ∙ ap (λ (t : List ℕ). bracket_of true (items_of true t)) (tail-drop at l)

    pub answer-none : Ended None l (at + 1) (worded no_byte (items_of true (drop (at + 1) l))) → ClassReads None l at (read_bracket (drop at l))
    unfolding bracket_of
    answer-none w = others ∙ ap (bracket_of true) (worded-none no_byte (items_of true (drop (at + 1) l)) w)

    answer-some : (r : Bracket) (c : List ℕ) → Ended (Some r) l (at + 1) (worded no_byte (items_of true (drop (at + 1) l))) → c ≡ other_bytes r.words
        → ClassRead (record { next = r.next; words = c }) l at (read_bracket (drop at l))
    unfolding accepts
    answer-some r c w k =
        answer r l (at + 1) w at true c (omega arith) others
        (λ rs z b h.
        ap (λ (d : List ℕ). in_class d b) (k ∙ ap other_bytes z)
        ∙ in-other (with_spans no_byte rs) b (four-spans no_byte rs four-none) h
        ∙ ap not (in-ranges rs b h))

    -- refused items, and those that were read
    pub answer-other : (r : Option Bracket) (c : List ℕ) → Ended r l (at + 1) (worded no_byte (items_of true (drop (at + 1) l)))
        → IfSome r (λ b. c ≡ other_bytes b.words) → ClassReads (with_words r c) l at (read_bracket (drop at l))
    answer-other None c w k = answer-none w
    answer-other (Some r) c w k = answer-some r c w k
