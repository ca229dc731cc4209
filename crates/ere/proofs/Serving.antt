-- A table that serves an ERE: what is found with it is what the definition finds.
use mathlib.Core.Path.{◌≡◌, refl, sym, ap, ◌∙◌}
use mathlib.Core.Bool.{Bool, true, false, cond}
use mathlib.Core.Logic.{inl, inr}
use mathlib.Core.List.{List}
use Rattle.std.specs.Prelude.{Option, Some, None, Ok, Err}
use Prim.Native.Nat.{ℕ, ◌≤◌, ◌<◌, zero-le}
use lib.ListN.{length, get_or, drop}
use borrow.Author.Tests.{le-leb, lt-leb}
use Rattle.edition.specs.Limits.{text_bytes, ere_places}
use Rattle.edition.specs.Outcomes.{text_too_long}
use Rattle.ere_meaning.specs.Tree.{Class, accepts, Ere}
use Rattle.ere_meaning.specs.Meaning.{Leads}
use Rattle.ere_meaning.specs.Search.{best_from, best_of}
use Rattle.ere_meaning.proofs.Moving.{repeated-move, same_answer}
use Rattle.ere_table.specs.Table.{accepts_at}
use Rattle.ere_search.specs.Find.{match_of, Finds}
use Rattle.ere_exists.specs.Any.{is_match, Exists}
use Rattle.ere_search.proofs.Answers.{answer}
use Rattle.ere_parser.specs.Built.{Agrees, at_place, at_bol, at_eol, in_cat, in_alt, in_star, in_plus, in_opt}
use Rattle.ere.specs.Answer.{without, matching_of, best_matching, judged, search_of, Serves, Compiles, Bytes}
use Rattle.ere.specs.declared.matching.Refusal.TheVariants.{BadEre, LongText}

module _ (t text : List ℕ) (bytes : Bytes text) (lo hi : ℕ) where
  -- the numbered tree leads where the tree leads
  pub to-class : {n : Ere ℕ} {e : Ere Class} → Agrees t lo hi n e → (i j : ℕ) → Leads (accepts_at t) text n i j → Leads accepts text e i j
  to-class (at_place a b f) i j h = (h.0, h.1, sym (f (get_or text i 0) (bytes i h.1)) ∙ h.2)
  to-class at_bol i j h = h
  to-class at_eol i j h = h
  to-class (in_cat p q) i j h = (h.0, to-class p i h.0 h.1, to-class q h.0 j h.2)
  to-class (in_alt p q) i j (inl h) = inl (to-class p i j h)
  to-class (in_alt p q) i j (inr h) = inr (to-class q i j h)
  to-class (in_star p) i j h = repeated-move (to-class p) h
  to-class (in_plus p) i j h = (h.0, to-class p i h.0 h.1, repeated-move (to-class p) h.2)
  to-class (in_opt p) i j (inl h) = inl h
  to-class (in_opt p) i j (inr h) = inr (to-class p i j h)

  pub from-class : {n : Ere ℕ} {e : Ere Class} → Agrees t lo hi n e → (i j : ℕ) → Leads accepts text e i j → Leads (accepts_at t) text n i j
  from-class (at_place a b f) i j h = (h.0, h.1, f (get_or text i 0) (bytes i h.1) ∙ h.2)
  from-class at_bol i j h = h
  from-class at_eol i j h = h
  from-class (in_cat p q) i j h = (h.0, from-class p i h.0 h.1, from-class q h.0 j h.2)
  from-class (in_alt p q) i j (inl h) = inl (from-class p i j h)
  from-class (in_alt p q) i j (inr h) = inr (from-class q i j h)
  from-class (in_star p) i j h = repeated-move (from-class p) h
  from-class (in_plus p) i j h = (h.0, from-class p i h.0 h.1, repeated-move (from-class p) h.2)
  from-class (in_opt p) i j (inl h) = inl h
  from-class (in_opt p) i j (inr h) = inr (from-class p i j h)

-- what `find_from` finds in the rest of a text, with the table of a compiled ERE
pub serves-answer : (t rest : List ℕ) (at least : ℕ) (r : Option (ℕ × ℕ)) (e : Ere Class) (text : List ℕ) → Serves t e → Finds t rest at least r → Bytes text
    → at ≤ length text → drop at text ≡ rest → match_of r ≡ best_from accepts text e at least
serves-answer t rest at least r e text s f bytes h d =
    answer t rest at least r f s.tree text s.tabled h d
    ∙ same_answer (accepts_at t) accepts text s.tree e
    (λ i j. (to-class t text bytes 0 ere_places s.agrees i j, from-class t text bytes 0 ere_places s.agrees i j)) at least

-- what `exists` says of a text, with such a table
pub serves-exists : (t : List ℕ) (r : Bool) (e : Ere Class) (text : List ℕ) → Serves t e → Exists t text r → Bytes text → r ≡ is_match (best_of accepts text e)
unfolding best_of
serves-exists t r e text s f bytes =
    f s.tree s.tabled
    ∙ ap is_match (same_answer (accepts_at t) accepts text s.tree e
    (λ i j. (to-class t text bytes 0 ere_places s.agrees i j, from-class t text bytes 0 ere_places s.agrees i j)) 0 0)

-- ---- the answers of a search

found-case : (x : Option (ℕ × ℕ)) → matching_of (Ok x) ≡ best_matching (match_of x)
found-case (Some x) = refl
found-case None = refl

module _ (edition : ℕ) (ere text t : List ℕ) where
  pub searched-bad : Compiles edition ere t false → matching_of (Err BadEre) ≡ search_of edition ere text
  searched-bad c = ap (judged text) (sym (c.refused refl))

  pub searched-long : (c : Compiles edition ere t true) → text_bytes < length text
      → matching_of (Err LongText) ≡ search_of edition ere text
  searched-long c h =
      let r = c.read refl in
      ap (λ (b : Bool). cond b (best_matching (best_of accepts text r.0)) (without text_too_long))
      (sym (lt-leb (length text) text_bytes h))
      ∙ ap (judged text) (sym r.1)

  pub searched-found : (c : Compiles edition ere t true) → length text ≤ text_bytes → Bytes text
      → (x : Option (ℕ × ℕ)) → Finds t text 0 0 x
      → matching_of (Ok x) ≡ search_of edition ere text
  unfolding best_of
  searched-found c h bytes x f =
      let r = c.read refl in
      found-case x
      ∙ ap best_matching (serves-answer t text 0 0 x r.0 text r.2 f bytes zero-le refl)
      ∙ ap (λ (b : Bool). cond b (best_matching (best_of accepts text r.0)) (without text_too_long))
      (sym (le-leb (length text) text_bytes h))
      ∙ ap (judged text) (sym r.1)
