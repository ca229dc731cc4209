-- Internal: cited by private contracts only. What the functions that read the items of a bracket answer.
use Rattle.std.specs.Prelude.{◌≡◌, Bool, false, Option, Some, None, List, ℕ, suc, ◌≤◌, ◌<◌, length, drop}
use Rattle.std.proofs.Math.Option as maybe
use Rattle.lists.specs.Parsing.{Parsed, parsed}
use Rattle.ere_grammar.specs.Read.{Items, read_items}
use Rattle.ere_byte_set.specs.Words.{with_spans}
use Rattle.ere_bracket.specs.declared.brackets.Bracket.{Bracket}
use Rattle.ere_bracket.specs.declared.brackets.Step.{Step}
use Rattle.ere_bracket.specs.declared.brackets.Step.TheVariants.{GoesOn, Closed}

-- the items that are read from t, with turns enough for any
unfoldable pub items_of : Bool → List ℕ → Items
items_of first t = read_items (suc (length t)) first t

-- items as words: the class c with their bytes
unfoldable pub worded : List ℕ → Items → maybe.Option (Parsed (List ℕ))
worded c maybe.none = maybe.none
worded c (maybe.some g) = parsed (with_spans c g.value) g.rest

-- the words that a step comes to once all of l is read
unfoldable pub leads_to : Option Step → List ℕ → maybe.Option (Parsed (List ℕ))
leads_to (Some (GoesOn b)) l = worded b.words (items_of false (drop b.next l))
leads_to (Some (Closed b)) l = parsed b.words (drop b.next l)
leads_to None l = maybe.none

-- the index after what was read lies after `at`, in the list l or at its end
abbrev pub Onward : Bracket → List ℕ → ℕ → Type 0
Onward b l at = (at < b.next) × (b.next ≤ length l)

abbrev pub Further : Option Step → List ℕ → ℕ → Type 0
Further (Some (GoesOn b)) l at = Onward b l at
Further (Some (Closed b)) l at = Onward b l at
Further None l at = Unit

-- a step from index `at` of l comes to what a definition reads there; unless it refuses, it goes on
pub record Leads (s : Option Step) (l : List ℕ) (at : ℕ) (read : maybe.Option (Parsed (List ℕ))) : Type 0 where
  pub same : leads_to s l ≡ read
  pub further : Further s l at

-- the last step, from index `at` of l, comes to what a definition reads there
abbrev pub Ended : Option Bracket → List ℕ → ℕ → maybe.Option (Parsed (List ℕ)) → Type 0
Ended (Some b) l at read = (parsed b.words (drop b.next l) ≡ read) × Onward b l at
Ended None l at read = ◌≡◌ {A = maybe.Option (Parsed (List ℕ))} maybe.none read
