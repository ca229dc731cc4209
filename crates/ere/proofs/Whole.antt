-- From what was read up to a group's end to the whole ERE.
use mathlib.Core.Path.{◌≡◌, refl, sym, ap, ◌∙◌}
use mathlib.Core.Bool.{Bool, true, false, true≢false, cond}
use mathlib.Core.List.{List, [], ◌∷◌}
use mathlib.Core.Option.{some, none}
use Prim.Native.Nat.{ℕ, suc, ◌+◌, ◌≤◌, ◌<◌}
use native.Mathlib.Omega.{arith}
use lib.ListN.{length, get_or, drop}
use borrow.Author.Tests.{le-leb, lt-leb}
use Rattle.lists.specs.Parsing.{parsed}
use Rattle.edition.specs.Limits.{ere_places, ere_bytes, ere_groups}
use Rattle.ere_meaning.specs.Tree.{Class, Ere, places}
use Rattle.ere_grammar.specs.Read.{read_rest, whole, read_ere}
use Rattle.ere_table.specs.Table.{table_words}
use Rattle.ere_table.proofs.Tables.{finished, finished-class, tabled}
use Rattle.ere_parser.specs.Reading.{rest_from}
use Rattle.ere_parser.specs.Standing.{Refuses, unread, many, base_of, GroupRead}
use Rattle.ere.specs.Answer.{Serves, Compiles}
use Rattle.ere_pieces.specs.declared.rows.Piece.{Piece}
use Rattle.ere_parser.proofs.Built.{agrees-move}
use Rattle.ere_parser.proofs.Moving.{opened}
use Rattle.ere_parser.proofs.Items.{drop_all}

-- too long, or what is read from the start
pub ere-long : (edition : ℕ) (l : List ℕ) → ere_bytes < length l → read_ere edition l ≡ none
unfolding read_ere
ere-long edition l h = ap (λ (b : Bool). cond b (whole (read_rest (suc (length l)) ere_groups none none l)) none) (lt-leb (length l) ere_bytes h)

pub ere-short : (edition : ℕ) (l : List ℕ) → length l ≤ ere_bytes → read_ere edition l ≡ whole (rest_from ere_groups none none (drop 0 l))
unfolding read_ere rest_from
ere-short edition l h = ap (λ (b : Bool). cond b (whole (read_rest (suc (length l)) ere_groups none none l)) none) (le-leb (length l) ere_bytes h)

whole-many : (e : Ere Class) (u : List ℕ) → ere_places < places e → whole (parsed e u) ≡ none
unfolding whole
whole-many e [] h = ap (λ (b : Bool). cond b (some e) none) (lt-leb (places e) ere_places h)
whole-many e (b ∷ u) h = refl

whole-more : (e : Ere Class) (b : ℕ) (u : List ℕ) → whole (parsed e (b ∷ u)) ≡ none
unfolding whole
whole-more e b u = refl

whole-got : (e : Ere Class) → places e ≤ ere_places → whole (parsed e []) ≡ some e
unfolding whole
whole-got e h = ap (λ (b : Bool). cond b (some e) none) (le-leb (places e) ere_places h)

whole-none : whole none ≡ none
unfolding whole
whole-none = refl

module _ (edition : ℕ) (l : List ℕ) (short : length l ≤ ere_bytes) where
  -- the group was refused
  pub group-bad : Refuses (base_of l ere_groups 0 0 0) → read_ere edition l ≡ none
  group-bad (unread e) = ere-short edition l short ∙ ap whole e ∙ whole-none
  group-bad (many x e h) = ere-short edition l short ∙ ap whole e ∙ whole-many x.value x.rest (omega arith)

  module _ (t u : List ℕ) (g : Piece) (reads : GroupRead l ere_groups 0 0 0 t u g) where
    pub group-open : g.at < length l → read_ere edition l ≡ none
    group-open h =
        let r = reads.read in
        ere-short edition l short ∙ ap whole (r.1 ∙ ap (parsed r.0) (opened l g.at (get_or l g.at 0) h refl)) ∙ whole-more r.0 (get_or l g.at 0) (drop (g.at + 1) l)

    pub group-whole : length l ≤ g.at → read_ere edition l ≡ some reads.read.0
    group-whole h =
        let r = reads.read in
        ere-short edition l short ∙ ap whole (r.1 ∙ ap (parsed r.0) (drop_all l g.at h)) ∙ whole-got r.0 (omega (arith, r.2, reads.few))

    -- the table of what was read, with its entry rows, sealed
    pub group-serves : length u ≡ table_words → Serves (finished u g.entry.first g.entry.later) reads.read.0
    group-serves full =
        let b = reads.read.3 in
        let few : g.hi ≤ ere_places = omega (arith, reads.fewer, reads.few) in
        record {
          tree = b.tree;
          tabled = tabled u g.entry.first g.entry.later full 0 g.hi b.tree few b.rows;
          agrees = agrees-move (omega arith) few (λ p c i j k. finished-class u g.entry.first g.entry.later full p c (omega arith) k) b.agrees;
        }

-- ---- the answers of the compiler

pub compiles-none : {edition : ℕ} {l t : List ℕ} → read_ere edition l ≡ none → Compiles edition l t false
compiles-none e = record { refused = λ z. e; read = λ z. absurd (true≢false (sym z)) }

pub compiles-some : {edition : ℕ} {l t : List ℕ} (e : Ere Class) → read_ere edition l ≡ some e → Serves t e → Compiles edition l t true
compiles-some e r s = record { refused = λ z. absurd (true≢false z); read = λ z. (e, r, s) }
