-- A part of an ERE that the table has: its rows, and its classes. One law for each way that parts are put together.
use mathlib.Core.Path.{◌≡◌, refl, ◌∙◌}
use mathlib.Core.List.{List}
use Prim.Native.Nat.{ℕ, ◌+◌, ◌-◌, ◌≤◌, ◌<◌}
use native.Mathlib.Nat.{le_refl}
use native.Mathlib.Omega.{arith}
use lib.ListN.{length}
use Rattle.edition.specs.Limits.{ere_places}
use Rattle.ere_meaning.specs.Tree.{Class, accepts, Ere, place, bol, eol, cat, alt, star, plus, opt}
use Rattle.ere_table.specs.Table.{table_words}
use Rattle.ere_table.specs.Wiring.{after_place}
use Rattle.ere_table.specs.Build.{link_rows, with_class, accept, or_stop}
use Rattle.ere_table.proofs.Writes.{class-bit, length-class, row-class, linked-class}
use Rattle.ere_table.proofs.Parts.{Kept, part-kept}
use Rattle.ere_pieces.specs.State.{join_entry, link_entry, stop_entry, no_alts, no_seq, place_entry, bol_entry, eol_entry, leaf_table}
use Rattle.ere_pieces.specs.declared.rows.Entry.{Entry}
use Rattle.ere_parser.specs.Built.{Agrees, at_place, at_bol, at_eol, in_cat, in_alt, in_star, in_plus, in_opt, SameClasses, Built}
use Rattle.ere_byte_set.specs.Words.{in_class}
use Rattle.ere_table.proofs.RowParts.{rows-cat, rows-star, rows-alt, rows-place, rows-alone, rows-seq, rows-bol, rows-eol, rows-plus, rows-opt}

-- ---- classes

pub agrees-move : {t u : List ℕ} {lo hi lo' hi' : ℕ} {a : Ere ℕ} {x : Ere Class} → lo' ≤ lo → hi ≤ hi' → SameClasses lo hi t u
    → Agrees t lo hi a x → Agrees u lo' hi' a x
agrees-move l h s (at_place {p = p} m n f) = at_place {p = p} (omega arith) (omega arith) (λ b k. s p b m n k ∙ f b k)
agrees-move l h s at_bol = at_bol
agrees-move l h s at_eol = at_eol
agrees-move l h s (in_cat p q) = in_cat (agrees-move l h s p) (agrees-move l h s q)
agrees-move l h s (in_alt p q) = in_alt (agrees-move l h s p) (agrees-move l h s q)
agrees-move l h s (in_star p) = in_star (agrees-move l h s p)
agrees-move l h s (in_plus p) = in_plus (agrees-move l h s p)
agrees-move l h s (in_opt p) = in_opt (agrees-move l h s p)

-- ---- parts that the table has

-- another table with the same rows and classes there
pub built-kept : {t u : List ℕ} {lo hi : ℕ} {x : Entry} {e : Ere Class} → Kept (after_place t) (after_place u) lo hi → SameClasses lo hi t u
    → Built t lo hi x e → Built u lo hi x e
built-kept {t} {u} {lo} {hi} {x} k s b =
    record { tree = b.tree; rows = part-kept (after_place t) (after_place u) lo hi _ b.tree k b.rows; agrees = agrees-move (le_refl lo) (le_refl hi) s b.agrees }

module _ {t : List ℕ} (full : length t ≡ table_words) where
  pub built-cat : {lo mid hi : ℕ} {x y : Entry} {a b : Ere Class} → lo ≤ mid → mid ≤ hi → hi ≤ ere_places → Built t lo mid x a → Built t mid hi y b
      → Built (link_rows t (lo + 2) (mid - lo) y.later) lo hi (link_entry x y) (cat a b)
  built-cat {lo} {mid} {hi} {x} {y} l h m p q =
      let s : (lo' hi' : ℕ) → SameClasses lo' hi' t (link_rows t (lo + 2) (mid - lo) y.later) =
      λ lo' hi' n b i j k. linked-class t (lo + 2) y.later (mid - lo) n b (omega arith) in
      record {
        tree = cat p.tree q.tree;
        rows = rows-cat t lo mid hi x.first x.later y.first y.later p.tree q.tree l h (omega arith) p.rows q.rows;
        agrees = in_cat (agrees-move (le_refl lo) h (s lo mid) p.agrees) (agrees-move l (le_refl hi) (s mid hi) q.agrees);
      }

  pub built-star : {lo hi : ℕ} {x : Entry} {a : Ere Class} → lo ≤ hi → hi ≤ ere_places → Built t lo hi x a
      → Built (link_rows t (lo + 2) (hi - lo) (or_stop x.later)) lo hi (stop_entry x) (star a)
  built-star {lo} {hi} {x} l h p =
      record {
        tree = star p.tree;
        rows = rows-star t lo hi x.first x.later p.tree l (omega arith) p.rows;
        agrees = in_star (agrees-move (le_refl lo) (le_refl hi) (λ n b i j k. linked-class t (lo + 2) (or_stop x.later) (hi - lo) n b (omega arith)) p.agrees);
      }

  pub built-plus : {lo hi : ℕ} {x : Entry} {a : Ere Class} → lo ≤ hi → hi ≤ ere_places → Built t lo hi x a
      → Built (link_rows t (lo + 2) (hi - lo) (or_stop x.later)) lo hi x (plus a)
  built-plus {lo} {hi} {x} l h p =
      record {
        tree = plus p.tree;
        rows = rows-plus t lo hi x.first x.later p.tree l (omega arith) p.rows;
        agrees = in_plus (agrees-move (le_refl lo) (le_refl hi) (λ n b i j k. linked-class t (lo + 2) (or_stop x.later) (hi - lo) n b (omega arith)) p.agrees);
      }

pub built-opt : {t : List ℕ} {lo hi : ℕ} {x : Entry} {a : Ere Class} → Built t lo hi x a → Built t lo hi (stop_entry x) (opt a)
built-opt {t} {lo} {hi} {x} p =
    record { tree = opt p.tree; rows = rows-opt t lo hi x.first x.later p.tree p.rows; agrees = in_opt p.agrees }

pub built-alt : {t : List ℕ} {lo mid hi : ℕ} {x y : Entry} {a b : Ere Class} → lo ≤ mid → mid ≤ hi → Built t lo mid x a → Built t mid hi y b
    → Built t lo hi (join_entry x y) (alt a b)
built-alt {t} {lo} {mid} {hi} {x} {y} l h p q =
    record {
      tree = alt p.tree q.tree;
      rows = rows-alt t lo mid hi x.first x.later y.first y.later p.tree q.tree l h p.rows q.rows;
      agrees = in_alt (agrees-move (le_refl lo) h (λ n b i j k. refl) p.agrees) (agrees-move l (le_refl hi) (λ n b i j k. refl) q.agrees);
    }

-- the first alternative, and the first piece
pub built-none : {t : List ℕ} {lo hi : ℕ} {x : Entry} {e : Ere Class} → Built t lo hi x e → Built t lo hi (join_entry no_alts x) e
built-none {t} {lo} {hi} {x} p =
    record { tree = p.tree; rows = rows-alone t lo hi x.first x.later p.tree p.rows; agrees = p.agrees }

pub built-first : {t : List ℕ} {lo hi : ℕ} {x : Entry} {e : Ere Class} → Built t lo hi x e → Built t lo hi (link_entry no_seq x) e
built-first {t} {lo} {hi} {x} p =
    record { tree = p.tree; rows = rows-seq t lo hi x.first x.later p.tree p.rows; agrees = p.agrees }

pub built-bol : {t : List ℕ} {lo hi : ℕ} → Built t lo hi bol_entry bol
built-bol {t} {lo} {hi} = record { tree = bol; rows = rows-bol t lo hi; agrees = at_bol }

pub built-eol : {t : List ℕ} {lo hi : ℕ} → Built t lo hi eol_entry eol
built-eol {t} {lo} {hi} = record { tree = eol; rows = rows-eol t lo hi; agrees = at_eol }

-- ---- a place with its class

module _ (t : List ℕ) (p : ℕ) (c : List ℕ) (full : length t ≡ table_words) (small : p < ere_places) where
  -- a place with its class is a part
  pub built-leaf : (k : Class) → ((b : ℕ) → b < 256 → in_class c b ≡ accepts k b) → Built (leaf_table p c t) p (p + 1) (place_entry p) (place k)
  built-leaf k f =
      record {
        tree = place p;
        rows = rows-place (with_class t p c) p small (omega (arith, length-class t p c));
        agrees = at_place {p = p} (le_refl p) (omega arith) (λ b h. row-class (with_class t p c) (p + 2) accept p b (omega arith) ∙ class-bit t p c b full small h ∙ f b h);
      }
