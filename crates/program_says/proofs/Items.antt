-- The tree of a program that is read is the one that each derivation of its tokens says.
use mathlib.Core.Path.{◌≡◌, refl, sym, ap, subst, ◌∙◌}
use mathlib.Core.Bool.{Bool, true, false, cond}
use mathlib.Core.List.{List, [], ◌∷◌, ◌++◌}
use mathlib.Core.Option.{some, none}
use mathlib.Core.Logic.{inl, inr, ⊎_elim}
use Prim.Native.Nat.{ℕ, suc, ◌+◌, ◌≤◌, ◌<◌}
use native.Mathlib.Omega.{arith}
use lib.ListN.{length}
use Rattle.lists.proofs.Tests.{or-false}
use Rattle.edition.specs.Outcomes.{size_passed}
use Rattle.program_tokens.specs.Kinds.{Kind, text_end, newline, ERE, bad, bad-ere, BEGIN, END, open_brace, semicolon, slash, div_assign, same, among, rank}
use Rattle.program_tokens.specs.Tokens.{Token, is, token_at, token_after, as_operand}
use Rattle.program_tree.specs.Tree.{Expression, Statement as StatementTree, print as print-tree, Item as ItemTree, begin as begin-tree, end as end-tree, main, Program}
use Rattle.program_grammar.specs.Sets.{enders}
use Rattle.program_grammar.specs.Grammar.{elsewhere, expression, Form, ended, Block, braces, Item, begin, end, pattern as pattern-action, always, Items, none as no_item, item, pattern as pattern-alone, last_pattern, Sentence, program}
use Rattle.program_reader.specs.Read.{Read, ok, no, map, bind, past_in, past, past_newlines}
use Rattle.program_reader.specs.Expressions.{expression_at}
use Rattle.program_reader.specs.Statements.{block_of, statement_at}
use Rattle.program_parser.specs.Reading.{Good as InText}
use Rattle.program_parser.proofs.Tokens.{Slashes, good-at}
use Rattle.program_exact.specs.Trees.{first, rest, tail, said}
use Rattle.program_exact.proofs.Facts.{each, words, operands, quiet}
use Rattle.program_exact.proofs.Forms.{one_of}
use Rattle.program_exact.proofs.Walks.{after-in, operand_in}
use Rattle.program_exact.proofs.Bodies.{fuelled}
use Rattle.program_exact.proofs.Sayings.{kinds_of, Trail, first_kind, IsEmpty, Raw, Reread, raw-next, starts-expression, first-append, still-some, AllOf, past-turn, past-trail, one-step, spoken}
use Rattle.program_says.specs.Trees.{said_block, said_item, said_items, said_sentence}
use Rattle.program_says.proofs.Stretches.{Says, says_map, says_less, Stretch, reread-on, spans, split, step, no_more, last-in, first-is, longer, all-separators, separators-passed}
use Rattle.program_says.proofs.Openings.{never_first}
use Rattle.program_says.proofs.Parts.{Answers, answers-map, sooner, past-lines}
use Rattle.program_says.proofs.AnyLevels.{action_of, pattern_of, item_of, items_of, program_of}
use Rattle.program_says.proofs.Blocks.{turns-left, block-says}

-- kinds that begin no item
abbrev apart : List Kind
apart = text_end ∷ slash ∷ div_assign ∷ newline ∷ semicolon ∷ []

module _ (edition : ℕ) (s : List ℕ) where
  -- ---- what items begin with

  block-first : {in_main : Bool} {l : List Kind} → Block edition in_main l → (IsEmpty l → ⊥) × (first_kind l ≡ open_brace)
  block-first (braces d) = ((λ z. z), refl)

  apart-pair : (k : Kind) → among (BEGIN ∷ END ∷ open_brace ∷ apart) k ≡ true → (among operands k ≡ false) × (among words k ≡ false)
  unfolding among rank
  apart-pair k q =
      each (λ k. (among operands k ≡ false) × (among words k ≡ false)) (BEGIN ∷ END ∷ open_brace ∷ apart)
      ((refl, refl), ((refl, refl), ((refl, refl), ((refl, refl), ((refl, refl), ((refl, refl), ((refl, refl), ((refl, refl), tt)))))))) k q

  pattern-facts : (l : List Kind) → Form edition (expression elsewhere) l
      → (IsEmpty l → ⊥) × (same (first_kind l) BEGIN ≡ false) × (same (first_kind l) END ≡ false) × (same (first_kind l) open_brace ≡ false) × (among apart (first_kind l) ≡ false)
  unfolding among
  pattern-facts l d =
      let i = never_first edition s (BEGIN ∷ END ∷ open_brace ∷ apart) apart-pair l d in
      let a = or-false (same (first_kind l) BEGIN) _ i in
      let b = or-false (same (first_kind l) END) _ a.1 in
      let c = or-false (same (first_kind l) open_brace) _ b.1 in
      ((starts-expression edition s elsewhere l d).0, a.0, b.0, c.0, c.1)

  item-first : {l : List Kind} → Item edition l → (IsEmpty l → ⊥) × (among apart (first_kind l) ≡ false)
  unfolding among rank
  item-first (begin a) = ((λ z. z), refl)
  item-first (end a) = ((λ z. z), refl)
  item-first (pattern-action {e = e} {a = a} d b) =
      let i = pattern-facts e d in
      (still-some edition s e a i.0, ap (among apart) (first-append edition s e a i.0) ∙ i.4)
  item-first (always a) = let i = block-first a in (i.0, ap (among apart) i.1)

  apart-facts : (k : Kind) → among apart k ≡ false → (same k text_end ≡ false) × (among Slashes k ≡ false) × (same k newline ≡ false) × (among enders k ≡ false)
  unfolding among
  apart-facts k h =
      let a1 = or-false (same k text_end) _ h in
      let a2 = or-false (same k slash) _ a1.1 in
      let a3 = or-false (same k div_assign) _ a2.1 in
      let a4 = or-false (same k newline) _ a3.1 in
      let a5 = or-false (same k semicolon) _ a4.1 in
      (a1.0, rw (a2.0, a3.0), a4.0, rw (a4.0, a5.0))

  -- what comes after separators
  abbrev Apart : Kind → Type 0
  Apart k = (among Slashes k ≡ false) × (same k newline ≡ false) × (among enders k ≡ false)

  apart_of : (l : List Kind) (y : Token) (ts : List Token) (u : Token) → (IsEmpty l → ⊥) × (among apart (first_kind l) ≡ false) → Stretch edition s l y ts u → Apart y.kind
  apart_of l y ts u i w = subst Apart (sym (first-is edition s l y ts u w i.0)) ((apart-facts (first_kind l) i.1).1, (apart-facts (first_kind l) i.1).2, (apart-facts (first_kind l) i.1).3)

  items-first : {l : List Kind} → Items edition l → (y : Token) (ts : List Token) (u : Token) → Stretch edition s l y ts u → u.kind ≡ text_end → Apart y.kind
  unfolding among rank
  items-first no_item y ts u w k = subst Apart (sym (ap (λ (v : Token). v.kind) (no_more edition s y ts u w) ∙ k)) (refl, refl, refl)
  items-first (item {i = i} {n = n} {l = l} d h r) y ts u w k =
      let z = split edition s i (n ++ l) y ts u w in
      apart_of i y (first i ts) z.middle (item-first d) z.left
  items-first (pattern-alone {k = j} {e = e} {n = n} {l = l} d o h r) y ts u w k =
      let z = split edition s e (j ∷ (n ++ l)) y ts u w in
      let f = pattern-facts e d in
      apart_of e y (first e ts) z.middle (f.0, f.4) z.left
  items-first (last_pattern {e = e} d) y ts u w k = let f = pattern-facts e d in apart_of e y ts u (f.0, f.4) w

  -- ---- newlines and `;` after an item

  past-separators : (n : List Kind) → AllOf edition s enders n → (i : ℕ) (x v : Token) (ts : List Token) (y : Token) → InText edition s 0 x → length s ≤ i + x.start → Reread edition s x v
      → Stretch edition s n v ts y → Apart y.kind → as_operand edition s (past_in edition s enders i x) ≡ y
  past-separators n h i x v ts y g f w p a =
      past-trail edition s enders (separators-passed edition s) n h i x v ts y g f w p.kinds p.trail a.2 a.0

  module _ (levels : ℕ) where
    -- ---- items

    abbrev chosen_item : Token → Kind → Read ItemTree
    chosen_item t j =
        cond (same j BEGIN) (map begin-tree (action_of edition s levels false (token_after edition s t)))
        (cond (same j END) (map end-tree (action_of edition s levels false (token_after edition s t)))
        (cond (same j open_brace) (map (main none) (action_of edition s levels true t)) (pattern_of edition s levels (expression_at edition s (suc levels) false t))))

    item-run : (t : Token) (j : Kind) → t.kind ≡ j → item_of edition s levels t ≡ chosen_item t j
    unfolding item_of
    item-run t j k = ap (chosen_item t) k

    pattern-run : (t : Token) (l : List Kind) → Form edition (expression elsewhere) l → t.kind ≡ first_kind l → item_of edition s levels t ≡ pattern_of edition s levels (expression_at edition s (suc levels) false t)
    pattern-run t l d k =
        let i = pattern-facts l d in
        item-run t (first_kind l) k ∙ choose (same (first_kind l) BEGIN) (same (first_kind l) END) (same (first_kind l) open_brace) i.1 i.2 i.3 _ _ _ _
      where
        choose : {A : Type 0} (p q r : Bool) → p ≡ false → q ≡ false → r ≡ false → (x y z w : A) → cond p x (cond q y (cond r z w)) ≡ w
        choose p q r a b c x y z w = rw (a, b, c)

    action-says : {in_main : Bool} {l : List Kind} (d : Block edition in_main l) (t : Token) (ts : List Token) (u : Token) → Stretch edition s l t ts u
        → (t.kind ≡ open_brace) × (Answers edition s ended (suc levels + t.start) (action_of edition s levels in_main t) (said_block edition s d ts) t.start u)
    unfolding action_of rank
    action-says {in_main} d t ts u w =
        let i = block-says edition s d levels t ts u w in
        (i.0, subst (λ (r : Read StatementTree). Answers edition s ended (suc levels + t.start) r (said_block edition s d ts) t.start u) (sym (action-run (ap (λ (j : Kind). same j open_brace) i.0))) i.1)
      where
        action-run : is open_brace t ≡ true → action_of edition s levels in_main t ≡ block_of edition s (statement_at edition s in_main levels) t
        action-run q = rw q

    -- `BEGIN` or `END`, and its action
    section-says : (f : StatementTree → ItemTree) (j : Kind) {l : List Kind} (d : Block edition false l) (t : Token) (ts : List Token) (u : Token) → same j text_end ≡ false
        → chosen_item t j ≡ map f (action_of edition s levels false (token_after edition s t)) → Stretch edition s (j ∷ l) t ts u
        → Answers edition s ended (suc levels + t.start) (item_of edition s levels t) (f (said_block edition s d (tail ts))) t.start u
    unfolding among rank
    section-says f j {l} d t ts u n q w =
        let a = step edition s j l t ts u n w in
        let i = action-says d a.next (tail ts) u a.others in
        let own : a.next ≡ token_after edition s t = raw-next edition s t a.next a.follow (ap (among (ERE ∷ bad ∷ bad-ere ∷ [])) i.0) in
        let r : Read StatementTree = action_of edition s levels false a.next in
        subst (λ (m : Read ItemTree). Answers edition s ended (suc levels + t.start) m (f (said_block edition s d (tail ts))) t.start u)
        (sym (item-run t j a.kind ∙ (q ∙ ap (λ (v : Token). map f (action_of edition s levels false v)) (sym own))))
        (answers-map edition s f ended (suc levels + t.start) r (said_block edition s d (tail ts)) t.start u
        (sooner edition s ended (suc levels + t.start) (suc levels + a.next.start) r (said_block edition s d (tail ts)) t.start a.next.start u (omega (arith, a.onward)) (omega (arith, a.onward)) i.1))

    pattern-deep : (place : ℕ) → pattern_of edition s levels (no size_passed place) ≡ no size_passed place
    unfolding pattern_of
    pattern-deep place = refl

    pattern-brace : (x : Expression) (m : Token) → m.kind ≡ open_brace → pattern_of edition s levels (ok x m) ≡ map (main (some x)) (action_of edition s levels true m)
    unfolding pattern_of rank
    pattern-brace x m k = let q : is open_brace m ≡ true = ap (λ (j : Kind). same j open_brace) k in rw q

    pattern-ends : (x : Expression) (m : Token) → among (text_end ∷ enders) m.kind ≡ true → pattern_of edition s levels (ok x m) ≡ ok (main (some x) (print-tree [])) m
    unfolding pattern_of among rank
    pattern-ends x m h =
        let q : is open_brace m ≡ false = each (λ k. same k open_brace ≡ false) (text_end ∷ enders) (refl, (refl, (refl, tt))) m.kind h in
        rw (q, h)

    item-says : {l : List Kind} (d : Item edition l) (t : Token) (ts : List Token) (u : Token) → Stretch edition s l t ts u → Answers edition s ended (suc levels + t.start) (item_of edition s levels t) (said_item edition s d ts) t.start u
    unfolding said_item among rank
    item-says (begin a) t ts u w = section-says begin-tree BEGIN a t ts u refl refl w
    item-says (end a) t ts u w = section-says end-tree END a t ts u refl refl w
    item-says (pattern-action {e = e} {a = l} d b) t ts u w =
        let q = split edition s e l t ts u w in
        let m : Token = q.middle in
        let i = action-says b m (rest e ts) u q.right in
        let f = pattern-facts e d in
        let x : Expression = said edition s d (first e ts) in
        let r : Read Expression = expression_at edition s (suc levels) false t in
        let run = pattern-run t e d (first-is edition s e t (first e ts) m q.left f.0) in
        let sp = spans edition s e t (first e ts) m q.left (ap (among (ERE ∷ bad ∷ bad-ere ∷ [])) i.0) in
        let tree : StatementTree = said_block edition s b (rest e ts) in
        ⊎_elim
        (λ z. inl (z.0, run ∙ (ap (pattern_of edition s levels) z.1 ∙ pattern-deep z.0), z.2))
        (λ z. subst (λ (v : Read ItemTree). Answers edition s ended (suc levels + t.start) v (main (some x) tree) t.start u) (sym (run ∙ (ap (pattern_of edition s levels) z ∙ pattern-brace x m i.0)))
        (answers-map edition s (main (some x)) ended (suc levels + t.start) (action_of edition s levels true m) tree t.start u
        (sooner edition s ended (suc levels + t.start) (suc levels + m.start) (action_of edition s levels true m) tree t.start m.start u (omega (arith, q.onward)) q.onward i.1)))
        (spoken edition s d (suc levels) false t (first e ts) m refl sp (ap (among quiet) i.0))
    item-says (always a) t ts u w =
        let i = action-says a t ts u w in
        subst (λ (v : Read ItemTree). Answers edition s ended (suc levels + t.start) v (main none (said_block edition s a ts)) t.start u) (sym (item-run t open_brace i.0))
        (answers-map edition s (main none) ended (suc levels + t.start) (action_of edition s levels true t) (said_block edition s a ts) t.start u i.1)

    -- a pattern that is alone
    alone-says : {e : List Kind} (d : Form edition (expression elsewhere) e) (t : Token) (ts : List Token) (u : Token) → Stretch edition s e t ts u → among (text_end ∷ enders) u.kind ≡ true
        → Says s (suc levels + t.start) (item_of edition s levels t) (main (some (said edition s d ts)) (print-tree [])) u
    unfolding among rank
    alone-says {e} d t ts u w h =
        let f = pattern-facts e d in
        let two = each (λ k. (Raw k) × (among quiet k ≡ true)) (text_end ∷ enders) ((refl, refl), ((refl, refl), ((refl, refl), tt))) u.kind h in
        let x : Expression = said edition s d ts in
        let run = pattern-run t e d (first-is edition s e t ts u w f.0) in
        ⊎_elim
        (λ z. inl (z.0, run ∙ (ap (pattern_of edition s levels) z.1 ∙ pattern-deep z.0), z.2))
        (λ z. inr (run ∙ (ap (pattern_of edition s levels) z ∙ pattern-ends x u h)))
        (spoken edition s d (suc levels) false t ts u refl (spans edition s e t ts u w two.0) two.1)

    -- ---- lists of items

    abbrev Others : ℕ → ItemTree → Token → Read Program
    Others j a x = map (λ l. a ∷ l) (items_of edition s levels j (as_operand edition s (past edition s enders x)))

    items-end : (j : ℕ) (t : Token) → t.kind ≡ text_end → items_of edition s levels (suc j) t ≡ ok [] t
    unfolding items_of rank
    items-end j t k = let q : is text_end t ≡ true = ap (λ (j : Kind). same j text_end) k in rw q

    items_more : (i j : ℕ) (t : Token) → i ≡ suc j → same t.kind text_end ≡ false → items_of edition s levels i t ≡ bind (item_of edition s levels t) (Others j)
    unfolding items_of
    items_more i j t c q = ap (λ (n : ℕ). items_of edition s levels n t) c ∙ turn
      where
        turn : items_of edition s levels (suc j) t ≡ bind (item_of edition s levels t) (Others j)
        turn = rw q

    others-say : (k n : ℕ) (r : Read Program) (j : ℕ) (a : ItemTree) (x y : Token) (l : Program) (u : Token) → r ≡ Others j a x → as_operand edition s (past edition s enders x) ≡ y → k ≤ n → Says s n (items_of edition s levels j y) l u
        → Says s k r (a ∷ l) u
    others-say k n r j a x y l u e f le h =
        subst (λ (v : Read Program). Says s k v (a ∷ l) u) (sym (e ∙ ap (λ (v : Token). map (λ l. a ∷ l) (items_of edition s levels j v)) f)) (says_map s (λ l. a ∷ l) k (items_of edition s levels j y) l u (says_less s k n (items_of edition s levels j y) l u le h))

    pub items-say : {l : List Kind} (d : Items edition l) (i : ℕ) (t : Token) (ts : List Token) (u : Token) → Stretch edition s l t ts u → u.kind ≡ text_end → suc (length s) ≤ i + t.start
        → Says s (suc levels + t.start) (items_of edition s levels i t) (said_items edition s d ts) u
    unfolding said_items among rank
    items-say no_item i t ts u w k f =
        let own : t ≡ u = no_more edition s t ts u w in
        let c = turns-left edition s i t w.good f in
        inr (ap (λ (n : ℕ). items_of edition s levels n t) c.1 ∙ (items-end c.0 t (ap (λ (v : Token). v.kind) own ∙ k) ∙ ap (λ (v : Token). ok [] v) own))
    items-say (item {i = a} {n = n} {l = l} d h r) i t ts u w k f =
        let q = split edition s a (n ++ l) t ts u w in
        let p = split edition s n l q.middle (rest a ts) u q.right in
        let y : Token = p.middle in
        let c = turns-left edition s i t w.good f in
        let counted : i ≡ suc c.0 = c.1 in
        let one = item-first d in
        let no_end : same t.kind text_end ≡ false = ap (λ (j : Kind). same j text_end) (first-is edition s a t (first a ts) q.middle q.left one.0) ∙ (apart-facts (first_kind a) one.1).0 in
        let run = items_more i c.0 t counted no_end in
        let tree : ItemTree = said_item edition s d (first a ts) in
        ⊎_elim
        (λ z. inl (z.0, run ∙ ap (λ (v : Read ItemTree). bind v (Others c.0)) z.1, z.2))
        (λ z. others-say (suc levels + t.start) (suc levels + y.start) (items_of edition s levels i t) c.0 tree z.0 y (said_items edition s r (rest n (rest a ts))) u (run ∙ ap (λ (v : Read ItemTree). bind v (Others c.0)) z.4)
        (past-separators n (all-separators edition s n h) (length s) z.0 q.middle (first n (rest a ts)) y z.2 (omega arith) z.1 p.left
        (items-first r y (rest n (rest a ts)) u p.right k))
        (omega (arith, q.onward, p.onward))
        (items-say r c.0 y (rest n (rest a ts)) u p.right k (omega (arith, f, counted, z.3, reread-on edition s z.0 q.middle z.2 z.1, p.onward))))
        (item-says d t (first a ts) q.middle q.left)
    items-say (pattern-alone {k = j} {e = e} {n = n} {l = l} d o h r) i t ts u w k f =
        let q = split edition s e (j ∷ (n ++ l)) t ts u w in
        let m : Token = q.middle in
        let end-j : same j text_end ≡ false = each (λ k. same k text_end ≡ false) enders (refl, (refl, tt)) j (one_of o) in
        let b = step edition s j (n ++ l) m (rest e ts) u end-j q.right in
        let p = split edition s n l b.next (tail (rest e ts)) u b.others in
        let y : Token = p.middle in
        let c = turns-left edition s i t w.good f in
        let counted : i ≡ suc c.0 = c.1 in
        let one = pattern-facts e d in
        let no_end : same t.kind text_end ≡ false = ap (λ (j : Kind). same j text_end) (first-is edition s e t (first e ts) m q.left one.0) ∙ (apart-facts (first_kind e) one.4).0 in
        let run = items_more i c.0 t counted no_end in
        let x : ItemTree = main (some (said edition s d (first e ts))) (print-tree []) in
        let ender : among enders m.kind ≡ true = ap (among enders) b.kind ∙ one_of o in
        let g = fuelled edition s m (length s) q.right.good (ap (λ (j : Kind). same j text_end) b.kind ∙ end-j) (omega arith) in
        let size : length s ≡ suc g.0 = g.1 in
        let past_all : as_operand edition s (past edition s enders m) ≡ y =
        ap (λ (v : ℕ). as_operand edition s (past_in edition s enders v m)) size
        ∙ (ap (as_operand edition s) (past-turn edition s enders g.0 m ender)
        ∙ past-separators n (all-separators edition s n h) g.0 (token_after edition s m) b.next (first n (tail (rest e ts))) y (after-in edition s m q.right.good) (omega (arith, size, b.over)) b.follow p.left
        (items-first r y (rest n (tail (rest e ts))) u p.right k)) in
        ⊎_elim
        (λ z. inl (z.0, run ∙ ap (λ (v : Read ItemTree). bind v (Others c.0)) z.1, z.2))
        (λ z. others-say (suc levels + t.start) (suc levels + y.start) (items_of edition s levels i t) c.0 x m y (said_items edition s r (rest n (tail (rest e ts)))) u (run ∙ ap (λ (v : Read ItemTree). bind v (Others c.0)) z) past_all (omega (arith, q.onward, b.onward, p.onward))
        (items-say r c.0 y (rest n (tail (rest e ts))) u p.right k (omega (arith, f, counted, q.onward, b.onward, p.onward))))
        (alone-says d t (first e ts) m q.left (each (λ k. among (text_end ∷ enders) k ≡ true) enders (refl, (refl, tt)) m.kind ender))
    items-say (last_pattern {e = e} d) i t ts u w k f =
        let c = turns-left edition s i t w.good f in
        let counted : i ≡ suc c.0 = c.1 in
        let one = pattern-facts e d in
        let fine = apart-facts (first_kind e) one.4 in
        let no_end : same t.kind text_end ≡ false = ap (λ (j : Kind). same j text_end) (first-is edition s e t ts u w one.0) ∙ fine.0 in
        let run = items_more i c.0 t counted no_end in
        let on : t.start < u.start = longer edition s e t ts u w one.0 fine.0 in
        let gu : InText edition s 0 u = last-in edition s e t ts u w in
        let x : ItemTree = main (some (said edition s d ts)) (print-tree []) in
        let b = turns-left edition s c.0 u gu (omega (arith, f, counted, on)) in
        ⊎_elim
        (λ z. inl (z.0, run ∙ ap (λ (v : Read ItemTree). bind v (Others c.0)) z.1, z.2))
        (λ z. others-say (suc levels + t.start) (suc levels + t.start) (items_of edition s levels i t) c.0 x u u [] u (run ∙ ap (λ (v : Read ItemTree). bind v (Others c.0)) z)
        (past-separators [] tt (length s) u u [] u gu (omega arith) (inl refl) (record { good = gu; kinds = refl; trail = refl }) (subst Apart (sym k) (refl, refl, refl)))
        (omega arith)
        (inr (ap (λ (n : ℕ). items_of edition s levels n u) b.1 ∙ items-end b.0 u k)))
        (alone-says d t ts u w (ap (among (text_end ∷ enders)) k))

    -- ---- a whole text

    start-run : program_of edition s levels ≡ items_of edition s levels (suc (length s)) (past_newlines edition s (token_at edition s 0))
    unfolding program_of
    start-run = refl

    pub sentence-says : {m : List Kind} (d : Sentence edition m) (t : Token) (ts : List Token) (v : Token) → Reread edition s (token_at edition s 0) t → kinds_of ts ≡ m → Trail edition s t ts v
        → (u : Token) × (Says s (suc levels) (program_of edition s levels) (said_sentence edition s d ts) u)
    unfolding said_sentence
    sentence-says (program {n = n} {l = l} h d) t ts v w e p =
        let good : InText edition s 0 (token_at edition s 0) = good-at edition s 0 (omega arith) in
        let q = split edition s n (l ++ (text_end ∷ [])) t ts v (record { good = reread-in t w good; kinds = e; trail = p }) in
        let i = split edition s l (text_end ∷ []) q.middle (rest n ts) v q.right in
        let u : Token = i.middle in
        let k : u.kind ≡ text_end = (one-step edition s text_end [] u (rest l (rest n ts)) v i.right.kinds i.right.trail).kind in
        let a = items-first d q.middle (first l (rest n ts)) u i.left k in
        let own : past_newlines edition s (token_at edition s 0) ≡ q.middle = past-lines edition s n h (token_at edition s 0) t (first n ts) q.middle good w q.left a.1 a.0 in (
          u,
          subst (λ (r : Read Program). Says s (suc levels) r (said_items edition s d (first l (rest n ts))) u) (sym (start-run ∙ ap (items_of edition s levels (suc (length s))) own))
              (says_less s (suc levels) (suc levels + q.middle.start) (items_of edition s levels (suc (length s)) q.middle) (said_items edition s d (first l (rest n ts))) u (omega arith)
              (items-say d (suc (length s)) q.middle (first l (rest n ts)) u i.left k (omega arith))),
        )
      where
        reread-in : (t : Token) → Reread edition s (token_at edition s 0) t → InText edition s 0 (token_at edition s 0) → InText edition s 0 t
        reread-in t (inl e) g = subst (InText edition s 0) (sym e) g
        reread-in t (inr e) g = subst (InText edition s 0) (sym e) (operand_in edition s (token_at edition s 0) g)
