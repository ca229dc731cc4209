-- The reader of items and whole programs, beside the count of levels.
use mathlib.Core.Path.{◌≡◌, refl, sym, ap, subst, ◌∙◌}
use mathlib.Core.Bool.{Bool, true, false}
use mathlib.Core.List.{List, [], ◌∷◌}
use mathlib.Core.Option.{some, none}
use mathlib.Core.Logic.{◌⊎◌, inl, inr, ⊎_elim}
use Prim.Native.Nat.{ℕ, zero, suc, ◌-◌}
use native.Mathlib.Omega.{arith}
use lib.ListN.{length}
use Rattle.lists.proofs.Tests.{clash, or_cases}
use Rattle.edition.specs.Limits.{nesting_depth}
use Rattle.program_tokens.specs.Kinds.{Kind, text_end, newline, BEGIN, END, ELSE, open_brace, semicolon, same, among, rank}
use Rattle.program_tokens.specs.Tokens.{Token, is, is_one_of, token_at, token_after, as_operand}
use Rattle.program_tokens.proofs.Ranks.{same-is}
use Rattle.program_tree.specs.Tree.{Expression, Statement, print, Item, begin, end, main, Program}
use Rattle.program_grammar.specs.Sets.{enders}
use Rattle.program_reader.specs.Read.{Read, ok, no, map, bind, refuse, operand_after, past_in, past, past_newlines}
use Rattle.program_reader.specs.Operators.{expressions}
use Rattle.program_reader.specs.Expressions.{inside, expression_at}
use Rattle.program_reader.specs.Statements.{block_of, statement_at}
use Rattle.program_reader.specs.Programs.{action_at, after_pattern, item_at, items, read_program}
use Rattle.program_parser.proofs.Tokens.{Slashes}
use Rattle.program_exact.proofs.Facts.{each, by-test}
use Rattle.program_exact.proofs.Walks.{operand-still}
use Rattle.program_exact.proofs.Bodies.{unread}
use Rattle.program_exact.proofs.Operands.{known}
use Rattle.program_exact.proofs.Whole.{past-still, past-turn}
use Rattle.program_levels.proofs.Count.{action, pattern, Count, between, action_next, after, list, moves, leave, operand_move, item_move, move}
use Rattle.program_levels.proofs.Derivations.{quiet-move, after_is}
use Rattle.program_levels.proofs.Sentences.{between-item, between-ender, pattern-ender}
use Rattle.program_levels.proofs.Steps.{Steps, stay, join, pass, Refusal, Reads, refused, later, Like, likely, like-opens, like-to, passed, lines}
use Rattle.program_levels.proofs.Expressions.{Whole, expression-reads}
use Rattle.program_levels.proofs.Statements.{dead-tier, Pauses, action-reads}

module _ (edition : ℕ) (s : List ℕ) where
  -- ---- an action

  brace-reads : (in_main : Bool) (x : Count) (t : Token) → (is open_brace t ≡ true → move edition x t.kind ≡ moves 1 (list [] false action)) → Pauses edition s between x t (action_at edition s in_main t)
  unfolding action_at
  brace-reads in_main x t h =
      by-test (Pauses edition s between x t) (is open_brace t) (block_of edition s (statement_at edition s in_main (nesting_depth - 1)) t) (refuse t)
      (λ q. action-reads edition s in_main (nesting_depth - 1) (omega arith) x t q (h q)) (λ q. refused edition s x t)

  -- ---- an item: a `}` ended it, or a pattern that is alone

  abbrev Alone : Count → Token → Token → Type 0
  Alone x t u = (f : ℕ) × (Steps edition s x t (after f pattern) u) × (is_one_of (text_end ∷ enders) u ≡ true)

  abbrev ItemReads : Count → Token → Read Item → Type 0
  ItemReads x t (ok i u) = (Steps edition s x t between (as_operand edition s u)) ⊎ (Alone x t u)
  ItemReads x t (no outcome place) = Refusal edition s x t outcome place

  paused-item : (f : Statement → Item) (x : Count) (t : Token) (r : Read Statement) → Pauses edition s between x t r → ItemReads x t (map f r)
  paused-item f x t (ok a u) g = inl g
  paused-item f x t (no outcome place) g = g

  item-earlier : (x : Count) (t : Token) (y : Count) (u : Token) (r : Read Item) → Steps edition s x t y u → ItemReads y u r → ItemReads x t r
  item-earlier x t y u (ok i v) w (inl g) = inl (join edition s x t y u between (as_operand edition s v) w g)
  item-earlier x t y u (ok i v) w (inr g) = inr (g.0, join edition s x t y u (after g.0 pattern) v w g.1, g.2)
  item-earlier x t y u (no outcome place) w g = later edition s x t y u outcome place w g

  pattern-brace : (f : ℕ) (k : Kind) → same k open_brace ≡ true → move edition (after f pattern) k ≡ moves 1 (list [] false action)
  unfolding leave among rank
  pattern-brace f k q = ap (move edition (after f pattern)) (same-is k open_brace q) ∙ (after_is edition f pattern open_brace ∙ quiet-move edition f pattern open_brace refl)

  pattern-reads : (x : Count) (t : Token) (r : Read Expression) → Reads edition s (Whole edition s pattern) x t r → ItemReads x t (after_pattern edition s r)
  unfolding after_pattern
  pattern-reads x t (no outcome place) g = g
  pattern-reads x t (ok e u) g =
      let at : Steps edition s x t (after g.2.0 pattern) u = subst (λ (y : Count). Steps edition s x t y u) g.2.1 g.1 in
      by-test (ItemReads x t) (is open_brace u) (map (main (some e)) (action_at edition s true u)) _
      (λ q. item-earlier x t (after g.2.0 pattern) u (map (main (some e)) (action_at edition s true u)) at
      (paused-item (main (some e)) (after g.2.0 pattern) u (action_at edition s true u) (brace-reads true (after g.2.0 pattern) u (pattern-brace g.2.0 u.kind))))
      (λ q. by-test (ItemReads x t) (is_one_of (text_end ∷ enders) u) (ok (main (some e) (print [])) u) (refuse u)
      (λ r. inr (g.2.0, at, r)) (λ r. later edition s x t (after g.2.0 pattern) u _ _ at (refused edition s (after g.2.0 pattern) u)))

  action-is : (k : Kind) → move edition action_next k ≡ moves 1 (list [] false action)
  unfolding move
  action-is k = refl

  item-pattern : (k : Kind) → same k text_end ≡ false → same k BEGIN ≡ false → same k END ≡ false → same k open_brace ≡ false → item_move edition k ≡ operand_move edition 0 0 pattern k
  unfolding item_move among
  item-pattern k a b c d = rw (a, b, c, d)

  -- after `BEGIN` or `END`
  section-reads : (f : Statement → Item) (j : Kind) (x : Count) (t : Token) → is j t ≡ true → same j text_end ≡ false → item_move edition j ≡ moves 0 action_next → Like edition s x t.kind (item_move edition t.kind)
      → ItemReads x t (map f (action_at edition s false (token_after edition s t)))
  section-reads f j x t q n i e =
      let v : Token = token_after edition s t in
      item-earlier x t action_next v (map f (action_at edition s false v))
      (passed edition s x t (item_move edition t.kind) action_next e (known edition s (λ k. item_move edition k ≡ moves 0 action_next) t.kind j q i) (known edition s (λ k. same k text_end ≡ false) t.kind j q n))
      (paused-item f action_next v (action_at edition s false v) (brace-reads false action_next v (λ q. action-is v.kind)))

  item-reads : (x : Count) (t : Token) → is text_end t ≡ false → Like edition s x t.kind (item_move edition t.kind) → ItemReads x t (item_at edition s t)
  unfolding item_at item_move among rank
  item-reads x t n e =
      let R : Read Item → Type 0 = ItemReads x t in
      by-test R (is BEGIN t) (map begin (action_at edition s false (token_after edition s t))) _ (λ q. section-reads begin BEGIN x t q refl refl e)
      (λ q1. by-test R (is END t) (map end (action_at edition s false (token_after edition s t))) _ (λ q. section-reads end END x t q refl refl e)
      (λ q2. by-test R (is open_brace t) (map (main none) (action_at edition s true t)) _
      (λ q. paused-item (main none) x t (action_at edition s true t) (brace-reads true x t
      (λ r. like-opens edition s x t.kind (item_move edition t.kind) 0 (list [] false action) e (known edition s (λ k. item_move edition k ≡ moves 1 (list [] false action)) t.kind open_brace q refl))))
      (λ q3. pattern-reads x t (expression_at edition s nesting_depth false t)
      (expression-reads edition s nesting_depth 0 (omega arith) false x t pattern (like-to edition s x t.kind (item_move edition t.kind) (operand_move edition 0 0 pattern t.kind) e (item-pattern t.kind n q1 q2 q3))))))

  -- an item that begins with what ends one
  dead-item : (t : Token) → is_one_of enders t ≡ true → item_at edition s t ≡ refuse t
  unfolding item_at after_pattern among rank
  dead-item t h =
      let z = each (λ k. (same k BEGIN ≡ false) × (same k END ≡ false) × (same k open_brace ≡ false) × (among (newline ∷ semicolon ∷ ELSE ∷ []) k ≡ true)) enders ((refl, refl, refl, refl), ((refl, refl, refl, refl), tt)) t.kind h in
      rw (z.0, z.1, z.2) (ap (after_pattern edition s) (dead-tier edition s (inside edition s nesting_depth) false t z.3 expressions))

  -- ---- newlines and `;` after an item

  ender-operand : (t : Token) → is_one_of enders t ≡ true → (as_operand edition s t ≡ t) × (is text_end t ≡ false)
  unfolding among rank
  ender-operand t q =
      (operand-still edition s t (each (λ k. among Slashes k ≡ false) enders (refl, (refl, tt)) t.kind q), each (λ k. same k text_end ≡ false) enders (refl, (refl, tt)) t.kind q)

  past-reads : (n : ℕ) (t : Token) → Steps edition s between (as_operand edition s t) between (as_operand edition s (past_in edition s enders n t))
  unfolding past_in
  past-reads zero t = stay between (as_operand edition s t)
  past-reads (suc n) t =
      let v : Token = as_operand edition s (past_in edition s enders n (token_after edition s t)) in
      by-test (λ u. Steps edition s between (as_operand edition s t) between (as_operand edition s u)) (is_one_of enders t) (past_in edition s enders n (token_after edition s t)) t
      (λ q. subst (λ (w : Token). Steps edition s between w between v) (sym (ender-operand t q).0)
      (join edition s between t between (operand_after edition s t) between v (pass edition s between t 0 between (between-ender edition t.kind q) (omega arith) (ender-operand t q).1) (past-reads n (token_after edition s t))))
      (λ q. stay between (as_operand edition s t))

  -- ---- whole programs

  abbrev pub Finishes : Count → Token → Read Program → Type 0
  Finishes x o (ok p u) = (y : Count) × (Steps edition s x o y u) × (u.kind ≡ text_end)
  Finishes x o (no outcome place) = Refusal edition s x o outcome place

  finishes-map : (f : Program → Program) (x : Count) (o : Token) (r : Read Program) → Finishes x o r → Finishes x o (map f r)
  finishes-map f x o (ok p u) g = g
  finishes-map f x o (no outcome place) g = g

  finishes-earlier : (x : Count) (o : Token) (y : Count) (t : Token) (r : Read Program) → Steps edition s x o y t → Finishes y t r → Finishes x o r
  finishes-earlier x o y t (ok p u) w g = (g.0, join edition s x o y t g.0 u w g.1, g.2)
  finishes-earlier x o y t (no outcome place) w g = later edition s x o y t outcome place w g

  -- where an item can be read, or nothing but a refusal
  abbrev Ready : Count → Token → Type 0
  Ready y t = (is_one_of enders t ≡ true) ⊎ ((is text_end t ≡ true) ⊎ (Like edition s y t.kind (item_move edition t.kind)))

  ready-between : (t : Token) → Ready between t
  ready-between t = decide (is_one_of enders t) refl
    where
      decide : (c : Bool) → is_one_of enders t ≡ c → Ready between t
      decide true q = inl q
      decide false q = inr (inr (likely edition s between t.kind (item_move edition t.kind) (between-item edition t.kind q)))

  past-none : (t : Token) → past_in edition s enders zero t ≡ t
  unfolding past_in
  past-none t = refl

  abbrev ItemsRead : ℕ → Type 0
  ItemsRead i = (y : Count) (t : Token) → Ready y t → Finishes y t (items edition s i t)

  end-not : (u : Token) → is text_end u ≡ true → (is_one_of enders u ≡ false) × (as_operand edition s u ≡ u)
  unfolding among rank
  end-not u q = (known edition s (λ k. among enders k ≡ false) u.kind text_end q refl, unread edition s text_end u q refl)

  alone-past : (i : ℕ) → ItemsRead i → (f : ℕ) (u : Token) → is_one_of enders u ≡ true → (n : ℕ) → Finishes (after f pattern) u (items edition s i (as_operand edition s (past_in edition s enders n u)))
  alone-past i rest f u q zero =
      subst (λ (w : Token). Finishes (after f pattern) u (items edition s i w)) (sym (ap (as_operand edition s) (past-none u) ∙ (ender-operand u q).0)) (rest (after f pattern) u (inl q))
  alone-past i rest f u q (suc n) =
      let v : Token = as_operand edition s (past_in edition s enders n (token_after edition s u)) in
      subst (λ (w : Token). Finishes (after f pattern) u (items edition s i (as_operand edition s w))) (sym (past-turn edition s n u q))
      (finishes-earlier (after f pattern) u between v (items edition s i v)
      (join edition s (after f pattern) u between (operand_after edition s u) between v (pass edition s (after f pattern) u 0 between (pattern-ender edition f u.kind q) (omega arith) (ender-operand u q).1) (past-reads n (token_after edition s u)))
      (rest between v (ready-between v)))

  alone-reads : (i : ℕ) → ItemsRead i → (f : ℕ) (u : Token) → is_one_of (text_end ∷ enders) u ≡ true → Finishes (after f pattern) u (items edition s i (as_operand edition s (past edition s enders u)))
  unfolding among
  alone-reads i rest f u h =
      ⊎_elim
      (λ q. subst (λ (w : Token). Finishes (after f pattern) u (items edition s i w)) (sym (ap (as_operand edition s) (past-still edition s (length s) u (end-not u q).0) ∙ (end-not u q).1)) (rest (after f pattern) u (inr (inl q))))
      (λ q. alone-past i rest f u q (length s)) (or_cases (same u.kind text_end) (among enders u.kind) h)

  after-item : (i : ℕ) → ItemsRead i → (x : Count) (o : Token) (r : Read Item) → ItemReads x o r → Finishes x o (bind r (λ a u. map (λ p. a ∷ p) (items edition s i (as_operand edition s (past edition s enders u)))))
  after-item i rest x o (no outcome place) g = g
  after-item i rest x o (ok a u) (inl g) =
      let w : Token = as_operand edition s (past edition s enders u) in
      finishes-map (λ p. a ∷ p) x o (items edition s i w)
      (finishes-earlier x o between w (items edition s i w) (join edition s x o between (as_operand edition s u) between w g (past-reads (length s) u)) (rest between w (ready-between w)))
  after-item i rest x o (ok a u) (inr g) =
      let w : Token = as_operand edition s (past edition s enders u) in
      finishes-map (λ p. a ∷ p) x o (items edition s i w) (finishes-earlier x o (after g.0 pattern) u (items edition s i w) g.1 (alone-reads i rest g.0 u g.2))

  items-read : (i : ℕ) → ItemsRead i
  unfolding items
  items-read zero y t h = refused edition s y t
  items-read (suc i) y t h =
      by-test (Finishes y t) (is text_end t) (ok [] t) (bind (item_at edition s t) (λ a u. map (λ p. a ∷ p) (items edition s i (as_operand edition s (past edition s enders u)))))
      (λ q. (y, stay y t, same-is t.kind text_end q))
      (λ q. after-item i (items-read i) y t (item_at edition s t) (item_of q h))
    where
      item_of : is text_end t ≡ false → Ready y t → ItemReads y t (item_at edition s t)
      item_of q (inl r) = subst (ItemReads y t) (sym (dead-item t r)) (refused edition s y t)
      item_of q (inr (inl r)) = absurd (clash (sym r ∙ q))
      item_of q (inr (inr r)) = item-reads y t q r

  between-line : move edition between newline ≡ moves 0 between
  unfolding move among rank
  between-line = refl

  -- the reader of a text, beside the count
  pub program-counts : Finishes between (as_operand edition s (token_at edition s 0)) (read_program edition s)
  unfolding read_program
  program-counts =
      let t : Token = token_at edition s 0 in
      let u : Token = past_newlines edition s t in
      finishes-earlier between (as_operand edition s t) between u (items edition s (suc (length s)) u) (lines edition s between t refl between-line) (items-read (suc (length s)) between u (ready-between u))
