-- The reader of items and whole programs, beside the machine.
use mathlib.Core.Path.{◌≡◌, refl, sym, ap, subst, ◌∙◌}
use mathlib.Core.Bool.{Bool, true, false, cond, ◌||◌}
use mathlib.Core.List.{List, [], ◌∷◌}
use mathlib.Core.Option.{some, none}
use mathlib.Core.Logic.{◌⊎◌, inl, inr, ⊎_elim}
use Prim.Native.Nat.{ℕ, zero, suc, ◌+◌, ◌-◌, ◌≤◌, ◌<◌}
use native.Mathlib.Omega.{arith}
use lib.ListN.{length}
use Rattle.lists.proofs.Tests.{or-false, or_cases}
use Rattle.edition.specs.Limits.{nesting_depth}
use Rattle.program_tokens.specs.Kinds.{Kind, text_end, newline, ERE, BEGIN, END, open_brace, semicolon, same, among, rank}
use Rattle.program_tokens.specs.Tokens.{Token, is, is_one_of, token_at, token_after, as_operand}
use Rattle.program_tokens.proofs.Ranks.{same-is}
use Rattle.program_tree.specs.Tree.{Expression, Statement, print, Item, begin, end, main, Program}
use Rattle.program_grammar.specs.Sets.{enders}
use Rattle.program_reader.specs.Read.{Read, ok, no, map, bind, operand_after, past_in, past, past_newlines}
use Rattle.program_reader.specs.Expressions.{expression_at}
use Rattle.program_reader.specs.Statements.{block_of, statement_at}
use Rattle.program_reader.specs.Programs.{action_at, after_pattern, item_at, items, read_program}
use Rattle.program_parser.specs.Reading.{Good as InText}
use Rattle.program_parser.proofs.Tokens.{Slashes, good-at}
use Rattle.program_exact.specs.Machine.{fresh, plain, action, pattern, State, start, between, done, action_next, after, list, exit, operand_step, item_step, step}
use Rattle.program_exact.proofs.Facts.{each, by-test}
use Rattle.program_exact.proofs.Walks.{Walk, stay, walk-join, pass, pass-operand, after-in, operand_in, onward-after, onward-operand, at-end, operand-still, operand-test}
use Rattle.program_exact.proofs.Readings.{ere-start, ere-between, Refusal, Reads, refused, later, lines-in}
use Rattle.program_exact.proofs.Operands.{Whole, known}
use Rattle.program_exact.proofs.Tiers.{expression-reads}
use Rattle.program_exact.proofs.Bodies.{Paused, Pauses, unread, operand-start, not_end, fuelled, action-reads}

module _ (edition : ℕ) (s : List ℕ) where
  -- ---- an action

  brace-step : (in_main : Bool) (x : State) (t : Token) → InText edition s 0 t
      → step edition x t.kind ≡ cond (is open_brace t) (some (list 0 false (action in_main))) none → Pauses edition s between x t (suc t.start) (action_at edition s in_main t)
  unfolding action_at
  brace-step in_main x t g e =
      by-test (Pauses edition s between x t (suc t.start)) (is open_brace t) (block_of edition s (statement_at edition s in_main (nesting_depth - 1)) t) (no _ _)
      (λ q. action-reads edition s in_main (nesting_depth - 1) x t g q (e ∙ rw q)) (λ q. refused edition s x t (e ∙ rw q))

  -- ---- an item: a `}` ended it, or a pattern that is alone

  pub record Alone (x : State) (t : Token) (p : ℕ) (u : Token) : Type 0 where
    pub state : State
    pub walk : Walk edition s x t state u
    pub good : InText edition s 0 u
    pub onward : p ≤ u.start
    pub leaves : step edition state u.kind ≡ exit pattern u.kind
    pub ends : is_one_of (text_end ∷ enders) u ≡ true

  abbrev ItemReads : State → Token → ℕ → Read Item → Type 0
  ItemReads x t p (ok i u) = (Paused edition s between x t p u) ⊎ (Alone x t p u)
  ItemReads x t p (no outcome place) = Refusal edition s x t outcome place

  paused-item : (f : Statement → Item) (x : State) (t : Token) (p : ℕ) (r : Read Statement) → Pauses edition s between x t p r → ItemReads x t p (map f r)
  paused-item f x t p (ok a u) g = inl g
  paused-item f x t p (no outcome place) g = g

  item-earlier : (x : State) (t : Token) (y : State) (u : Token) (p q : ℕ) (r : Read Item) → Walk edition s x t y u → p ≤ q → ItemReads y u q r → ItemReads x t p r
  item-earlier x t y u p q (ok i v) w h (inl g) =
      inl (record { walk = walk-join edition s x t y u between (as_operand edition s v) w g.walk; good = g.good; onward = omega (arith, g.onward) })
  item-earlier x t y u p q (ok i v) w h (inr g) =
      inr (record { state = g.state; walk = walk-join edition s x t y u g.state v w g.walk; good = g.good; onward = omega (arith, g.onward); leaves = g.leaves; ends = g.ends })
  item-earlier x t y u p q (no outcome place) w h g = later edition s x t y u outcome place w g

  pattern-brace : (k : Kind) → same k open_brace ≡ true → exit pattern k ≡ cond (same k open_brace) (some (list 0 false (action true))) none
  unfolding exit
  pattern-brace k e = rw e

  pattern-none : (k : Kind) → same k open_brace ≡ false → among (text_end ∷ enders) k ≡ false → exit pattern k ≡ none
  unfolding exit among
  pattern-none k e h =
      let a = or-false (same k text_end) (among enders k) h in
      rw (e, a.1, a.0)

  pattern-reads : (x : State) (t : Token) (p : ℕ) (r : Read Expression) → Reads edition s (Whole edition s pattern) x t p r → ItemReads x t p (after_pattern edition s r)
  unfolding after_pattern
  pattern-reads x t p (no outcome place) g = g
  pattern-reads x t p (ok e u) g =
      by-test (ItemReads x t p) (is open_brace u) (map (main (some e)) (action_at edition s true u)) _
      (λ q. item-earlier x t g.state u p (suc u.start) (map (main (some e)) (action_at edition s true u)) g.walk (omega (arith, g.onward))
      (paused-item (main (some e)) g.state u (suc u.start) (action_at edition s true u) (brace-step true g.state u g.good (g.fact ∙ pattern-brace u.kind q))))
      (λ q. by-test (ItemReads x t p) (is_one_of (text_end ∷ enders) u) (ok (main (some e) (print [])) u) (no _ _)
      (λ r. inr (record { state = g.state; walk = g.walk; good = g.good; onward = g.onward; leaves = g.fact; ends = r }))
      (λ r. later edition s x t g.state u _ _ g.walk (refused edition s g.state u (g.fact ∙ pattern-none u.kind q r))))

  item-brace : (k : Kind) → same k open_brace ≡ true → item_step edition k ≡ cond (same k open_brace) (some (list 0 false (action true))) none
  unfolding item_step among rank
  item-brace k e = known edition s (λ k. item_step edition k ≡ cond (same k open_brace) (some (list 0 false (action true))) none) k open_brace e refl

  item-pattern : (k : Kind) → same k text_end ≡ false → same k BEGIN ≡ false → same k END ≡ false → same k open_brace ≡ false → item_step edition k ≡ operand_step edition fresh pattern k
  unfolding item_step among
  item-pattern k a b c d = rw (a, b, c, d)

  action-step : (k : Kind) → step edition action_next k ≡ cond (same k open_brace) (some (list 0 false (action false))) none
  unfolding step
  action-step k = refl

  action-ere : step edition action_next ERE ≡ none
  unfolding step rank
  action-ere = refl

  -- after `BEGIN` or `END`
  section-reads : (f : Statement → Item) (j : Kind) (x : State) (t : Token) → InText edition s 0 t → is j t ≡ true → same j text_end ≡ false → item_step edition j ≡ some action_next
      → step edition x t.kind ≡ item_step edition t.kind → ItemReads x t (suc t.start) (map f (action_at edition s false (token_after edition s t)))
  section-reads f j x t g q n i e =
      let v : Token = token_after edition s t in
      let on : t.start < v.start = onward-after edition s t g (known edition s (λ k. same k text_end ≡ false) t.kind j q n) in
      item-earlier x t action_next v (suc t.start) (suc v.start) (map f (action_at edition s false v))
      (pass edition s x t action_next tt (e ∙ known edition s (λ k. item_step edition k ≡ some action_next) t.kind j q i) action-ere) (omega (arith, on))
      (paused-item f action_next v (suc v.start) (action_at edition s false v) (brace-step false action_next v (after-in edition s t g) (action-step v.kind)))

  item-reads : (x : State) (t : Token) → InText edition s 0 t → same t.kind text_end ≡ false → step edition x t.kind ≡ item_step edition t.kind
      → ItemReads x t (suc t.start) (item_at edition s t)
  unfolding item_at item_step among rank
  item-reads x t g n e =
      let R : Read Item → Type 0 = ItemReads x t (suc t.start) in
      by-test R (is BEGIN t) (map begin (action_at edition s false (token_after edition s t))) _ (λ q. section-reads begin BEGIN x t g q refl refl e)
      (λ q1. by-test R (is END t) (map end (action_at edition s false (token_after edition s t))) _ (λ q. section-reads end END x t g q refl refl e)
      (λ q2. by-test R (is open_brace t) (map (main none) (action_at edition s true t)) _
      (λ q. paused-item (main none) x t (suc t.start) (action_at edition s true t) (brace-step true x t g (e ∙ item-brace t.kind q)))
      (λ q3. pattern-reads x t (suc t.start) (expression_at edition s nesting_depth false t)
      (expression-reads edition s nesting_depth false pattern x t refl g (e ∙ item-pattern t.kind n q1 q2 q3)))))

  -- ---- newlines and `;` after an item

  ender-operand : (t : Token) → is_one_of enders t ≡ true → as_operand edition s t ≡ t
  unfolding among rank
  ender-operand t q = operand-still edition s t (each (λ k. among Slashes k ≡ false) enders (refl, (refl, tt)) t.kind q)

  between_stays : (k : Kind) → among enders k ≡ true → step edition between k ≡ some between
  unfolding step
  between_stays k q = rw q

  between-item : (k : Kind) → among enders k ≡ false → step edition between k ≡ item_step edition k
  unfolding step
  between-item k q = rw q

  operand-enders : (t : Token) → is_one_of enders (as_operand edition s t) ≡ is_one_of enders t
  unfolding among rank
  operand-enders t =
      ap (λ (b : Bool). b || (is semicolon (as_operand edition s t) || false)) (operand-test edition s newline t (refl, refl, refl, refl, refl))
      ∙ ap (λ (b : Bool). is newline t || (b || false)) (operand-test edition s semicolon t (refl, refl, refl, refl, refl))

  abbrev Past : Token → Token → Type 0
  Past t u = (Walk edition s between t between u) × (InText edition s 0 u) × (t.start ≤ u.start) × (is_one_of enders u ≡ false)

  end-no-ender : (t : Token) → InText edition s 0 t → length s ≤ t.start → is_one_of enders t ≡ false
  unfolding among rank
  end-no-ender t g h = known edition s (λ k. among enders k ≡ false) t.kind text_end (at-end edition s t g h) refl

  past-reads : (n : ℕ) (t : Token) → InText edition s 0 t → length s ≤ n + t.start → Past (as_operand edition s t) (as_operand edition s (past_in edition s enders n t))
  unfolding past_in
  past-reads zero t g h = (stay between (as_operand edition s t), operand_in edition s t g, omega arith, operand-enders t ∙ end-no-ender t g (omega arith))
  past-reads (suc n) t g h =
      let v : Token = as_operand edition s (past_in edition s enders n (token_after edition s t)) in
      by-test (λ u. Past (as_operand edition s t) (as_operand edition s u)) (is_one_of enders t) (past_in edition s enders n (token_after edition s t)) t
      (λ q.
      let on : t.start < (token_after edition s t).start = onward-after edition s t g (not_end edition s t.kind q) in
      let from : t.start < (operand_after edition s t).start = onward-operand edition s t g (not_end edition s t.kind q) in
      let i = past-reads n (token_after edition s t) (after-in edition s t g) (omega (arith, h, on)) in
      subst (λ (w : Token). Past w v) (sym (ender-operand t q)) (
        walk-join edition s between t between (operand_after edition s t) between v (pass-operand edition s between t between (after plain pattern) (between_stays t.kind q) (ere-between edition)) i.0,
        i.1,
        omega (arith, i.2, from),
        i.3,
      ))
      (λ q. (stay between (as_operand edition s t), operand_in edition s t g, omega arith, operand-enders t ∙ q))

  pub past-still : (n : ℕ) (t : Token) → is_one_of enders t ≡ false → past_in edition s enders n t ≡ t
  unfolding past_in
  past-still zero t q = refl
  past-still (suc n) t q = rw q

  pub past-turn : (n : ℕ) (t : Token) → is_one_of enders t ≡ true → past_in edition s enders (suc n) t ≡ past_in edition s enders n (token_after edition s t)
  unfolding past_in
  past-turn n t q = rw q

  -- ---- whole programs

  abbrev pub Finishes : State → Token → Read Program → Type 0
  Finishes x o (ok p u) = (y : State) × (Walk edition s x o y u) × (u.kind ≡ text_end) × (step edition y text_end ≡ some done)
  Finishes x o (no outcome place) = Refusal edition s x o outcome place

  finishes-map : (f : Program → Program) (x : State) (o : Token) (r : Read Program) → Finishes x o r → Finishes x o (map f r)
  finishes-map f x o (ok p u) g = g
  finishes-map f x o (no outcome place) g = g

  item-end : item_step edition text_end ≡ some done
  unfolding item_step rank
  item-end = refl

  leave-end : exit pattern text_end ≡ some done
  unfolding exit among rank
  leave-end = refl

  leave-ender : (k : Kind) → among enders k ≡ true → exit pattern k ≡ some between
  unfolding exit among rank
  leave-ender k q = each (λ k. exit pattern k ≡ some between) enders (refl, (refl, tt)) k q

  end-still : (u : Token) → is text_end u ≡ true → as_operand edition s (past edition s enders u) ≡ u
  unfolding among rank
  end-still u q =
      ap (as_operand edition s) (past-still (length s) u (known edition s (λ k. among enders k ≡ false) u.kind text_end q refl)) ∙ unread edition s text_end u q refl

  abbrev ItemsRead : ℕ → Type 0
  ItemsRead i = (x : State) (o : Token) (y : State) (t : Token) → Walk edition s x o y t → InText edition s 0 t → step edition y t.kind ≡ item_step edition t.kind
      → suc (length s) ≤ i + t.start → Finishes x o (items edition s i t)

  alone-reads : (i : ℕ) → ItemsRead i → (x : State) (o : Token) (l : ℕ) (u : Token) → suc (length s) ≤ i + l → Alone x o l u → Finishes x o (items edition s i (as_operand edition s (past edition s enders u)))
  unfolding among
  alone-reads i rest x o l u f g =
      ⊎_elim
      (λ q.
      let k : u.kind ≡ text_end = same-is u.kind text_end q in
      subst (λ (w : Token). Finishes x o (items edition s i w)) (sym (end-still u q))
      (rest x o g.state u g.walk g.good (g.leaves ∙ (ap (exit pattern) k ∙ (leave-end ∙ sym (ap (item_step edition) k ∙ item-end)))) (omega (arith, f, g.onward))))
      (λ q.
      let end : same u.kind text_end ≡ false = not_end edition s u.kind q in
      let j = fuelled edition s u (length s) g.good end (omega arith) in
      let v : Token = token_after edition s u in
      let w : Token = past_in edition s enders j.0 v in
      let on : u.start < v.start = onward-after edition s u g.good end in
      let counted : length s ≡ suc j.0 = j.1 in
      let i2 = past-reads j.0 v (after-in edition s u g.good) (omega (arith, counted, on)) in
      let same-token : past edition s enders u ≡ w = ap (λ (n : ℕ). past_in edition s enders n u) counted ∙ past-turn j.0 u q in
      let from : u.start < (operand_after edition s u).start = onward-operand edition s u g.good end in
      subst (λ (z : Token). Finishes x o (items edition s i (as_operand edition s z))) (sym same-token)
      (rest x o between (as_operand edition s w)
      (walk-join edition s x o g.state u between (as_operand edition s w) g.walk
      (walk-join edition s g.state u between (operand_after edition s u) between (as_operand edition s w)
      (pass-operand edition s g.state u between (after plain pattern) (g.leaves ∙ leave-ender u.kind q) (ere-between edition)) i2.0))
      i2.1 (between-item (as_operand edition s w).kind i2.3) (omega (arith, f, g.onward, from, i2.2))))
      (or_cases (same u.kind text_end) (among enders u.kind) g.ends)

  after-item : (i : ℕ) → ItemsRead i → (x : State) (o : Token) (l : ℕ) (r : Read Item) → suc (length s) ≤ i + l → ItemReads x o l r
      → Finishes x o (bind r (λ a u. map (λ p. a ∷ p) (items edition s i (as_operand edition s (past edition s enders u)))))
  after-item i rest x o l (no outcome place) f g = g
  after-item i rest x o l (ok a u) f (inl g) =
      let w : Token = as_operand edition s (past edition s enders u) in
      let j = past-reads (length s) u g.good (omega arith) in
      finishes-map (λ p. a ∷ p) x o (items edition s i w)
      (rest x o between w (walk-join edition s x o between (as_operand edition s u) between w g.walk j.0) j.1 (between-item w.kind j.3)
      (omega (arith, f, g.onward, operand-start edition s u g.good, j.2)))
  after-item i rest x o l (ok a u) f (inr g) =
      finishes-map (λ p. a ∷ p) x o (items edition s i (as_operand edition s (past edition s enders u))) (alone-reads i rest x o l u f g)

  items-read : (i : ℕ) → ItemsRead i
  unfolding items
  items-read zero x o y t w g e f = absurd (omega (arith, f, g.ordered, g.within))
  items-read (suc i) x o y t w g e f =
      by-test (Finishes x o) (is text_end t) (ok [] t) (bind (item_at edition s t) (λ a u. map (λ p. a ∷ p) (items edition s i (as_operand edition s (past edition s enders u)))))
      (λ q. let k : t.kind ≡ text_end = same-is t.kind text_end q in (y, w, k, sym (ap (step edition y) k) ∙ (e ∙ (ap (item_step edition) k ∙ item-end))))
      (λ q. after-item i (items-read i) x o (suc t.start) (item_at edition s t) (omega (arith, f)) (item-earlier x o y t (suc t.start) (suc t.start) (item_at edition s t) w (omega arith) (item-reads y t g q e)))

  start-line : step edition start newline ≡ some start
  unfolding step rank
  start-line = refl

  start-item : (k : Kind) → same k newline ≡ false → step edition start k ≡ item_step edition k
  unfolding step
  start-item k e = rw e

  -- the reader of a text, beside the machine
  pub program-reads : Finishes start (as_operand edition s (token_at edition s 0)) (read_program edition s)
  unfolding read_program
  program-reads =
      let t : Token = token_at edition s 0 in
      let u : Token = past_newlines edition s t in
      let g : InText edition s 0 t = good-at edition s 0 (omega arith) in
      let i = lines-in edition s start (after plain pattern) start-line (ere-start edition) (length s) t g (omega arith) in
      items-read (suc (length s)) start (as_operand edition s t) start u i.0 i.1 (start-item u.kind i.3) (omega arith)
