-- A program that is read: the walk passes its names, in its order, to the text's end.
use mathlib.Core.Path.{◌≡◌, refl, sym}
use mathlib.Core.Bool.{Bool, true, false, cond}
use mathlib.Core.List.{List, [], ◌∷◌, append-nil}
use mathlib.Core.Option.{some, none}
use Prim.Native.Nat.{ℕ, zero, suc, ◌-◌}
use lib.ListN.{length}
use Rattle.edition.specs.Limits.{nesting_depth}
use Rattle.program_tokens.specs.Kinds.{text_end, newline, BEGIN, END, open_brace, among, rank}
use Rattle.program_tokens.specs.Tokens.{Token, is, is_one_of, token_at, token_after, as_operand}
use Rattle.program_tree.specs.Tree.{Expression, Item, begin, end, main, Program}
use Rattle.program_grammar.specs.Sets.{enders}
use Rattle.program_reader.specs.Read.{Read, ok, no, map, bind, past}
use Rattle.program_reader.specs.Expressions.{expression_at}
use Rattle.program_reader.specs.Statements.{statement_at}
use Rattle.program_reader.specs.Programs.{action_at, after_pattern, item_at, items, read_program}
use Rattle.program_numbering.specs.Names.{names_in, names_in_all, names_in_statement, names_in_pattern, names_in_item, names_in_program}
use Rattle.program_names.specs.Walk.{spanned}
use Rattle.program_names.proofs.Walks.{Meets, meets-token, meets-kind, Walks, here, meets-spanned, meets-operand, past-walk, newlines-walk, joined, onward, to, from, past-names}
use Rattle.program_names.proofs.Expressions.{Good, open-met, expression-good}
use Rattle.program_names.proofs.Statements.{GoodOpen, open-cond, open-map, block-good, statement-good}

module _ (edition : ℕ) (s : List ℕ) where
  -- ---- items

  action-good : (in_main : Bool) (w t : Token) → Meets w t
      → GoodOpen edition s names_in_statement w (action_at edition s in_main t)
  unfolding action_at
  action-good in_main w t h =
      open-cond edition s names_in_statement w (is open_brace t) _ _
      (λ q. block-good edition s (statement_at edition s in_main (nesting_depth - 1))
      (statement-good edition s in_main (nesting_depth - 1)) w t q h)
      (λ q. tt)

  pattern-good : (w : Token) (r : Read Expression) → Good edition s names_in w 0 0 r
      → GoodOpen edition s names_in_item w (after_pattern edition s r)
  unfolding after_pattern names_in_item names_in_pattern names_in_statement names_in_all rank among
  pattern-good w (no outcome place) g = tt
  pattern-good w (ok e t) g =
      open-cond edition s names_in_item w (is open_brace t) _ _
      (λ q. open-map edition s names_in_statement names_in_item w t (names_in e) (main (some e))
      (action_at edition s true t) g (λ a. refl)
      (action-good true t t (λ f. refl)))
      (λ q. open-cond edition s names_in_item w (is_one_of (text_end ∷ enders) t) _ _
      (λ q. past-names (to g (sym (meets-token (text_end ∷ enders) (spanned s t) t refl q (meets-spanned edition s t))))
      (sym (append-nil (names_in e))))
      (λ q. tt))

  item-good : (w t : Token) → Meets w t → GoodOpen edition s names_in_item w (item_at edition s t)
  unfolding item_at names_in_item names_in_pattern rank among
  item-good w t h =
      let u : Token = token_after edition s t in
      open-cond edition s names_in_item w (is BEGIN t) _ _
      (λ q. open-map edition s names_in_statement names_in_item w (spanned s u) [] begin (action_at edition s false u)
      (open-met edition s BEGIN w t 0 refl q h) (λ a. refl)
      (action-good false (spanned s u) u (meets-spanned edition s u)))
      (λ q. open-cond edition s names_in_item w (is END t) _ _
      (λ q. open-map edition s names_in_statement names_in_item w (spanned s u) [] end (action_at edition s false u)
      (open-met edition s END w t 0 refl q h) (λ a. refl)
      (action-good false (spanned s u) u (meets-spanned edition s u)))
      (λ q. open-cond edition s names_in_item w (is open_brace t) _ _
      (λ q. open-map edition s names_in_statement names_in_item w w [] (main none) (action_at edition s true t)
      (here w 0) (λ a. refl) (action-good true w t h))
      (λ q. pattern-good w (expression_at edition s nesting_depth false t)
      (expression-good edition s nesting_depth false w t none h))))

  -- ---- programs

  -- to the text's end
  pub record Ended (w : Token) (p : Program) (u : Token) : Type 0 where
    pub walk : Walks edition s w 0 (names_in_program p) u 0
    pub last : is text_end u ≡ true

  abbrev pub GoodProgram : Token → Read Program → Type 0
  GoodProgram w (ok p u) = Ended w p u
  GoodProgram w (no outcome place) = Unit

  program-cond : (w : Token) (b : Bool) (x y : Read Program) → (b ≡ true → GoodProgram w x)
      → (b ≡ false → GoodProgram w y)
      → GoodProgram w (cond b x y)
  program-cond w true x y f g = f refl
  program-cond w false x y f g = g refl

  -- one item more
  program-item : (w v : Token) (i : Item) (r : Read Program) → Walks edition s w 0 (names_in_item i) v 0 → GoodProgram v r
      → GoodProgram w (map (λ l. i ∷ l) r)
  unfolding names_in_program
  program-item w v i (ok p u) q g = record { walk = joined q g.walk; last = g.last }
  program-item w v i (no outcome place) q g = tt

  abbrev ReadsItems : (Token → Read Program) → Type 0
  ReadsItems f = (w t : Token) → Meets w t → GoodProgram w (f t)

  more-good : (rest : Token → Read Program) → ReadsItems rest → (w : Token) (r : Read Item)
      → GoodOpen edition s names_in_item w r
      → GoodProgram w (bind r (λ i u. map (λ l. i ∷ l) (rest (as_operand edition s (past edition s enders u)))))
  unfolding rank among
  more-good rest c w (ok i u) g =
      let v : Token = past edition s enders u in
      program-item w (spanned s v) i (rest (as_operand edition s v))
      (onward g (past-walk edition s enders (length s) u 0 refl))
      (c (spanned s v) _ (meets-operand edition s v))
  more-good rest c w (no outcome place) g = tt

  items-good : (n : ℕ) → ReadsItems (items edition s n)
  unfolding items names_in_program rank among
  items-good zero w t h = tt
  items-good (suc n) w t h =
      program-cond w (is text_end t) _ _
      (λ q. record { walk = from (meets-kind text_end w t refl q h) (here t 0); last = q })
      (λ q. more-good (items edition s n) (items-good n) w (item_at edition s t) (item-good w t h))

  after-newlines : (w v : Token) (r : Read Program) → Walks edition s w 0 [] v 0 → GoodProgram v r → GoodProgram w r
  after-newlines w v (ok p u) q g = record { walk = joined q g.walk; last = g.last }
  after-newlines w v (no outcome place) q g = tt

  pub program-good : GoodProgram (spanned s (token_at edition s 0)) (read_program edition s)
  unfolding read_program
  program-good =
      let a : Token = token_at edition s 0 in
      let v : Token = past edition s (newline ∷ []) a in
      after-newlines (spanned s a) (spanned s v) (items edition s (suc (length s)) (as_operand edition s v))
      (newlines-walk edition s a 0)
      (items-good (suc (length s)) (spanned s v) _ (meets-operand edition s v))
