-- What statements begin with, and that no `else` follows a list of statements.
use mathlib.Core.Path.{◌≡◌, refl, sym, ap, subst, ◌∙◌}
use mathlib.Core.Bool.{Bool, true, false, not, ◌&&◌}
use mathlib.Core.List.{List, [], ◌∷◌, ◌++◌}
use mathlib.Core.Option.{some, none}
use mathlib.Core.Logic.{◌⊎◌, inl, inr, ⊎_elim}
use Prim.Native.Nat.{ℕ, zero, suc}
use Rattle.lists.proofs.Tests.{clash, or_left, or_right, or-false}
use Rattle.program_tokens.specs.Kinds.{Kind, text_end, newline, IF, ELSE, WHILE, PRINT, NEXT, EXIT, open_brace, close_brace, comma, semicolon, slash, div_assign, same, among, rank}
use Rattle.program_tokens.specs.Tokens.{Token, is, token_after}
use Rattle.program_grammar.specs.Sets.{enders, starts_expression, starts_statement}
use Rattle.program_grammar.specs.Grammar.{in_print, elsewhere, expression, Form, PrintList, last as last-element, next as next-element, End, needs_end, ended, Else, Statement, value, print, print-list, if, if-else, while, block, next, exit, empty, braces, Statements, none as no-statement, blank_line, after_ended, after_end, last}
use Rattle.program_reader.specs.Statements.{else_after, ended as tree-ended}
use Rattle.program_parser.proofs.Tokens.{Slashes}
use Rattle.program_exact.specs.Trees.{first, rest, tail}
use Rattle.program_exact.specs.Machine.{fresh, action, Context, listed, pattern, State, after, operand_step}
use Rattle.program_exact.proofs.Facts.{each, words, operands, no-function, no_operand, from, operand-starts}
use Rattle.program_exact.proofs.Forms.{runs}
use Rattle.program_exact.proofs.Bodies.{else-line, else-mark}
use Rattle.program_exact.proofs.Sayings.{first_kind, IsEmpty, Follow, starts-expression, first-append, first-not}
use Rattle.program_says.specs.Trees.{said_parts, said_statement}
use Rattle.program_says.proofs.Stretches.{Stretch, split, step, no_more, first-is, else-stops, else-again, is_ended}

-- kinds that begin no expression
abbrev pub closers : List Kind
closers = slash ∷ div_assign ∷ newline ∷ text_end ∷ ELSE ∷ close_brace ∷ []

abbrev pub Begun : List Kind → Type 0
Begun l = (IsEmpty l → ⊥) × (among closers (first_kind l) ≡ false)

pub open-facts : (k : Kind) → among closers k ≡ false
    → (among Slashes k ≡ false) × (same k newline ≡ false) × (same k text_end ≡ false) × (same k ELSE ≡ false) × (same k close_brace ≡ false)
unfolding among
open-facts k h =
    let a1 = or-false (same k slash) _ h in
    let a2 = or-false (same k div_assign) _ a1.1 in
    let a3 = or-false (same k newline) _ a2.1 in
    let a4 = or-false (same k text_end) _ a3.1 in
    let a5 = or-false (same k ELSE) _ a4.1 in
    let a6 = or-false (same k close_brace) _ a5.1 in
    (rw (a1.0, a2.0), a3.0, a4.0, a5.0, a6.0)

-- a lone `;`, which ends itself, or something that does not begin with one
abbrev pub Marked : End → List Kind → Type 0
Marked needs_end l = same (first_kind l) semicolon ≡ false
Marked ended l = (same (first_kind l) semicolon ≡ false) ⊎ (l ≡ semicolon ∷ [])

unmarked : (e : End) (l : List Kind) → same (first_kind l) semicolon ≡ false → Marked e l
unmarked needs_end l h = h
unmarked ended l h = inl h

module _ (edition : ℕ) (s : List ℕ) where
  -- ---- expressions

  -- no such kind begins an expression
  pub never_first : (ks : List Kind) → ((k : Kind) → among ks k ≡ true → (among operands k ≡ false) × (among words k ≡ false)) → (l : List Kind)
      → Form edition (expression elsewhere) l → among ks (first_kind l) ≡ false
  never_first ks h l d =
      let i = runs edition d pattern refl in
      first-not edition s (among ks) (operand_step edition fresh pattern) l (after i.0 pattern)
      (λ k q. let z = h k q in no_operand edition fresh pattern k z.0 (no-function edition k z.1)) i.1

  pub first-starts : (c : Context) (l : List Kind) (x : State) → from edition (operand_step edition fresh c) l ≡ some x → starts_expression edition (first_kind l) ≡ true
  first-starts c l x e =
      positive (starts_expression edition (first_kind l))
      (first-not edition s (λ k. not (starts_expression edition k)) (operand_step edition fresh c) l x (λ k q. operand-starts edition fresh c k (negative (starts_expression edition k) q)) e)
    where
      positive : (b : Bool) → not b ≡ false → b ≡ true
      positive true e = refl
      positive false e = absurd (clash e)

      negative : (b : Bool) → not b ≡ true → b ≡ false
      negative false e = refl
      negative true e = absurd (clash (sym e))

  pub expression-starts : (l : List Kind) → Form edition (expression elsewhere) l → starts_expression edition (first_kind l) ≡ true
  expression-starts l d = let i = runs edition d pattern refl in first-starts pattern l (after i.0 pattern) i.1

  element-starts : (l : List Kind) → Form edition (expression in_print) l → starts_expression edition (first_kind l) ≡ true
  element-starts l d = let i = runs edition d (listed 0 (action true)) refl in first-starts (listed 0 (action true)) l (after i.0 (listed 0 (action true))) i.1

  pub list-starts : (l : List Kind) → PrintList edition l → starts_expression edition (first_kind l) ≡ true
  list-starts l (last-element d) = element-starts l d
  list-starts _ (next-element {l = l} {n = n} {r = r} d h e) =
      ap (starts_expression edition) (first-append edition s l (comma ∷ (n ++ r)) (starts-expression edition s in_print l d).0) ∙ element-starts l d

  quiet_pair : (k : Kind) → among (semicolon ∷ closers) k ≡ true → (among operands k ≡ false) × (among words k ≡ false)
  unfolding among rank
  quiet_pair k q =
      each (λ k. (among operands k ≡ false) × (among words k ≡ false)) (semicolon ∷ closers)
      ((refl, refl), ((refl, refl), ((refl, refl), ((refl, refl), ((refl, refl), ((refl, refl), ((refl, refl), tt))))))) k q

  expression-begun : (l : List Kind) → Form edition (expression elsewhere) l → (Begun l) × (same (first_kind l) semicolon ≡ false)
  unfolding among
  expression-begun l d =
      let i = never_first (semicolon ∷ closers) quiet_pair l d in
      let a = or-false (same (first_kind l) semicolon) _ i in
      (((starts-expression edition s elsewhere l d).0, a.1), a.0)

  -- ---- statements

  pub record Opening (in_main : Bool) (e : End) (l : List Kind) : Type 0 where
    pub begun : Begun l
    pub starts : starts_statement edition in_main (first_kind l) ≡ true
    pub marked : Marked e l

  fixed-starts : (in_main : Bool) (k : Kind) → among (semicolon ∷ open_brace ∷ IF ∷ WHILE ∷ PRINT ∷ EXIT ∷ []) k ≡ true → starts_statement edition in_main k ≡ true
  unfolding starts_statement
  fixed-starts in_main k q = or_right (starts_expression edition k) _ (or_left _ (in_main && same k NEXT) q)

  next-starts : (in_main : Bool) → in_main ≡ true → starts_statement edition in_main NEXT ≡ true
  unfolding starts_statement among rank
  next-starts in_main q = or_right (starts_expression edition NEXT) _ (rw q)

  value-starts : (in_main : Bool) (k : Kind) → starts_expression edition k ≡ true → starts_statement edition in_main k ≡ true
  unfolding starts_statement
  value-starts in_main k q = or_left (starts_expression edition k) _ q

  pub opening : {in_main : Bool} {e : End} {o : Else} {l : List Kind} → Statement edition in_main e o l → Opening in_main e l
  unfolding among rank
  opening {in_main} (value {l = l} d) =
      let i = expression-begun l d in
      record { begun = i.0; starts = value-starts in_main (first_kind l) (expression-starts l d); marked = i.1 }
  opening {in_main} print = record { begun = ((λ z. z), refl); starts = fixed-starts in_main PRINT refl; marked = refl }
  opening {in_main} (print-list d) = record { begun = ((λ z. z), refl); starts = fixed-starts in_main PRINT refl; marked = refl }
  opening {in_main} {e} (if d h a) = record { begun = ((λ z. z), refl); starts = fixed-starts in_main IF refl; marked = unmarked e (IF ∷ _) refl }
  opening {in_main} {e} (if-else d h a k j f) = record { begun = ((λ z. z), refl); starts = fixed-starts in_main IF refl; marked = unmarked e (IF ∷ _) refl }
  opening {in_main} {e} (while d h a) = record { begun = ((λ z. z), refl); starts = fixed-starts in_main WHILE refl; marked = unmarked e (WHILE ∷ _) refl }
  opening {in_main} (block (braces d)) = record { begun = ((λ z. z), refl); starts = fixed-starts in_main open_brace refl; marked = inl refl }
  opening {in_main} (next h) = record { begun = ((λ z. z), refl); starts = next-starts in_main h; marked = refl }
  opening {in_main} exit = record { begun = ((λ z. z), refl); starts = fixed-starts in_main EXIT refl; marked = refl }
  opening {in_main} empty = record { begun = ((λ z. z), refl); starts = fixed-starts in_main semicolon refl; marked = inr refl }

  -- whether a tree that is said needs an end
  pub ended-said : {in_main : Bool} {e : End} {o : Else} {l : List Kind} (d : Statement edition in_main e o l) (ts : List Token) → tree-ended (said_statement edition s d ts) ≡ is_ended edition s e
  unfolding tree-ended said_statement said_parts
  ended-said (value d) ts = refl
  ended-said print ts = refl
  ended-said (print-list d) ts = refl
  ended-said (if {c = c} {n = n} d h a) ts = ended-said a (rest n (tail (rest c (tail (tail ts)))))
  ended-said (if-else {c = c} {n = n} {a = l} {b = b} {m = m} d h a k j f) ts = ended-said f (rest m (tail (rest b (rest l (rest n (tail (rest c (tail (tail ts)))))))))
  ended-said (while {c = c} {n = n} d h a) ts = ended-said a (rest n (tail (rest c (tail (tail ts)))))
  ended-said (block (braces d)) ts = refl
  ended-said (next h) ts = refl
  ended-said exit ts = refl
  ended-said empty ts = refl

  -- ---- no `else` follows

  first_else : (e : End) (l : List Kind) (t : Token) (ts : List Token) (u : Token) → Begun l → same (first_kind l) semicolon ≡ false → Stretch edition s l t ts u
      → (i : ℕ) (f p : Bool) → else_after edition s i f p t ≡ none
  unfolding among
  first_else e l t ts u b m w i f p =
      let k : t.kind ≡ first_kind l = first-is edition s l t ts u w b.0 in
      let z = open-facts (first_kind l) b.1 in
      else-stops edition s i f p t (ap (among (newline ∷ semicolon ∷ ELSE ∷ [])) k ∙ rw (z.1, m, z.3))

  else-line-none : (i : ℕ) (f p : Bool) (t v : Token) → is newline t ≡ true → Follow edition s t v → ((i : ℕ) → else_after edition s i true p v ≡ none) → else_after edition s i f p t ≡ none
  unfolding else_after
  else-line-none zero f p t v q w h = refl
  else-line-none (suc i) f p t v q w h = else-line edition s i f p t q ∙ (else-again edition s i true p (token_after edition s t) v w ∙ h i)

  else-mark-none : (i : ℕ) (f p : Bool) (t v : Token) → t.kind ≡ semicolon → Follow edition s t v → ((i : ℕ) → else_after edition s i true true v ≡ none) → else_after edition s i f p t ≡ none
  unfolding else_after rank
  else-mark-none zero f p t v q w h = refl
  else-mark-none (suc i) f false t v q w h =
      else-mark edition s i f t (ap (λ (j : Kind). same j newline) q) (ap (λ (j : Kind). same j semicolon) q) ∙ (else-again edition s i true true (token_after edition s t) v w ∙ h i)
  else-mark-none (suc i) f true t v q w h =
      let a : is newline t ≡ false = ap (λ (j : Kind). same j newline) q in
      let b : is semicolon t ≡ true = ap (λ (j : Kind). same j semicolon) q in
      let c : is ELSE t ≡ false = ap (λ (j : Kind). same j ELSE) q in
      rw (a, b, c)

  -- after what ends a statement no `else` follows, if none follows in the list after it
  pub else-ended : (i : ℕ) (f : Bool) (k : Kind) (t v : Token) → t.kind ≡ k → among enders k ≡ true → Follow edition s t v → ((i : ℕ) (p : Bool) → else_after edition s i true p v ≡ none)
      → else_after edition s i f false t ≡ none
  unfolding rank
  else-ended i f k t v e q w h =
      each (λ k. t.kind ≡ k → else_after edition s i f false t ≡ none) enders
      ((λ z. else-line-none i f false t v (ap (λ (j : Kind). same j newline) z) w (λ j. h j false)), ((λ z. else-mark-none i f false t v z w (λ j. h j true)), tt)) k q e

  pub list-none : {in_main : Bool} {l : List Kind} → Statements edition in_main l → (t : Token) (ts : List Token) (u : Token) → Stretch edition s l t ts u → u.kind ≡ close_brace
      → (i : ℕ) (f p : Bool) → else_after edition s i f p t ≡ none
  unfolding among rank
  list-none no-statement t ts u w k i f p =
      else-stops edition s i f p t (ap (λ (y : Token). among (newline ∷ semicolon ∷ ELSE ∷ []) y.kind) (no_more edition s t ts u w) ∙ ap (among (newline ∷ semicolon ∷ ELSE ∷ [])) k)
  list-none (blank_line {l = l} d) t ts u w k i f p =
      let a = step edition s newline l t ts u refl w in
      else-line-none i f p t a.next (ap (λ (j : Kind). same j newline) a.kind) a.follow (λ j. list-none d a.next (tail ts) u a.others k j true p)
  list-none (after_ended {a = a} {l = l} d r) t ts u w k i f p =
      let b = split edition s a l t ts u w in
      let o = opening d in
      ⊎_elim
      (λ m. first_else ended a t (first a ts) b.middle o.begun m b.left i f p)
      (λ m.
      let c = step edition s semicolon [] t (first a ts) b.middle refl (subst (λ (x : List Kind). Stretch edition s x t (first a ts) b.middle) m b.left) in
      else-mark-none i f p t b.middle c.kind (subst (Follow edition s t) (no_more edition s c.next (tail (first a ts)) b.middle c.others) c.follow)
      (λ j. list-none r b.middle (rest a ts) u b.right k j true true))
      o.marked
  list-none (after_end {k = j} {a = a} {l = l} d h r) t ts u w k i f p =
      let b = split edition s a (j ∷ l) t ts u w in
      let o = opening d in
      first_else needs_end a t (first a ts) b.middle o.begun o.marked b.left i f p
  list-none (last {a = a} d) t ts u w k i f p = let o = opening d in first_else needs_end a t ts u o.begun o.marked w i f p
