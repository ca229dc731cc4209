-- The count opens the levels that each derivation says.
use mathlib.Core.Path.{◌≡◌, refl, sym, ap, ◌∙◌}
use mathlib.Core.Bool.{Bool, true, false}
use mathlib.Core.List.{List, [], ◌∷◌, ◌++◌}
use mathlib.Core.Option.{Option, some, none}
use mathlib.Core.Logic.{⊎_elim}
use Prim.Native.Nat.{ℕ, suc}
use lib.Dec.{eqb}
use Rattle.lists.proofs.Options.{none-some}
use Rattle.program_tokens.specs.Kinds.{Kind, newline, NUMBER, STRING, ERE, open_paren, close_paren, comma, dollar, tilde, no_match, assign, or_or, and_and, same, among, rank}
use Rattle.program_tree.specs.Functions.{Function, function_of}
use Rattle.program_grammar.specs.Sets.{names, targets, prefixes, starts_expression}
use Rattle.program_grammar.specs.Grammar.{Newlines, none as no-newline, more as newline-more, Place, in_print, elsewhere, Compares, any, no_greater, Part, expression, disjunction, conjunction, matching, comparison, concatenation, sum, product, prefixed, field, primary, argument, arguments, Form, to_name, to_field, value as value-form, or, no_or, and, no_and, match, no_ere, compare, no_compare, join, no_join, add, no_add, multiply, no_multiply, prefix, no_prefix, of_field, no_field, one_token, parentheses, call as call-form, last_argument, next_argument, expression_argument, ere_argument as ere-form}
use Rattle.program_reader.specs.Operators.{tier_of}
use Rattle.program_exact.specs.Machine.{State, fresh, plain, action as action-blocks, Context, listed, pattern as pattern-context, operand_step, run}
use Rattle.program_exact.proofs.Facts.{each, words, quiet, idle, no-function, function-word, tier-product, tier-sum, tier-and, tier-or, tier-compared, tier-quiet, tier-other, run_none, from, idle-operand, operand-starts, joins}
use Rattle.program_exact.proofs.Forms.{one_of, runs}
use Rattle.program_levels.specs.Levels.{still, opened}
use Rattle.program_levels.proofs.Count.{Around, paren, Count, operand, calling, after, Move, moves, leave, operand_move, other_move, after_move, move, travel, trace}

abbrev pub AtFirst : (Kind → Type 0) → List Kind → Type 0
AtFirst P [] = Unit
AtFirst P (k ∷ l) = P k

pub at_first : (P Q : Kind → Type 0) (l : List Kind) → ((k : Kind) → P k → Q k) → AtFirst P l → AtFirst Q l
at_first P Q [] f h = tt
at_first P Q (k ∷ l) f h = f k h

module _ (edition : ℕ) where
  -- ---- travels

  pub travel-append : (a b : List Kind) (x : Count) → travel edition (a ++ b) x ≡ travel edition b (travel edition a x)
  unfolding travel
  travel-append [] b x = refl
  travel-append (k ∷ a) b x = travel-append a b (move edition x k).to

  pub trace-append : (a b : List Kind) (x : Count) → trace edition (a ++ b) x ≡ trace edition a x ++ trace edition b (travel edition a x)
  unfolding travel trace
  trace-append [] b x = refl
  trace-append (k ∷ a) b x = ap (λ (r : List ℕ). (move edition x k).level ∷ r) (trace-append a b (move edition x k).to)

  pub record Went (x : Count) (l : List Kind) (ns : List ℕ) (y : Count) : Type 0 where
    pub arrives : travel edition l x ≡ y
    pub levels : trace edition l x ≡ ns

  abbrev pub Goes : (Kind → Move) → List Kind → List ℕ → Count → Type 0
  Goes f [] ns y = ⊥
  Goes f (k ∷ l) ns y = (travel edition l (f k).to ≡ y) × ((f k).level ∷ trace edition l (f k).to ≡ ns)

  pub went-nil : (x : Count) → Went x [] [] x
  unfolding travel trace
  went-nil x = record { arrives = refl; levels = refl }

  pub went_then : (x : Count) (a b : List Kind) (ns ms : List ℕ) (y z : Count) → Went x a ns y → Went y b ms z → Went x (a ++ b) (ns ++ ms) z
  went_then x a b ns ms y z g w =
      record {
        arrives = travel-append a b x ∙ (ap (travel edition b) g.arrives ∙ w.arrives);
        levels = trace-append a b x
            ∙ (ap (λ (u : Count). trace edition a x ++ trace edition b u) g.arrives
            ∙ (ap (λ (r : List ℕ). trace edition a x ++ r) w.levels ∙ ap (λ (r : List ℕ). r ++ ms) g.levels));
      }

  pub goes_then : (f : Kind → Move) (a b : List Kind) (ns ms : List ℕ) (y z : Count) → Goes f a ns y → Went y b ms z → Goes f (a ++ b) (ns ++ ms) z
  goes_then f [] b ns ms y z g w = absurd g
  goes_then f (k ∷ a) b ns ms y z g w =
      let x : Count = (f k).to in
      let n : ℕ = (f k).level in (
        travel-append a b x ∙ (ap (travel edition b) g.0 ∙ w.arrives),
        ap (λ (r : List ℕ). n ∷ r) (trace-append a b x)
            ∙ (ap (λ (u : Count). (n ∷ trace edition a x) ++ trace edition b u) g.0
            ∙ (ap (λ (r : List ℕ). (n ∷ trace edition a x) ++ r) w.levels ∙ ap (λ (r : List ℕ). r ++ ms) g.1)),
      )

  pub went-step : (x : Count) (k : Kind) (n : ℕ) (y : Count) (l : List Kind) (ms : List ℕ) (z : Count) → move edition x k ≡ moves n y → Went y l ms z → Went x (k ∷ l) (n ∷ ms) z
  unfolding travel trace
  went-step x k n y l ms z e w =
      record {
        arrives = ap (λ (m : Move). travel edition l m.to) e ∙ w.arrives;
        levels = ap (λ (m : Move). m.level ∷ trace edition l m.to) e ∙ ap (λ (r : List ℕ). n ∷ r) w.levels;
      }

  pub goes_step : (f : Kind → Move) (k : Kind) (n : ℕ) (y : Count) (l : List Kind) (ms : List ℕ) (z : Count) → f k ≡ moves n y → Went y l ms z → Goes f (k ∷ l) (n ∷ ms) z
  goes_step f k n y l ms z e w =
      (ap (λ (m : Move). travel edition l m.to) e ∙ w.arrives, ap (λ (m : Move). m.level ∷ trace edition l m.to) e ∙ ap (λ (r : List ℕ). n ∷ r) w.levels)

  pub swapped : (f g : Kind → Move) (l : List Kind) (ns : List ℕ) (y : Count) → AtFirst (λ k. f k ≡ g k) l → Goes g l ns y → Goes f l ns y
  swapped f g [] ns y e h = h
  swapped f g (k ∷ l) ns y e h =
      (ap (λ (m : Move). travel edition l m.to) e ∙ h.0, ap (λ (m : Move). m.level ∷ trace edition l m.to) e ∙ h.1)

  pub went-first : (x : Count) (f : Kind → Move) (l : List Kind) (ns : List ℕ) (y : Count) → AtFirst (λ k. move edition x k ≡ f k) l → Goes f l ns y → Went x l ns y
  unfolding travel trace
  went-first x f [] ns y e h = absurd h
  went-first x f (k ∷ l) ns y e h =
      record {
        arrives = ap (λ (m : Move). travel edition l m.to) e ∙ h.0;
        levels = ap (λ (m : Move). m.level ∷ trace edition l m.to) e ∙ h.1;
      }

  pub went-operand : (d e : ℕ) (c : Around) (l : List Kind) (ns : List ℕ) (y : Count) → Goes (operand_move edition d e c) l ns y → Went (operand d e c) l ns y
  unfolding travel trace move
  went-operand d e c [] ns y h = absurd h
  went-operand d e c (k ∷ l) ns y h = record { arrives = h.0; levels = h.1 }

  -- ---- moves

  pub lines-went : (d e : ℕ) (c : Around) (l : List Kind) → Newlines l → Went (operand d e c) l (still l) (operand d e c)
  unfolding move operand_move rank
  lines-went d e c _ no-newline = went-nil (operand d e c)
  lines-went d e c _ (newline-more {l = l} h) = went-step (operand d e c) newline 0 (operand d e c) l (still l) (operand d e c) refl (lines-went d e c l h)

  pub plain-move : (d e : ℕ) (c : Around) (k : Kind) → same k newline ≡ false → among (dollar ∷ prefixes) k ≡ false → same k open_paren ≡ false → function_of edition k ≡ none
      → operand_move edition d e c k ≡ moves 0 (after e c)
  unfolding operand_move
  plain-move d e c k h i j f = rw (h, i, j, f)

  pub token-move : (d e : ℕ) (c : Around) (k : Kind) → among (NUMBER ∷ STRING ∷ ERE ∷ names) k ≡ true → operand_move edition d e c k ≡ moves 0 (after e c)
  unfolding among rank
  token-move d e c k h =
      let four : (k : Kind) → Type 0 = λ k. (same k newline ≡ false) × (among (dollar ∷ prefixes) k ≡ false) × (same k open_paren ≡ false) × (among words k ≡ false) in
      let q = each four (NUMBER ∷ STRING ∷ ERE ∷ names) ((refl, refl, refl, refl), ((refl, refl, refl, refl), ((refl, refl, refl, refl), ((refl, refl, refl, refl), ((refl, refl, refl, refl), ((refl, refl, refl, refl), tt)))))) k h in
      plain-move d e c k q.0 q.1 q.2 (no-function edition k q.3)

  word-move : (d e : ℕ) (c : Around) (k : Kind) (f : Function) → same k newline ≡ false → among (dollar ∷ prefixes) k ≡ false → same k open_paren ≡ false → function_of edition k ≡ some f
      → operand_move edition d e c k ≡ moves 0 (calling d e c)
  unfolding operand_move
  word-move d e c k f h i j g = rw (h, i, j, g)

  pub function-move : (d e : ℕ) (c : Around) (k : Kind) (f : Function) → function_of edition k ≡ some f → operand_move edition d e c k ≡ moves 0 (calling d e c)
  unfolding among rank
  function-move d e c k f h =
      let three : (k : Kind) → Type 0 = λ k. (same k newline ≡ false) × (among (dollar ∷ prefixes) k ≡ false) × (same k open_paren ≡ false) in
      let q = each three words ((refl, refl, refl), ((refl, refl, refl), ((refl, refl, refl), ((refl, refl, refl), tt)))) k (function-word edition k f h) in
      word-move d e c k f q.0 q.1 q.2 h

  pub prefix-move : (d e : ℕ) (c : Around) (k : Kind) → among (dollar ∷ prefixes) k ≡ true → operand_move edition d e c k ≡ moves (suc d) (operand (suc d) e c)
  unfolding operand_move among rank
  prefix-move d e c k h = each (λ k. operand_move edition d e c k ≡ moves (suc d) (operand (suc d) e c)) (dollar ∷ prefixes) (refl, (refl, (refl, (refl, tt)))) k h

  pub paren-move : (d e : ℕ) (c : Around) → operand_move edition d e c open_paren ≡ moves (suc d) (operand (suc d) (suc d) (paren (suc d) e c))
  unfolding operand_move among rank
  paren-move d e c = refl

  -- after an operand, by the tier of the kind
  pub binary-move : (e : ℕ) (c : Around) (k : Kind) (n : ℕ) → tier_of edition false k ≡ n → eqb n 4 ≡ false → eqb n 0 ≡ false → after_move edition e c k ≡ moves 0 (operand e e c)
  unfolding after_move
  binary-move e c k n h i j = rw (h, i, j)

  pub join-move : (e : ℕ) (c : Around) (k : Kind) → tier_of edition false k ≡ 4 → after_move edition e c k ≡ operand_move edition e e c k
  unfolding after_move
  join-move e c k h = rw h

  other-move : (e : ℕ) (c : Around) (k : Kind) → tier_of edition false k ≡ 0 → after_move edition e c k ≡ other_move edition e c k
  unfolding after_move
  other-move e c k h = rw h

  pub match-move : (e : ℕ) (c : Around) (k : Kind) → among (tilde ∷ no_match ∷ []) k ≡ true → after_move edition e c k ≡ moves 0 (operand e e c)
  unfolding other_move among rank
  match-move e c k h =
      other-move e c k (tier-other edition false k (each (λ k. among (tilde ∷ no_match ∷ assign ∷ []) k ≡ true) (tilde ∷ no_match ∷ []) (refl, (refl, tt)) k h))
      ∙ each (λ k. other_move edition e c k ≡ moves 0 (operand e e c)) (tilde ∷ no_match ∷ []) (refl, (refl, tt)) k h

  pub assign-move : (e : ℕ) (c : Around) → after_move edition e c assign ≡ moves (suc e) (operand (suc e) (suc e) c)
  unfolding other_move among rank
  assign-move e c = other-move e c assign (tier-other edition false assign refl)

  left-move : (e : ℕ) (c : Around) (k : Kind) → among (tilde ∷ no_match ∷ []) k ≡ false → same k assign ≡ false → other_move edition e c k ≡ leave c k
  unfolding other_move
  left-move e c k h i = rw (h, i)

  pub quiet-move : (e : ℕ) (c : Around) (k : Kind) → among quiet k ≡ true → after_move edition e c k ≡ leave c k
  unfolding among rank
  quiet-move e c k h =
      let q = each (λ k. (among (tilde ∷ no_match ∷ []) k ≡ false) × (same k assign ≡ false)) quiet
      ((refl, refl), ((refl, refl), ((refl, refl), ((refl, refl), ((refl, refl), ((refl, refl), ((refl, refl), tt))))))) k h in
      other-move e c k (tier-quiet edition false k h) ∙ left-move e c k q.0 q.1

  pub after_is : (e : ℕ) (c : Around) (k : Kind) → move edition (after e c) k ≡ after_move edition e c k
  unfolding move
  after_is e c k = refl

  pub operand-is : (d e : ℕ) (c : Around) (k : Kind) → move edition (operand d e c) k ≡ operand_move edition d e c k
  unfolding move
  operand-is d e c k = refl

  -- ---- what forms begin with

  first-takes : (f : Kind → Option State) (l : List Kind) (x : State) → from edition f l ≡ some x → AtFirst (λ k. f k ≡ none → ⊥) l
  first-takes f [] x h = tt
  first-takes f (k ∷ l) x h = λ e. none-some (sym (run_none edition l) ∙ (ap (run edition l) (sym e) ∙ h))

  -- what begins an expression
  unfoldable pub Begins : Kind → Type 0
  Begins k = (among idle k ≡ false) × (starts_expression edition k ≡ true)

  pub begins-of : (c : Context) (k : Kind) → (operand_step edition fresh c k ≡ none → ⊥) → Begins k
  unfolding Begins
  begins-of c k h = (decide (among idle k) refl, other (starts_expression edition k) refl)
    where
      decide : (b : Bool) → among idle k ≡ b → among idle k ≡ false
      decide false e = e
      decide true e = absurd (h (idle-operand edition fresh c k e))

      other : (b : Bool) → starts_expression edition k ≡ b → starts_expression edition k ≡ true
      other true e = e
      other false e = absurd (h (operand-starts edition fresh c k e))

  pub expression-begins : (p : Place) (l : List Kind) → Form edition (expression p) l → AtFirst Begins l
  expression-begins in_print l d =
      let c : Context = listed 0 (action-blocks true) in
      let i = runs edition d c refl in
      at_first (λ k. operand_step edition fresh c k ≡ none → ⊥) Begins l (begins-of c) (first-takes (operand_step edition fresh c) l _ i.1)
  expression-begins elsewhere l d =
      let c : Context = pattern-context in
      let i = runs edition d c refl in
      at_first (λ k. operand_step edition fresh c k ≡ none → ⊥) Begins l (begins-of c) (first-takes (operand_step edition fresh c) l _ i.1)

  joined-tier : (k : Kind) (r : List Kind) → Form edition sum (k ∷ r) → among (ERE ∷ prefixes) k ≡ false → tier_of edition false k ≡ 4
  joined-tier k r d q =
      let i = runs edition d plain pattern-context tt in
      ⊎_elim (λ z. absurd (none-some (sym (run_none edition r) ∙ (ap (run edition r) (sym z) ∙ i.2)))) (λ z. z) (joins edition false plain pattern-context k q)

  compared-tier : (p : Place) (k : Kind) → Compares p k → tier_of edition false k ≡ 5
  compared-tier p k (any o) = tier-compared edition k (one_of o)
  compared-tier p k (no_greater o g) = tier-compared edition k (one_of o)

  -- ---- every form

  abbrev Passes : Part → List Kind → (ℕ → List ℕ) → Type 0
  Passes (expression p) l ns = (e : ℕ) (c : Around) → (f : ℕ) × Goes (operand_move edition e e c) l (ns e) (after f c)
  Passes (disjunction p) l ns = (e : ℕ) (c : Around) → Goes (operand_move edition e e c) l (ns e) (after e c)
  Passes (conjunction p) l ns = (e : ℕ) (c : Around) → Goes (operand_move edition e e c) l (ns e) (after e c)
  Passes (matching p) l ns = (e : ℕ) (c : Around) → Goes (operand_move edition e e c) l (ns e) (after e c)
  Passes (comparison p) l ns = (e : ℕ) (c : Around) → Goes (operand_move edition e e c) l (ns e) (after e c)
  Passes concatenation l ns = (e : ℕ) (c : Around) → Goes (operand_move edition e e c) l (ns e) (after e c)
  Passes sum l ns = (e : ℕ) (c : Around) → Goes (operand_move edition e e c) l (ns e) (after e c)
  Passes product l ns = (e : ℕ) (c : Around) → Goes (operand_move edition e e c) l (ns e) (after e c)
  Passes prefixed l ns = (d e : ℕ) (c : Around) → Goes (operand_move edition d e c) l (ns d) (after e c)
  Passes field l ns = (d e : ℕ) (c : Around) → Goes (operand_move edition d e c) l (ns d) (after e c)
  Passes primary l ns = (d e : ℕ) (c : Around) → Goes (operand_move edition d e c) l (ns d) (after e c)
  Passes (argument x) l ns = (a : ℕ) (c : Around) → (f : ℕ) × Goes (operand_move edition a a c) l (ns a) (after f c)
  Passes (arguments xs) l ns = (a e : ℕ) (c : Around) → (f : ℕ) × Goes (operand_move edition a a (paren a e c)) l (ns a) (after f (paren a e c))

  -- an operand, an operator, and another operand
  two : (e : ℕ) (c : Around) (l : List Kind) (k : Kind) (r : List Kind) (ns ms : List ℕ) → after_move edition e c k ≡ moves 0 (operand e e c)
      → Goes (operand_move edition e e c) l ns (after e c) → Goes (operand_move edition e e c) r ms (after e c) → Goes (operand_move edition e e c) (l ++ (k ∷ r)) (ns ++ (0 ∷ ms)) (after e c)
  two e c l k r ns ms h a b =
      goes_then (operand_move edition e e c) l (k ∷ r) ns (0 ∷ ms) (after e c) (after e c) a
      (went-step (after e c) k 0 (operand e e c) r ms (after e c) (after_is e c k ∙ h) (went-operand e e c r ms (after e c) b))

  -- newlines between them
  two-lines : (e : ℕ) (c : Around) (l : List Kind) (k : Kind) (n r : List Kind) (ns ms : List ℕ) → after_move edition e c k ≡ moves 0 (operand e e c) → Newlines n
      → Goes (operand_move edition e e c) l ns (after e c) → Goes (operand_move edition e e c) r ms (after e c)
      → Goes (operand_move edition e e c) (l ++ (k ∷ (n ++ r))) (ns ++ (0 ∷ (still n ++ ms))) (after e c)
  two-lines e c l k n r ns ms h i a b =
      goes_then (operand_move edition e e c) l (k ∷ (n ++ r)) ns (0 ∷ (still n ++ ms)) (after e c) (after e c) a
      (went-step (after e c) k 0 (operand e e c) (n ++ r) (still n ++ ms) (after e c) (after_is e c k ∙ h)
      (went_then (operand e e c) n r (still n) ms (operand e e c) (after e c) (lines-went e e c n i) (went-operand e e c r ms (after e c) b)))

  pub close-paren-move : (f a e : ℕ) (c : Around) → move edition (after f (paren a e c)) close_paren ≡ moves 0 (after e c)
  unfolding leave among rank
  close-paren-move f a e c = after_is f (paren a e c) close_paren ∙ quiet-move f (paren a e c) close_paren refl

  pub comma-move : (f a e : ℕ) (c : Around) → move edition (after f (paren a e c)) comma ≡ moves 0 (operand a a (paren a e c))
  unfolding leave among rank
  comma-move f a e c = after_is f (paren a e c) comma ∙ quiet-move f (paren a e c) comma refl

  -- what is in parentheses, and the `)`
  closing : (d e : ℕ) (c : Around) (l : List Kind) (ns : List ℕ) (f : ℕ) → Goes (operand_move edition (suc d) (suc d) (paren (suc d) e c)) l ns (after f (paren (suc d) e c))
      → Went (operand (suc d) (suc d) (paren (suc d) e c)) (l ++ (close_paren ∷ [])) (ns ++ (0 ∷ [])) (after e c)
  closing d e c l ns f h =
      let x : Around = paren (suc d) e c in
      went_then (operand (suc d) (suc d) x) l (close_paren ∷ []) ns (0 ∷ []) (after f x) (after e c) (went-operand (suc d) (suc d) x l ns (after f x) h)
      (went-step (after f x) close_paren 0 (after e c) [] [] (after e c) (close-paren-move f (suc d) e c) (went-nil (after e c)))

  pub calling-is : (d e : ℕ) (c : Around) → move edition (calling d e c) open_paren ≡ moves (suc d) (operand (suc d) (suc d) (paren (suc d) e c))
  unfolding move
  calling-is d e c = refl

  pub passes : {part : Part} {l : List Kind} (d : Form edition part l) → Passes part l (opened edition d)
  unfolding opened among rank
  passes (to_name {k = k} {r = r} t x) = λ e c.
      let i = passes x (suc e) c in
      let token : among (NUMBER ∷ STRING ∷ ERE ∷ names) k ≡ true = each (λ k. among (NUMBER ∷ STRING ∷ ERE ∷ names) k ≡ true) targets (refl, (refl, tt)) k (one_of t) in (
        i.0,
        goes_step (operand_move edition e e c) k 0 (after e c) (assign ∷ r) _ (after i.0 c) (token-move e e c k token)
            (went-step (after e c) assign (suc e) (operand (suc e) (suc e) c) r _ (after i.0 c) (after_is e c assign ∙ assign-move e c)
            (went-operand (suc e) (suc e) c r _ (after i.0 c) i.1)),
      )
  passes (to_field {l = l} {r = r} f x) = λ e c.
      let i = passes x (suc e) c in (
        i.0,
        goes_step (operand_move edition e e c) dollar (suc e) (operand (suc e) e c) (l ++ (assign ∷ r)) _ (after i.0 c) (prefix-move e e c dollar refl)
            (went_then (operand (suc e) e c) l (assign ∷ r) _ _ (after e c) (after i.0 c) (went-operand (suc e) e c l _ (after e c) (passes f (suc e) e c))
            (went-step (after e c) assign (suc e) (operand (suc e) (suc e) c) r _ (after i.0 c) (after_is e c assign ∙ assign-move e c)
            (went-operand (suc e) (suc e) c r _ (after i.0 c) i.1))),
      )
  passes (value-form d) = λ e c. (e, passes d e c)
  passes (or {l = l} {n = n} {r = r} d h x) = λ e c. two-lines e c l or_or n r _ _ (binary-move e c or_or 9 (tier-or edition false) refl refl) h (passes d e c) (passes x e c)
  passes (no_or d) = passes d
  passes (and {l = l} {n = n} {r = r} d h x) = λ e c. two-lines e c l and_and n r _ _ (binary-move e c and_and 8 (tier-and edition false) refl refl) h (passes d e c) (passes x e c)
  passes (no_and d) = passes d
  passes (match {k = k} {l = l} d o) = λ e c.
      goes_then (operand_move edition e e c) l (k ∷ ERE ∷ []) _ (0 ∷ 0 ∷ []) (after e c) (after e c) (passes d e c)
      (went-step (after e c) k 0 (operand e e c) (ERE ∷ []) (0 ∷ []) (after e c) (after_is e c k ∙ match-move e c k (one_of o))
      (went-step (operand e e c) ERE 0 (after e c) [] [] (after e c) (operand-is e e c ERE ∙ token-move e e c ERE refl) (went-nil (after e c))))
  passes (no_ere d) = passes d
  passes (compare {p = p} {k = k} {l = l} {r = r} d o x) = λ e c. two e c l k r _ _ (binary-move e c k 5 (compared-tier p k o) refl refl) (passes d e c) (passes x e c)
  passes (no_compare d) = passes d
  passes (join {k = k} {l = l} {r = r} d x q) = λ e c.
      goes_then (operand_move edition e e c) l (k ∷ r) _ _ (after e c) (after e c) (passes d e c)
      (went-first (after e c) (operand_move edition e e c) (k ∷ r) _ (after e c) (after_is e c k ∙ join-move e c k (joined-tier k r x q)) (passes x e c))
  passes (no_join d) = passes d
  passes (add {k = k} {l = l} {r = r} d o x) = λ e c. two e c l k r _ _ (binary-move e c k 3 (tier-sum edition false k (one_of o)) refl refl) (passes d e c) (passes x e c)
  passes (no_add d) = passes d
  passes (multiply {k = k} {l = l} {r = r} d o x) = λ e c. two e c l k r _ _ (binary-move e c k 2 (tier-product edition false k (one_of o)) refl refl) (passes d e c) (passes x e e c)
  passes (no_multiply d) = λ e c. passes d e e c
  passes (prefix {k = k} {l = l} t x) = λ d e c.
      goes_step (operand_move edition d e c) k (suc d) (operand (suc d) e c) l _ (after e c)
      (prefix-move d e c k (each (λ k. among (dollar ∷ prefixes) k ≡ true) prefixes (refl, (refl, (refl, tt))) k (one_of t)))
      (went-operand (suc d) e c l _ (after e c) (passes x (suc d) e c))
  passes (no_prefix d) = passes d
  passes (of_field {l = l} x) = λ d e c.
      goes_step (operand_move edition d e c) dollar (suc d) (operand (suc d) e c) l _ (after e c) (prefix-move d e c dollar refl)
      (went-operand (suc d) e c l _ (after e c) (passes x (suc d) e c))
  passes (no_field d) = passes d
  passes (one_token {k = k} t) = λ d e c. goes_step (operand_move edition d e c) k 0 (after e c) [] [] (after e c) (token-move d e c k (one_of t)) (went-nil (after e c))
  passes (parentheses {l = l} x) = λ d e c.
      let i = passes x (suc d) (paren (suc d) e c) in
      goes_step (operand_move edition d e c) open_paren (suc d) (operand (suc d) (suc d) (paren (suc d) e c)) (l ++ (close_paren ∷ [])) _ (after e c) (paren-move d e c)
      (closing d e c l _ i.0 i.1)
  passes (call-form {k = k} {f = f} {l = l} h x) = λ d e c.
      let i = passes x (suc d) e c in
      goes_step (operand_move edition d e c) k 0 (calling d e c) (open_paren ∷ (l ++ (close_paren ∷ []))) _ (after e c) (function-move d e c k f h)
      (went-step (calling d e c) open_paren (suc d) (operand (suc d) (suc d) (paren (suc d) e c)) (l ++ (close_paren ∷ [])) _ (after e c) (calling-is d e c)
      (closing d e c l _ i.0 i.1))
  passes (last_argument d) = λ a e c. passes d a (paren a e c)
  passes (next_argument {l = l} {n = n} {r = r} x h y) = λ a e c.
      let i = passes x a (paren a e c) in
      let j = passes y a e c in (
        j.0,
        goes_then (operand_move edition a a (paren a e c)) l (comma ∷ (n ++ r)) _ _ (after i.0 (paren a e c)) (after j.0 (paren a e c)) i.1
            (went-step (after i.0 (paren a e c)) comma 0 (operand a a (paren a e c)) (n ++ r) _ (after j.0 (paren a e c)) (comma-move i.0 a e c)
            (went_then (operand a a (paren a e c)) n r (still n) _ (operand a a (paren a e c)) (after j.0 (paren a e c)) (lines-went a a (paren a e c) n h)
            (went-operand a a (paren a e c) r _ (after j.0 (paren a e c)) j.1))),
      )
  passes (expression_argument d) = passes d
  passes ere-form = λ a c. (a, goes_step (operand_move edition a a c) ERE 0 (after a c) [] [] (after a c) (token-move a a c ERE refl) (went-nil (after a c)))
