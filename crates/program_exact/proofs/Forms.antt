-- The machine takes every form that the grammar has: from before an operand to after it.
use mathlib.Core.Path.{◌≡◌, refl, sym, ap, ◌∙◌}
use mathlib.Core.Bool.{true, false}
use mathlib.Core.List.{List, [], ◌∷◌, ◌++◌}
use mathlib.Core.Option.{Option, some, none}
use mathlib.Core.Logic.{◌⊎◌, inl, inr, ⊎_elim}
use Prim.Native.Nat.{ℕ}
use Rattle.lists.proofs.Options.{none-some}
use Rattle.program_tokens.specs.Kinds.{Kind, newline, NUMBER, STRING, ERE, fixed_variable, close_paren, open_paren, comma, dollar, assign, or_or, and_and, same, among, rank}
use Rattle.program_tokens.proofs.Ranks.{same-is}
use Rattle.program_tree.specs.Functions.{Shape, an_expression, an_ere, Function, function_of}
use Rattle.program_grammar.specs.Sets.{names, targets, prefixes}
use Rattle.program_grammar.specs.Grammar.{OneOf, one, Newlines, none as no-newline, more as newline-more, Place, in_print, elsewhere, Compares, any, no_greater, Part, expression, disjunction, conjunction, matching, comparison, concatenation, sum, product, prefixed, field, primary, argument, arguments, Form, to_name, to_field, value as value-form, or, no_or, and, no_and, match, no_ere, compare, no_compare, join, no_join, add, no_add, multiply, no_multiply, prefix, no_prefix, of_field, no_field, one_token, parentheses, call as call-form, last_argument, next_argument, expression_argument, ere_argument as ere-form}
use Rattle.program_reader.specs.Operators.{compared, tier_of}
use Rattle.program_exact.specs.Machine.{Mode, fresh, plain, against, tested, Context, group, call, State, operand, operand_line, operand_field, ere_next, after, Open-next, ere_argument, argument_line, settle, printed, exit, argument_end, call_step, primary_step, field_step, operand_step, after_step, argument_step, step, step_in, run}
use Rattle.program_exact.proofs.Facts.{each, by-test, words, quiet, NotTested, Loose, no-function, function-word, tier-compared, tier-printed, run_none, run-append, from, from_then, after-product, after-sum, after-joined, after-compared, after-and, after-or, after-quiet, idle-operand, Begins, begun, from-operand, from-line, from_field, joins, settle-twice, keep, keep-loose, loose-not, after-match, after-assign}

abbrev pub At : Place → Context → Type 0
At in_print c = printed c ≡ true
At elsewhere c = printed c ≡ false

pub one_of : {l : List Kind} {k : Kind} → OneOf l k → among l k ≡ true
one_of (one h) = h

module _ (edition : ℕ) where
  -- a form of one of the tiers from `operand_step`
  abbrev Ends : Mode → Context → List Kind → (Mode → Type 0) → Type 0
  Ends m c l P = (n : Mode) × (P n) × (from edition (operand_step edition m c) l ≡ some (after n c))

  abbrev pub Runs : Part → List Kind → Type 0
  Runs (expression p) l = (c : Context) → At p c → (n : Mode) × (from edition (operand_step edition fresh c) l ≡ some (after n c))
  Runs (disjunction p) l = (m : Mode) (c : Context) → Loose m → At p c → Ends m c l (λ n. Unit)
  Runs (conjunction p) l = (m : Mode) (c : Context) → Loose m → At p c → Ends m c l (λ n. Unit)
  Runs (matching p) l = (m : Mode) (c : Context) → Loose m → At p c → Ends m c l (λ n. Unit)
  Runs (comparison p) l = (m : Mode) (c : Context) → Loose m → At p c → Ends m c l NotTested
  Runs concatenation l = (m : Mode) (c : Context) → NotTested m → Ends m c l (λ n. settle n ≡ settle m)
  Runs sum l = (m : Mode) (c : Context) → NotTested m → Ends m c l (λ n. settle n ≡ settle m)
  Runs product l = (m : Mode) (c : Context) → NotTested m → Ends m c l (λ n. settle n ≡ settle m)
  Runs prefixed l = (m : Mode) (c : Context) → NotTested m → Ends m c l (λ n. settle n ≡ settle m)
  Runs field l = (named m : Mode) (c : Context) → (from edition (field_step edition named m c) l ≡ some (after named c)) ⊎ (from edition (field_step edition named m c) l ≡ some (after m c))
  Runs primary l = (named m : Mode) (c : Context) → (from edition (primary_step edition named m c) l ≡ some (after named c)) ⊎ (from edition (primary_step edition named m c) l ≡ some (after m c))
  Runs (argument x) l = (xs : List Shape) (m : Mode) (c : Context) (k : Kind) → among (comma ∷ close_paren ∷ []) k ≡ true
      → step_in edition (from edition (argument_step edition x xs m c) l) k ≡ argument_end xs m c k
  Runs (arguments []) l = ⊥
  Runs (arguments (x ∷ xs)) l = (m : Mode) (c : Context) → step_in edition (from edition (argument_step edition x xs m c) l) close_paren ≡ some (after m c)

  -- newlines before an operand
  pub newlines-line : (m : Mode) (c : Context) (n : List Kind) → Newlines n → run edition n (some (operand_line m c)) ≡ some (operand_line m c)
  unfolding run step rank
  newlines-line m c _ no-newline = refl
  newlines-line m c _ (newline-more {l = l} h) = newlines-line m c l h

  -- an operator and what is read after it
  then : (m n : Mode) (c : Context) (x y : State) (l r : List Kind) (k : Kind)
      → from edition (operand_step edition m c) l ≡ some (after n c) → after_step edition n c k ≡ some x → run edition r (some x) ≡ some y
      → from edition (operand_step edition m c) (l ++ (k ∷ r)) ≡ some y
  unfolding run step
  then m n c x y l r k a b d = from_then edition (operand_step edition m c) l (k ∷ r) (after n c) a ∙ (ap (run edition r) b ∙ d)

  -- the same from another first step, where it takes what the form begins with
  pub swapped : (f g : Kind → Option State) (l : List Kind) (x : State) → ((k : Kind) → (g k ≡ none) ⊎ (f k ≡ g k)) → from edition g l ≡ some x
      → from edition f l ≡ some x
  swapped f g [] x b h = absurd (none-some h)
  swapped f g (k ∷ l) x b h =
      ⊎_elim (λ e. absurd (none-some (sym (run_none edition l) ∙ (ap (run edition l) (sym e) ∙ h)))) (λ e. ap (run edition l) e ∙ h) (b k)

  pub not-prefix : (named m : Mode) (c : Context) (k : Kind) → among prefixes k ≡ true → field_step edition named m c k ≡ none
  unfolding field_step primary_step among rank
  not-prefix named m c k h =
      each (λ k. field_step edition named m c k ≡ none) prefixes
      (ap (call_step edition m c) (no-function edition _ refl), (ap (call_step edition m c) (no-function edition _ refl), (ap (call_step edition m c) (no-function edition _ refl), tt))) k h

  from-prefixed : (m : Mode) (c : Context) (k : Kind) → (field_step edition m (settle m) c k ≡ none) ⊎ (operand_step edition m c k ≡ field_step edition m (settle m) c k)
  unfolding operand_step
  from-prefixed m c k =
      by-test (λ x. (field_step edition m (settle m) c k ≡ none) ⊎ (x ≡ field_step edition m (settle m) c k)) (among prefixes k) _ _
      (λ e. inl (not-prefix m (settle m) c k e)) (λ e. inr refl)

  pub from-primary : (named m : Mode) (c : Context) (k : Kind) → (primary_step edition named m c k ≡ none) ⊎ (field_step edition named m c k ≡ primary_step edition named m c k)
  unfolding field_step primary_step among rank
  from-primary named m c k =
      by-test (λ x. (primary_step edition named m c k ≡ none) ⊎ (x ≡ primary_step edition named m c k)) (same k dollar) _ _
      (λ e. inl (ap (primary_step edition named m c) (same-is k dollar e) ∙ ap (call_step edition m c) (no-function edition dollar refl))) (λ e. inr refl)

  field-run : (m : Mode) (c : Context) (l : List Kind) → Runs field l → run edition l (some (operand_field m c)) ≡ some (after m c)
  field-run m c l h =
      begun edition (operand_field m c) (after m c) (field_step edition m m c) l (from_field edition m c) (⊎_elim (λ e. e) (λ e. e) (h m m c))

  pub line-run : (m n : Mode) (c : Context) (a l : List Kind) → Newlines a → from edition (operand_step edition m c) l ≡ some (after n c)
      → run edition (a ++ l) (some (operand_line m c)) ≡ some (after n c)
  line-run m n c a l h e =
      run-append edition a l (some (operand_line m c))
      ∙ (ap (run edition l) (newlines-line m c a h) ∙ begun edition (operand_line m c) (after n c) (operand_step edition m c) l (from-line edition m c) e)

  -- ---- arguments

  comma-then : (f : Kind → Option State) (a b : List Kind) (k : Kind) (x : State) → step_in edition (from edition f a) k ≡ some x
      → from edition f (a ++ (k ∷ b)) ≡ run edition b (some x)
  unfolding run
  comma-then f [] b k x h = absurd (none-some h)
  comma-then f (j ∷ a) b k x h = run-append edition a (k ∷ b) (f j) ∙ ap (run edition b) h

  from-argument : (x : Shape) (xs : List Shape) (m : Mode) (c : Context) → Begins edition (argument_line x xs m c) (argument_step edition x xs m c)
  unfolding step argument_step among rank
  from-argument an_expression xs m c k =
      by-test (λ y. (argument_step edition an_expression xs m c k ≡ none) ⊎ (y ≡ argument_step edition an_expression xs m c k)) (same k newline) _ _
      (λ e. inl (ap (operand_step edition fresh (call xs m c)) (same-is k newline e) ∙ idle-operand edition fresh (call xs m c) newline refl)) (λ e. inr refl)
  from-argument an_ere xs m c k =
      by-test (λ y. (argument_step edition an_ere xs m c k ≡ none) ⊎ (y ≡ argument_step edition an_ere xs m c k)) (same k newline) _ _
      (λ e. inl (ap (argument_step edition an_ere xs m c) (same-is k newline e))) (λ e. inr refl)

  newlines-argument : (x : Shape) (xs : List Shape) (m : Mode) (c : Context) (n : List Kind) → Newlines n
      → run edition n (some (argument_line x xs m c)) ≡ some (argument_line x xs m c)
  unfolding run step rank
  newlines-argument x xs m c _ no-newline = refl
  newlines-argument x xs m c _ (newline-more {l = l} h) = newlines-argument x xs m c l h

  -- a last step from a state that begins as f does
  begun-then : (x y : State) (f : Kind → Option State) (l : List Kind) (k : Kind) → Begins edition x f → step_in edition (from edition f l) k ≡ some y
      → step_in edition (run edition l (some x)) k ≡ some y
  begun-then x y f l k b h = go (from edition f l) refl
    where
      go : (z : Option State) → from edition f l ≡ z → step_in edition (run edition l (some x)) k ≡ some y
      go none e = absurd (none-some (ap (λ o. step_in edition o k) (sym e) ∙ h))
      go (some z) e = ap (λ o. step_in edition o k) (begun edition x z f l b e ∙ sym e) ∙ h

  called : (xs : List Shape) (m : Mode) (c : Context) (l : List Kind) → Runs (arguments xs) l
      → run edition (open_paren ∷ (l ++ (close_paren ∷ []))) (some (Open-next xs m c)) ≡ some (after m c)
  unfolding run step argument_step rank
  called [] m c l h = absurd h
  called (an_expression ∷ xs) m c l h =
      run-append edition l (close_paren ∷ []) (some (operand fresh (call xs m c)))
      ∙ begun-then (operand fresh (call xs m c)) (after m c) (operand_step edition fresh (call xs m c)) l close_paren (from-operand edition fresh (call xs m c)) (h m c)
  called (an_ere ∷ xs) m c l h =
      run-append edition l (close_paren ∷ []) (some (ere_argument xs m c))
      ∙ begun-then (ere_argument xs m c) (after m c) (argument_step edition an_ere xs m c) l close_paren (λ k. inr refl) (h m c)

  word-step : (named m : Mode) (c : Context) (k : Kind) (f : Function) → function_of edition k ≡ some f → among (NUMBER ∷ STRING ∷ ERE ∷ fixed_variable ∷ []) k ≡ false
      → among targets k ≡ false → same k open_paren ≡ false → primary_step edition named m c k ≡ some (Open-next f.shapes m c)
  unfolding primary_step
  word-step named m c k f h a b d = rw (a, b, d, h)

  pub function-step : (named m : Mode) (c : Context) (k : Kind) (f : Function) → function_of edition k ≡ some f
      → primary_step edition named m c k ≡ some (Open-next f.shapes m c)
  unfolding among rank
  function-step named m c k f h =
      let three : (k : Kind) → Type 0 = λ k. (among (NUMBER ∷ STRING ∷ ERE ∷ fixed_variable ∷ []) k ≡ false) × (among targets k ≡ false) × (same k open_paren ≡ false) in
      let known = each three words ((refl, refl, refl), ((refl, refl, refl), ((refl, refl, refl), ((refl, refl, refl), tt)))) k (function-word edition k f h) in
      word-step named m c k f h known.0 known.1 known.2

  pub comparing : (p : Place) (c : Context) (k : Kind) → Compares p k → At p c → tier_of edition (printed c) k ≡ compared
  comparing p c k (any o) a = rw a (tier-compared edition k (one_of o))
  comparing p c k (no_greater o g) a = rw a (tier-printed edition k (one_of o) g)

  -- ---- every form

  pub runs : {part : Part} {l : List Kind} → Form edition part l → Runs part l
  unfolding run step operand_step field_step primary_step argument_step argument_end exit among rank
  runs (to_name {k = k} {r = r} t e) = λ c a.
      let i = runs e c a in
      let taken : operand_step edition fresh c k ≡ some (after fresh c) =
      each (λ k. operand_step edition fresh c k ≡ some (after fresh c)) targets (refl, (refl, tt)) k (one_of t) in (
        i.0,
        ap (λ o. run edition r (step_in edition o assign)) taken
            ∙ (ap (run edition r) (after-assign edition c) ∙ begun edition (operand fresh c) (after i.0 c) (operand_step edition fresh c) r (from-operand edition fresh c) i.1),
      )
  runs (to_field {l = l} {r = r} f e) = λ c a.
      let i = runs e c a in (
        i.0,
        run-append edition l (assign ∷ r) (some (operand_field fresh c))
            ∙ (ap (run edition (assign ∷ r)) (field-run fresh c l (runs f))
            ∙ (ap (run edition r) (after-assign edition c) ∙ begun edition (operand fresh c) (after i.0 c) (operand_step edition fresh c) r (from-operand edition fresh c) i.1)),
      )
  runs (value-form d) = λ c a. let i = runs d fresh c tt a in (i.0, i.2)
  runs (or {l = l} {n = n} {r = r} d h e) = λ m c o a.
      let i = runs d m c o a in
      let j = runs e plain c tt a in
      (j.0, tt, then m i.0 c (operand_line plain c) (after j.0 c) l (n ++ r) or_or i.2 (after-or edition i.0 c) (line-run plain j.0 c n r h j.2))
  runs (no_or d) = runs d
  runs (and {l = l} {n = n} {r = r} d h e) = λ m c o a.
      let i = runs d m c o a in
      let j = runs e plain c tt a in
      (j.0, tt, then m i.0 c (operand_line plain c) (after j.0 c) l (n ++ r) and_and i.2 (after-and edition i.0 c) (line-run plain j.0 c n r h j.2))
  runs (no_and d) = runs d
  runs (match {k = k} {l = l} d t) = λ m c o a.
      let i = runs d m c o a in
      (tested, tt, then m i.0 c (ere_next c) (after tested c) l (ERE ∷ []) k i.2 (after-match edition i.0 c k i.1 (one_of t)) refl)
  runs (no_ere d) = λ m c o a. let i = runs d m c o a in (i.0, tt, i.2)
  runs (compare {p = p} {k = k} {l = l} {r = r} d t e) = λ m c o a.
      let i = runs d m c (loose-not m o) in
      let j = runs e against c tt in (
        j.0,
        keep against j.0 j.1 tt,
        then m i.0 c (operand against c) (after j.0 c) l r k i.2
            (after-compared edition i.0 c k (keep-loose m i.0 i.1 o) (comparing p c k t a))
            (begun edition (operand against c) (after j.0 c) (operand_step edition against c) r (from-operand edition against c) j.2),
      )
  runs (no_compare d) = λ m c o a. let i = runs d m c (loose-not m o) in (i.0, keep m i.0 i.1 (loose-not m o), i.2)
  runs (join {k = k} {l = l} {r = r} d e q) = λ m c t.
      let i = runs d m c t in
      let u = keep m i.0 i.1 t in
      let v = keep i.0 (settle i.0) (settle-twice i.0) u in
      let j = runs e (settle i.0) c v in (
        j.0,
        j.1 ∙ (settle-twice i.0 ∙ i.1),
        from_then edition (operand_step edition m c) l (k ∷ r) (after i.0 c) i.2
            ∙ (⊎_elim (λ x. absurd (none-some (sym (run_none edition r) ∙ (ap (run edition r) (sym x) ∙ j.2))))
            (λ x. ap (run edition r) (after-joined edition i.0 c k u x) ∙ j.2) (joins edition (printed c) (settle i.0) c k q)),
      )
  runs (no_join d) = runs d
  runs (add {k = k} {l = l} {r = r} d t e) = λ m c h.
      let i = runs d m c h in
      let u = keep m i.0 i.1 h in
      let v = keep i.0 (settle i.0) (settle-twice i.0) u in
      let j = runs e (settle i.0) c v in (
        j.0,
        j.1 ∙ (settle-twice i.0 ∙ i.1),
        then m i.0 c (operand (settle i.0) c) (after j.0 c) l r k i.2 (after-sum edition i.0 c k u (one_of t))
            (begun edition (operand (settle i.0) c) (after j.0 c) (operand_step edition (settle i.0) c) r (from-operand edition (settle i.0) c) j.2),
      )
  runs (no_add d) = runs d
  runs (multiply {k = k} {l = l} {r = r} d t e) = λ m c h.
      let i = runs d m c h in
      let u = keep m i.0 i.1 h in
      let v = keep i.0 (settle i.0) (settle-twice i.0) u in
      let j = runs e (settle i.0) c v in (
        j.0,
        j.1 ∙ (settle-twice i.0 ∙ i.1),
        then m i.0 c (operand (settle i.0) c) (after j.0 c) l r k i.2 (after-product edition i.0 c k u (one_of t))
            (begun edition (operand (settle i.0) c) (after j.0 c) (operand_step edition (settle i.0) c) r (from-operand edition (settle i.0) c) j.2),
      )
  runs (no_multiply d) = runs d
  runs (prefix {k = k} {l = l} t d) = λ m c h.
      let i = runs d (settle m) c (keep m (settle m) (settle-twice m) h) in
      let taken : operand_step edition m c k ≡ some (operand (settle m) c) =
      each (λ k. operand_step edition m c k ≡ some (operand (settle m) c)) prefixes (refl, (refl, (refl, tt))) k (one_of t) in (
        i.0,
        i.1 ∙ settle-twice m,
        ap (run edition l) taken
            ∙ begun edition (operand (settle m) c) (after i.0 c) (operand_step edition (settle m) c) l (from-operand edition (settle m) c) i.2,
      )
  runs (no_prefix {l = l} d) = λ m c h.
      ⊎_elim (λ e. (m, refl, swapped (operand_step edition m c) (field_step edition m (settle m) c) l (after m c) (from-prefixed m c) e))
      (λ e. (settle m, settle-twice m, swapped (operand_step edition m c) (field_step edition m (settle m) c) l (after (settle m) c) (from-prefixed m c) e))
      (runs d m (settle m) c)
  runs (of_field {l = l} d) = λ named m c. inl (field-run named c l (runs d))
  runs (no_field {l = l} d) = λ named m c.
      ⊎_elim (λ e. inl (swapped (field_step edition named m c) (primary_step edition named m c) l (after named c) (from-primary named m c) e))
      (λ e. inr (swapped (field_step edition named m c) (primary_step edition named m c) l (after m c) (from-primary named m c) e))
      (runs d named m c)
  runs (one_token {k = k} t) = λ named m c.
      each (λ k. (primary_step edition named m c k ≡ some (after named c)) ⊎ (primary_step edition named m c k ≡ some (after m c))) (NUMBER ∷ STRING ∷ ERE ∷ names)
      (inr refl, (inr refl, (inr refl, (inl refl, (inl refl, (inr refl, tt)))))) k (one_of t)
  runs (parentheses {l = l} d) = λ named m c.
      let i = runs d (group m c) refl in
      inr (run-append edition l (close_paren ∷ []) (some (operand fresh (group m c)))
      ∙ (ap (λ o. step_in edition o close_paren) (begun edition (operand fresh (group m c)) (after i.0 (group m c)) (operand_step edition fresh (group m c)) l (from-operand edition fresh (group m c)) i.1)
      ∙ after-quiet edition i.0 (group m c) close_paren refl))
  runs (call-form {k = k} {f = f} {l = l} h d) = λ named m c.
      inr (ap (run edition (open_paren ∷ (l ++ (close_paren ∷ [])))) (function-step named m c k f h) ∙ called f.shapes m c l (runs d))
  runs (last_argument d) = λ m c. runs d [] m c close_paren refl
  runs (next_argument {x = x} {y = y} {xs = xs} {l = l} {n = n} {r = r} d h e) = λ m c.
      ap (λ o. step_in edition o close_paren) (comma-then (argument_step edition x (y ∷ xs) m c) l (n ++ r) comma (argument_line y xs m c) (runs d (y ∷ xs) m c comma refl)
      ∙ (run-append edition n r (some (argument_line y xs m c)) ∙ ap (run edition r) (newlines-argument y xs m c n h)))
      ∙ begun-then (argument_line y xs m c) (after m c) (argument_step edition y xs m c) r close_paren (from-argument y xs m c) (runs e m c)
  runs (expression_argument {l = l} d) = λ xs m c k h.
      let i = runs d (call xs m c) refl in
      ap (λ o. step_in edition o k) i.1 ∙ after-quiet edition i.0 (call xs m c) k (each (λ k. among quiet k ≡ true) (comma ∷ close_paren ∷ []) (refl, (refl, tt)) k h)
  runs ere-form = λ xs m c k h. refl
