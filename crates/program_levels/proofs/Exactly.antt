-- 6 is answered exactly at the first token that opens a level past the limit, by document 01's list.
use mathlib.Core.Path.{◌≡◌, refl, sym, ap, subst, ◌∙◌}
use mathlib.Core.Bool.{Bool, true, false, cond}
use mathlib.Core.List.{List, [], ◌∷◌, ◌++◌, append_assoc}
use mathlib.Core.Option.{Option, some, none}
use mathlib.Core.Logic.{⊎_elim}
use Prim.Native.Nat.{ℕ, ◌≤◌, ◌<◌}
use native.Mathlib.Omega.{arith}
use lib.ListN.{length}
use Rattle.lists.proofs.Options.{none-some, some_one}
use Rattle.edition.specs.Limits.{nesting_depth}
use Rattle.edition.specs.Outcomes.{size_passed}
use Rattle.program_tokens.specs.Kinds.{Kind, text_end, ERE, same}
use Rattle.program_tokens.specs.Tokens.{Token, token_at, token_after, as_operand}
use Rattle.program_tokens.proofs.Ranks.{same-is}
use Rattle.program_tree.specs.Tree.{Program}
use Rattle.program_grammar.specs.Grammar.{Sentence}
use Rattle.program_grammar.specs.Viable.{Viable, Reached, first, after as reached-after}
use Rattle.program_reader.specs.Read.{Read, ok, no, operand_after}
use Rattle.program_reader.specs.Programs.{read_program}
use Rattle.program_parser.specs.Reading.{Good as InText}
use Rattle.program_parser.proofs.Tokens.{good-at}
use Rattle.program_exact.specs.Machine.{plain, pattern as pattern-of, State, start, done as done-state, after as after-state, step, step_in, run}
use Rattle.program_exact.specs.Claims.{Accepted}
use Rattle.program_exact.proofs.Facts.{run_none, run-append}
use Rattle.program_exact.proofs.Sentences.{sentence-run, not-viable}
use Rattle.program_exact.proofs.Viability.{run-viable, viable-run, run-sentence}
use Rattle.program_exact.proofs.Walks.{Live, Next, read_again, as-it-is, Walk, stay as rest, go as walks, taken, Here, walk-in, after-in, operand_in, operand-after-in, onward-after, onward-operand}
use Rattle.program_exact.proofs.Readings.{ere-start, Refusal as Refused}
use Rattle.program_exact.proofs.Exactly.{Place, place, viable-more, end_step, Sooner, compare, no-level, answer, reads-exactly}
use Rattle.program_levels.specs.Levels.{opened_by}
use Rattle.program_levels.specs.Claims.{Within, OpensTooMany, SameLevels, LevelExactly, ReadsWithin}
use Rattle.program_levels.proofs.Count.{Count, between, Move, moves, expects, move, travel, trace}
use Rattle.program_levels.proofs.Derivations.{trace-append}
use Rattle.program_levels.proofs.Sentences.{sentence-went}
use Rattle.program_levels.proofs.Beside.{Beside, at-start, Kept, beside, expected, unexpected, end-level}
use Rattle.program_levels.proofs.Steps.{next_in, Steps, stay, go, Refusal}
use Rattle.program_levels.proofs.Programs.{Finishes, program-counts}

within-left : (a b : List ℕ) → Within (a ++ b) → Within a
within-left [] b h = tt
within-left (n ∷ a) b h = (h.0, within-left a b h.1)

within-at : (a : List ℕ) (n : ℕ) (b : List ℕ) → Within (a ++ (n ∷ b)) → n ≤ nesting_depth
within-at [] n b h = h.0
within-at (m ∷ a) n b h = within-at a n b h.1

within_more : (a : List ℕ) (n : ℕ) → Within a → n ≤ nesting_depth → Within (a ++ (n ∷ []))
within_more [] n h i = (i, tt)
within_more (m ∷ a) n h i = (h.0, within_more a n h.1 i)

abbrev first_of : List ℕ → ℕ
first_of [] = 0
first_of (n ∷ l) = n

abbrev rest_of : List ℕ → List ℕ
rest_of [] = []
rest_of (n ∷ l) = l

-- lists that go on after as many elements are the same so far
cut : (a b : List ℕ) (n m : ℕ) (c d : List ℕ) → length a ≡ length b → a ++ (n ∷ c) ≡ b ++ (m ∷ d) → (a ≡ b) × (n ≡ m)
cut [] [] n m c d e h = (refl, ap first_of h)
cut [] (y ∷ b) n m c d e h = absurd (omega (arith, e))
cut (x ∷ a) [] n m c d e h = absurd (omega (arith, e))
cut (x ∷ a) (y ∷ b) n m c d e h =
    let i = cut a b n m c d (omega (arith, e)) (ap rest_of h) in
    let f : x ≡ y = ap first_of h in
    (ap (λ (z : ℕ). z ∷ a) f ∙ ap (λ (l : List ℕ). y ∷ l) i.0, i.1)

module _ (edition : ℕ) where
  -- ---- the levels of a derivation, by the count

  trace-length : (l : List Kind) (x : Count) → length (trace edition l x) ≡ length l
  unfolding trace
  trace-length [] x = refl
  trace-length (k ∷ l) x = omega (arith, trace-length l (move edition x k).to)

  -- the level that a kind opens after some kinds
  abbrev level_at : List Kind → Kind → ℕ
  level_at l k = (move edition (travel edition l between) k).level

  trace-more : (l : List Kind) (k : Kind) (x : Count) → trace edition (l ++ (k ∷ [])) x ≡ trace edition l x ++ ((move edition (travel edition l x) k).level ∷ [])
  unfolding trace travel
  trace-more l k x = trace-append edition l (k ∷ []) x

  travel-more : (l : List Kind) (k : Kind) (x : Count) → travel edition (l ++ (k ∷ [])) x ≡ (move edition (travel edition l x) k).to
  unfolding travel
  travel-more [] k x = refl
  travel-more (j ∷ l) k x = travel-more l k (move edition x j).to

  split : (l : List Kind) (k : Kind) (r : List Kind) → trace edition ((l ++ (k ∷ [])) ++ r) between ≡ trace edition l between ++ (level_at l k ∷ trace edition r (travel edition (l ++ (k ∷ [])) between))
  split l k r =
      let R : List ℕ = trace edition r (travel edition (l ++ (k ∷ [])) between) in
      trace-append edition (l ++ (k ∷ [])) r between ∙ (ap (λ (x : List ℕ). x ++ R) (trace-more l k between) ∙ append_assoc (trace edition l between) (level_at l k ∷ []) R)

  -- the levels that some tokens open don't depend on how they are completed
  pub same-levels : SameLevels edition
  same-levels l v w =
      (trace edition l between, trace edition v.rest (travel edition l between), trace edition w.rest (travel edition l between), trace-length l between, said v, said w)
    where
      said : (v : Viable edition l) → opened_by edition v.complete ≡ trace edition l between ++ trace edition v.rest (travel edition l between)
      said v = sym (sentence-went edition (l ++ v.rest) v.complete).levels ∙ trace-append edition l v.rest between

  opens-from : (l : List Kind) (k : Kind) → Viable edition (l ++ (k ∷ [])) → Within (trace edition l between) → nesting_depth < level_at l k → OpensTooMany edition l k
  opens-from l k v h i =
      record {
        viable = v;
        outer = trace edition l between;
        level = level_at l k;
        inner = trace edition v.rest (travel edition (l ++ (k ∷ [])) between);
        opens = sym (sentence-went edition ((l ++ (k ∷ [])) ++ v.rest) v.complete).levels ∙ split l k v.rest;
        counted = trace-length l between;
        within = h;
        past = i;
      }

  opens-to : (l : List Kind) (k : Kind) → OpensTooMany edition l k → (Within (trace edition l between)) × (nesting_depth < level_at l k)
  opens-to l k o =
      let r : List Kind = o.viable.rest in
      let e : o.outer ++ (o.level ∷ o.inner) ≡ trace edition l between ++ (level_at l k ∷ trace edition r (travel edition (l ++ (k ∷ [])) between)) =
      sym o.opens ∙ (sym (sentence-went edition ((l ++ (k ∷ [])) ++ r) o.viable.complete).levels ∙ split l k r) in
      let counted : length o.outer ≡ length l = o.counted in
      let i = cut o.outer (trace edition l between) o.level (level_at l k) o.inner (trace edition r (travel edition (l ++ (k ∷ [])) between)) (counted ∙ sym (trace-length l between)) e in
      let past : nesting_depth < o.level = o.past in
      (subst Within i.0 o.within, subst (λ (n : ℕ). nesting_depth < n) i.1 past)

  -- nothing goes on after the text's end
  done_none : (l : List Kind) (k : Kind) → run edition (l ++ (k ∷ [])) (some done-state) ≡ none
  unfolding run step
  done_none [] k = refl
  done_none (j ∷ l) k = run_none edition (l ++ (k ∷ []))

  module _ (s : List ℕ) where
    -- ---- the machine and the count, over the same tokens

    next-same : (x : State) (n : Count) (t u : Token) → Beside x n → Next edition s x (token_after edition s t) u → u ≡ next_in edition s n t
    next-same x n t u b (read_again y e) = ap (λ (c : Bool). cond c (operand_after edition s t) (token_after edition s t)) (sym (expected edition x n y b e))
    next-same x n t u b (as-it-is live e) = ap (λ (c : Bool). cond c (operand_after edition s t) (token_after edition s t)) (sym (unexpected edition x n b e))

    next-on : (n : Count) (t : Token) → InText edition s 0 t → same t.kind text_end ≡ false → (InText edition s 0 (next_in edition s n t)) × (t.start < (next_in edition s n t).start)
    next-on n t g e = by (expects n)
      where
        by : (c : Bool) → (InText edition s 0 (cond c (operand_after edition s t) (token_after edition s t))) × (t.start < (cond c (operand_after edition s t) (token_after edition s t)).start)
        by true = (operand-after-in edition s t g, onward-operand edition s t g e)
        by false = (after-in edition s t g, onward-after edition s t g e)

    steps_on : (n : Count) (t : Token) (m : Count) (u : Token) → InText edition s 0 t → Steps edition s n t m u → t.start ≤ u.start
    steps_on n t m u g (stay a b) = omega arith
    steps_on n t m u g (go a b j c d e h i k w) =
        let z = next-on c b g k in
        omega (arith, z.1, steps_on c (next_in edition s c b) d e z.0 w)

    -- no walk goes over the text's end
    done_next : (y : State) (u v : Token) → y ≡ done-state → Next edition s y u v → ⊥
    unfolding step
    done_next y u v e (read_again z f) = none-some (sym (ap (λ (x : State). step edition x ERE) e) ∙ f)
    done_next y u v e (as-it-is live f) = subst Live e live

    walk-not-end : (x : State) (t : Token) (y : State) (u : Token) → step edition x t.kind ≡ some y → Next edition s y (token_after edition s t) u → same t.kind text_end ≡ false
    walk-not-end x t y u h n = decide (same t.kind text_end) refl
      where
        decide : (b : Bool) → same t.kind text_end ≡ b → same t.kind text_end ≡ false
        decide false e = e
        decide true e =
            let k : t.kind ≡ text_end = same-is t.kind text_end e in
            ⊎_elim (λ z. absurd (none-some (sym (ap (step edition x) k ∙ z) ∙ h)))
            (λ z. absurd (done_next y (token_after edition s t) u (some_one h (ap (step edition x) k ∙ z)) n)) (end_step edition x)

    record Meets (y : State) (u : Token) (m : Count) (v : Token) : Type 0 where
      one : u ≡ v
      near : Beside y m
      here : Here edition s y u
      counted : travel edition here.before between ≡ m
      within : Within (trace edition here.before between)

    near-after : (x : State) (n : Count) (k : Kind) (y : State) (i : ℕ) (m : Count) → Beside x n → step edition x k ≡ some y → move edition n k ≡ moves i m → Beside y m
    near-after x n k y i m b h e =
        subst (Beside y) (ap (λ (z : Move). z.to) e) (subst (λ (o : Option State). Kept o (move edition n k)) h (beside edition x n k b))

    -- a walk of the machine and steps of the count that begin at one token and end at one place
    along : (x : State) (t : Token) (y : State) (u : Token) → Walk edition s x t y u → (n m : Count) (v : Token) → Steps edition s n t m v → Beside x n → InText edition s 0 t → u.start ≡ v.start
        → (p : Here edition s x t) → travel edition p.before between ≡ n → Within (trace edition p.before between) → Meets y u m v
    unfolding run
    along x t y u (rest a b) n m v (stay c d) near g e p q r = record { one = refl; near = near; here = p; counted = q; within = r }
    along x t y u (rest a b) n m v (go c d j f z w h i k l) near g e p q r =
        let o = next-on f b g k in
        let far = steps_on f (next_in edition s f b) z w o.0 l in
        absurd (omega (arith, o.1, far, e))
    along x t y u (walks a b c d f z h nx w) n m v (stay i j) near g e p q r =
        let not_end = walk-not-end a b c d h nx in
        let after-move : Beside c (move edition n b.kind).to = subst (λ (o : Option State). Kept o (move edition n b.kind)) h (beside edition a n b.kind near) in
        let at : d ≡ next_in edition s (move edition n b.kind).to b = next-same c (move edition n b.kind).to b d after-move nx in
        let o = next-on (move edition n b.kind).to b g not_end in
        let gd : InText edition s 0 d = subst (InText edition s 0) (sym at) o.0 in
        let on : b.start < d.start = subst (λ (t : Token). b.start < t.start) (sym at) o.1 in
        absurd (omega (arith, on, (walk-in edition s c d f z gd w).1, e))
    along x t y u (walks a b c d f z h nx w) n m v (go i j k l o ρ mv fine end steps) near g e p q r =
        let beside-c : Beside c l = near-after a n b.kind c k l near h mv in
        let at : d ≡ next_in edition s l b = next-same c l b d beside-c nx in
        let gd : InText edition s 0 d = subst (InText edition s 0) (sym at) (next-on l b g end).0 in
        let before : List Kind = p.before ++ (b.kind ∷ []) in
        let ran : run edition before (some start) ≡ some c = run-append edition p.before (b.kind ∷ []) (some start) ∙ (ap (λ o. step_in edition o b.kind) p.ran ∙ h) in
        let at_n : move edition (travel edition p.before between) b.kind ≡ moves k l = ap (λ (x : Count). move edition x b.kind) q ∙ mv in
        let level-is : (move edition (travel edition p.before between) b.kind).level ≡ k = ap (λ (z : Move). z.level) at_n in
        along c d f z w l o ρ (subst (λ (t : Token). Steps edition s l t o ρ) (sym at) steps) beside-c gd e
        (record { before = before; reached = reached-after p.reached (taken edition s before c (token_after edition s b) d ran nx); ran = ran })
        (travel-more p.before b.kind between ∙ ap (λ (z : Move). z.to) at_n)
        (subst Within (sym (trace-more p.before b.kind between)) (within_more (trace edition p.before between) (level_at p.before b.kind) r (omega (arith, level-is, fine))))

    -- ---- the reader's answer

    here0 : Here edition s start (as_operand edition s (token_at edition s 0))
    unfolding run
    here0 = record { before = []; reached = first (taken edition s [] start (token_at edition s 0) (as_operand edition s (token_at edition s 0)) refl (read_again (after-state plain pattern-of) (ere-start edition))); ran = refl }

    good0 : InText edition s 0 (as_operand edition s (token_at edition s 0))
    good0 = operand_in edition s (token_at edition s 0) (good-at edition s 0 (omega arith))

    meets : (y : State) (u : Token) (m : Count) (v : Token) → Walk edition s start (as_operand edition s (token_at edition s 0)) y u → Steps edition s between (as_operand edition s (token_at edition s 0)) m v
        → u.start ≡ v.start → Meets y u m v
    unfolding here0 travel trace
    meets y u m v w c e = along start (as_operand edition s (token_at edition s 0)) y u w between m v c at-start good0 e here0 refl tt

    counts : (r : Read Program) → read_program edition s ≡ r → Finishes edition s between (as_operand edition s (token_at edition s 0)) r
    counts r e = subst (Finishes edition s between (as_operand edition s (token_at edition s 0))) e (program-counts edition s)

    -- where the reader refuses
    module _ (o p : ℕ) (e : read_program edition s ≡ no o p) where
      refusal : Refused edition s start (as_operand edition s (token_at edition s 0)) o p
      refusal = answer edition s (no o p) e

      counted-refusal : Refusal edition s between (as_operand edition s (token_at edition s 0)) o p
      counted-refusal = counts (no o p) e

      met : Meets refusal.state refusal.token counted-refusal.state counted-refusal.token
      met = meets refusal.state refusal.token counted-refusal.state counted-refusal.token refusal.walk counted-refusal.steps (sym refusal.at ∙ counted-refusal.at)

      before : List Kind
      before = met.here.before

      ran : run edition before (some start) ≡ some refusal.state
      unfolding before
      ran = met.here.ran

      -- 6 is at a level past the limit
      past-level : o ≡ size_passed → nesting_depth < level_at before refusal.token.kind
      unfolding before
      past-level f =
          subst (λ (x : Count). nesting_depth < (move edition x refusal.token.kind).level) (sym met.counted)
          (subst (λ (t : Token). nesting_depth < (move edition counted-refusal.state t.kind).level) (sym met.one) (counted-refusal.why f))

      with-token : (y : Option State) → step edition refusal.state refusal.token.kind ≡ y → run edition (before ++ (refusal.token.kind ∷ [])) (some start) ≡ y
      unfolding run
      with-token y h = run-append edition before (refusal.token.kind ∷ []) (some start) ∙ (ap (λ x. step_in edition x refusal.token.kind) ran ∙ h)

      why-viable : o ≡ size_passed → Viable edition (before ++ (refusal.token.kind ∷ []))
      why-viable f =
          ⊎_elim (λ z. absurd (no-level edition s refusal.token (sym z.1 ∙ f)))
          (λ z. run-viable edition (before ++ (refusal.token.kind ∷ [])) z.0.0 (with-token (some z.0.0) z.0.1)) refusal.why

    -- ---- the claims

    only : (p : ℕ) → read_program edition s ≡ no size_passed p
        → (before : List Kind) × (t : Token) × (Reached edition s before t) × (OpensTooMany edition before t.kind) × (p ≡ t.start)
    unfolding before
    only p e =
        let r = refusal size_passed p e in
        let m = met size_passed p e in
        (before size_passed p e, r.token, m.here.reached, opens-from (before size_passed p e) r.token.kind (why-viable size_passed p e refl) m.within (past-level size_passed p e refl), r.at)

    -- a token that opens too many, and one that the count passed later
    too-late : (l m : List Kind) (t u : Token) → nesting_depth < level_at l t.kind → Sooner edition s (place l t) (place m u) → Within (trace edition m between) → ⊥
    too-late l m t u h z w =
        let i = within-at (trace edition l between) (level_at l t.kind) (trace edition z.0 (travel edition (l ++ (t.kind ∷ [])) between))
        (subst Within (ap (λ (x : List Kind). trace edition x between) z.1 ∙ split l t.kind z.0) w) in
        omega (arith, h, i)

    all-refused : (l : List Kind) (t : Token) → Reached edition s l t → OpensTooMany edition l t.kind → (o p : ℕ) (e : read_program edition s ≡ no o p) → read_program edition s ≡ no size_passed t.start
    unfolding before
    all-refused l t a x o p e =
        let r = refusal o p e in
        let m = met o p e in
        let b : List Kind = before o p e in
        let u : Token = r.token in
        let own = opens-to l t.kind x in
        let go_on : (Viable edition (b ++ (u.kind ∷ []))) → o ≡ size_passed =
        λ v. ⊎_elim (λ z. absurd (not-viable edition (b ++ (u.kind ∷ [])) (with-token o p e none z.0) v)) (λ z. z.1) r.why in
        ⊎_elim
        (λ h.
        let v : Viable edition (b ++ (u.kind ∷ [])) = subst (λ (z : Place). Viable edition (z.before ++ (z.token.kind ∷ []))) h x.viable in
        let at : p ≡ t.start = r.at ∙ sym (ap (λ (z : Place). z.token.start) h) in
        e ∙ (ap (λ (n : ℕ). no n p) (go_on v) ∙ ap (λ (n : ℕ). no size_passed n) at))
        (λ h. absurd (⊎_elim (λ z. too-late l b t u own.1 z m.within)
        (λ z.
        let v : Viable edition (b ++ (u.kind ∷ [])) = viable-more edition (b ++ (u.kind ∷ [])) z.0 (subst (Viable edition) z.1 (viable-more edition l (t.kind ∷ []) x.viable)) in
        too-late b l u t (past-level o p e (go_on v)) z own.0) h))
        (compare edition s l b t u a m.here.reached)

    -- a token after the text's end
    too_far : (l b : List Kind) (t u : Token) → Viable edition (l ++ (t.kind ∷ [])) → run edition (b ++ (u.kind ∷ [])) (some start) ≡ some done-state → Sooner edition s (place b u) (place l t) → ⊥
    too_far l b t u v ended z =
        let i = viable-run edition (l ++ (t.kind ∷ [])) v in
        let whole : l ++ (t.kind ∷ []) ≡ (b ++ (u.kind ∷ [])) ++ (z.0 ++ (t.kind ∷ [])) =
        ap (λ (y : List Kind). y ++ (t.kind ∷ [])) z.1 ∙ append_assoc (b ++ (u.kind ∷ [])) z.0 (t.kind ∷ []) in
        let stuck : run edition (l ++ (t.kind ∷ [])) (some start) ≡ none =
        ap (λ (y : List Kind). run edition y (some start)) whole ∙ (run-append edition (b ++ (u.kind ∷ [])) (z.0 ++ (t.kind ∷ [])) (some start)
        ∙ (ap (run edition (z.0 ++ (t.kind ∷ []))) ended ∙ done_none z.0 t.kind)) in
        none-some (sym stuck ∙ i.1)

    -- where the reader reads all
    module _ (q : Program) (u : Token) (e : read_program edition s ≡ ok q u) where
      read : (y : State) × (Walk edition s start (as_operand edition s (token_at edition s 0)) y u) × (u.kind ≡ text_end) × (step edition y text_end ≡ some done-state)
      read = answer edition s (ok q u) e

      counted-read : (y : Count) × (Steps edition s between (as_operand edition s (token_at edition s 0)) y u) × (u.kind ≡ text_end)
      counted-read = counts (ok q u) e

      met-end : Meets read.0 u counted-read.0 u
      met-end = meets read.0 u counted-read.0 u read.1 counted-read.1 refl

      all-before : List Kind
      all-before = met-end.here.before

      end-ran : run edition (all-before ++ (u.kind ∷ [])) (some start) ≡ some done-state
      unfolding all-before run
      end-ran =
          run-append edition met-end.here.before (u.kind ∷ []) (some start) ∙ (ap (λ o. step_in edition o u.kind) met-end.here.ran ∙ (ap (step edition read.0) read.2 ∙ read.3))

      end-opens : level_at all-before u.kind ≡ 0
      unfolding all-before
      end-opens =
          ap (λ (k : Kind). level_at met-end.here.before k) read.2
          ∙ (ap (λ (z : Count). (move edition z text_end).level) met-end.counted ∙ end-level edition read.0 counted-read.0 done-state met-end.near read.3)

      all-within : Within (trace edition all-before between)
      unfolding all-before
      all-within = met-end.within

      all-reached : Reached edition s all-before u
      unfolding all-before
      all-reached = met-end.here.reached

    all_read : (l : List Kind) (t : Token) → Reached edition s l t → OpensTooMany edition l t.kind → (q : Program) (u : Token) → read_program edition s ≡ ok q u → ⊥
    all_read l t a x q u e =
        let b : List Kind = all-before q u e in
        let own = opens-to l t.kind x in
        ⊎_elim
        (λ h. let level : level_at l t.kind ≡ level_at b u.kind = ap (λ (z : Place). level_at z.before z.token.kind) h in omega (arith, own.1, level, end-opens q u e))
        (λ h. ⊎_elim (λ z. too-late l b t u own.1 z (all-within q u e)) (λ z. too_far l b t u x.viable (end-ran q u e) z) h) (compare edition s l b t u a (all-reached q u e))

    -- "the first token that .. opens level 17 (6)"
    pub level-exactly : LevelExactly edition s
    level-exactly = record { only = only; all = λ l t a x. decide l t a x (read_program edition s) refl }
      where
        decide : (l : List Kind) (t : Token) → Reached edition s l t → OpensTooMany edition l t.kind → (r : Read Program) → read_program edition s ≡ r → read_program edition s ≡ no size_passed t.start
        decide l t a x (no o p) e = all-refused l t a x o p e
        decide l t a x (ok q u) e = absurd (all_read l t a x q u e)

    -- in a program within the limit no token opens too many
    none-past : (a : Accepted edition s) → Within (opened_by edition a.sentence) → (l : List Kind) (t : Token) → Reached edition s l t → OpensTooMany edition l t.kind → ⊥
    none-past a w l t r x =
        let b : List Kind = a.before in
        let u : Token = a.last in
        let k : u.kind ≡ text_end = a.at-end in
        let own = opens-to l t.kind x in
        let all : Within (trace edition b between ++ (level_at b text_end ∷ [])) = subst Within (sym (sentence-went edition (b ++ (text_end ∷ [])) a.sentence).levels ∙ trace-more b text_end between) w in
        let ran : run edition (b ++ (u.kind ∷ [])) (some start) ≡ some done-state =
        subst (λ (j : Kind). run edition (b ++ (j ∷ [])) (some start) ≡ some done-state) (sym k) (sentence-run edition (b ++ (text_end ∷ [])) a.sentence) in
        ⊎_elim
        (λ h.
        let level : level_at l t.kind ≡ level_at b u.kind = ap (λ (z : Place). level_at z.before z.token.kind) h in
        let last : level_at b u.kind ≡ level_at b text_end = ap (λ (j : Kind). level_at b j) k in
        omega (arith, own.1, level, last, within-at (trace edition b between) (level_at b text_end) [] all))
        (λ h. ⊎_elim (λ z. too-late l b t u own.1 z (within-left (trace edition b between) (level_at b text_end ∷ []) all)) (λ z. too_far l b t u x.viable ran z) h)
        (compare edition s l b t u r a.reached)

    -- "Nesting": a text is read exactly if its tokens are a program that opens no level past the limit
    pub reads-within : ReadsWithin edition s
    reads-within = record { only = within; all = read_all }
      where
        within : (q : Program) (u : Token) → read_program edition s ≡ ok q u → (a : Accepted edition s) × (Within (opened_by edition a.sentence))
        within q u e =
            let b : List Kind = all-before q u e in
            let k : u.kind ≡ text_end = (read q u e).2 in
            let a : Sentence edition (b ++ (text_end ∷ [])) = run-sentence edition (b ++ (text_end ∷ [])) (subst (λ (j : Kind). run edition (b ++ (j ∷ [])) (some start) ≡ some done-state) k (end-ran q u e)) in
            let level : level_at b text_end ≡ 0 = subst (λ (j : Kind). level_at b j ≡ 0) k (end-opens q u e) in (
              record { before = b; last = u; reached = all-reached q u e; at-end = k; sentence = a },
              subst Within (sym (trace-more b text_end between) ∙ (sentence-went edition (b ++ (text_end ∷ [])) a).levels) (within_more (trace edition b between) (level_at b text_end) (all-within q u e) (omega (arith, level))),
            )

        read_all : (a : Accepted edition s) → Within (opened_by edition a.sentence) → (q : Program) × (u : Token) × (read_program edition s ≡ ok q u)
        read_all a w = ⊎_elim (λ z. z) (λ z. let d = only z.0 z.1 in absurd (none-past a w d.0 d.1 d.2 d.3)) ((reads-exactly edition s).all a)
