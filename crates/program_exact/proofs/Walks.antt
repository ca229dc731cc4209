-- Walks of the machine over the tokens of a text: a `/` is read as an ERE exactly where the machine takes one.
use mathlib.Core.Path.{◌≡◌, refl, sym, ap, ◌∙◌}
use mathlib.Core.Bool.{Bool, true, false}
use mathlib.Core.List.{List, [], ◌∷◌, ◌++◌}
use mathlib.Core.Option.{some, none}
use Prim.Native.Nat.{ℕ, suc, ◌≤◌, ◌<◌}
use native.Mathlib.Omega.{arith}
use lib.ListN.{length, drop}
use Rattle.lists.proofs.Options.{none-some}
use Rattle.program_tokens.specs.Kinds.{Kind, text_end, bad, bad-ere, ERE, slash, div_assign, same}
use Rattle.program_tokens.specs.Tokens.{Token, is, is_one_of, token_at, token_after, as_operand, ere_length}
use Rattle.program_grammar.specs.Viable.{Taken, operand as taken-operand, operator as taken-operator, Reached, first, after as reached-after}
use Rattle.program_reader.specs.Read.{operand_after}
use Rattle.program_parser.specs.Reading.{Good as InText}
use Rattle.program_parser.proofs.Tokens.{ere-kind, Slashes, Again, good-after, good-operand}
use Rattle.program_exact.specs.Machine.{State, start, between, done, action_next, operand, operand_line, operand_field, ere_next, after, Open-next, ere_argument, argument_line, argument-end, condition_next, body, print_next, finished, list, step, step_in, run}
use Rattle.program_exact.proofs.Facts.{each, by-test, run-append}
use Rattle.program_exact.proofs.Sentences.{not-viable}
use Rattle.program_exact.proofs.Viability.{run-viable}

-- a state that is not after the text's end
abbrev pub Live : State → Type 0
Live start = Unit
Live between = Unit
Live done = ⊥
Live action_next = Unit
Live (operand m c) = Unit
Live (operand_line m c) = Unit
Live (operand_field m c) = Unit
Live (ere_next c) = Unit
Live (after m c) = Unit
Live (Open-next l m c) = Unit
Live (ere_argument l m c) = Unit
Live (argument_line x l m c) = Unit
Live (argument-end l m c) = Unit
Live (condition_next n b) = Unit
Live (body n b) = Unit
Live (print_next n b) = Unit
Live (finished n b) = Unit
Live (list n p b) = Unit

-- a kind that no ERE that is read again has, and no slash
abbrev pub Away : Kind → Type 0
Away j = (same ERE j ≡ false) × (same bad j ≡ false) × (same bad-ere j ≡ false) × (same slash j ≡ false) × (same div_assign j ≡ false)

module _ (edition : ℕ) (s : List ℕ) where
  -- a token as the machine reads it
  pub data Next (x : State) (t : Token) : Token → Type 0 where
    read_again : (y : State) → step edition x ERE ≡ some y → Next x t (as_operand edition s t)
    as-it-is : Live x → step edition x ERE ≡ none → Next x t t

  pub data Walk : State → Token → State → Token → Type 0 where
    stay : (x : State) (t : Token) → Walk x t x t
    go : (x : State) (t : Token) (y : State) (u : Token) (z : State) (v : Token) → step edition x t.kind ≡ some y
        → Next y (token_after edition s t) u → Walk y u z v → Walk x t z v

  pub walk-join : (x : State) (t : Token) (y : State) (u : Token) (z : State) (v : Token) → Walk x t y u → Walk y u z v → Walk x t z v
  walk-join x t y u z v (stay a b) q = q
  walk-join x t y u z v (go a b c d e f h n w) q = go a b c d z v h n (walk-join c d e f z v w q)

  -- one token, and the next as it is, or read again
  pub pass : (x : State) (t : Token) (y : State) → Live y → step edition x t.kind ≡ some y → step edition y ERE ≡ none → Walk x t y (token_after edition s t)
  pass x t y live h e = go x t y (token_after edition s t) y (token_after edition s t) h (as-it-is live e) (stay y (token_after edition s t))

  pub pass-operand : (x : State) (t : Token) (y z : State) → step edition x t.kind ≡ some y → step edition y ERE ≡ some z → Walk x t y (operand_after edition s t)
  pass-operand x t y z h e = go x t y (operand_after edition s t) y (operand_after edition s t) h (read_again z e) (stay y (operand_after edition s t))

  -- ---- tokens in a text

  pub looser : (p q : ℕ) (t : Token) → q ≤ p → InText edition s p t → InText edition s q t
  looser p q t h g = record { after = omega (arith, g.after); ordered = g.ordered; within = g.within; longer = g.longer; placed = g.placed }

  pub after-in : (t : Token) → InText edition s 0 t → InText edition s 0 (token_after edition s t)
  after-in t g = looser t.stop 0 (token_after edition s t) (omega arith) (good-after edition s 0 t g)

  pub operand_in : (t : Token) → InText edition s 0 t → InText edition s 0 (as_operand edition s t)
  operand_in t g = good-operand edition s 0 t g

  pub operand-after-in : (t : Token) → InText edition s 0 t → InText edition s 0 (operand_after edition s t)
  operand-after-in t g = operand_in (token_after edition s t) (after-in t g)

  -- a token that isn't the text's end: the next starts after it
  pub onward-after : (t : Token) → InText edition s 0 t → same t.kind text_end ≡ false → t.start < (token_after edition s t).start
  onward-after t g e = omega (arith, g.longer e, (good-after edition s 0 t g).after)

  pub onward-operand : (t : Token) → InText edition s 0 t → same t.kind text_end ≡ false → t.start < (operand_after edition s t).start
  onward-operand t g e =
      omega (arith, g.longer e, (good-operand edition s t.stop (token_after edition s t) (good-after edition s 0 t g)).after)

  next-after : (x : State) (t u : Token) → InText edition s 0 t → Next x (token_after edition s t) u → InText edition s t.stop u
  next-after x t u g (read_again y e) = good-operand edition s t.stop (token_after edition s t) (good-after edition s 0 t g)
  next-after x t u g (as-it-is live e) = good-after edition s 0 t g

  pub walk-in : (x : State) (t : Token) (y : State) (u : Token) → InText edition s 0 t → Walk x t y u → (InText edition s 0 u) × (t.start ≤ u.start)
  walk-in x t y u g (stay a b) = (g, omega arith)
  walk-in x t y u g (go a b c d e f h n w) =
      let k = next-after c b d g n in
      let r = walk-in c d e f (looser b.stop 0 d (omega arith) k) w in
      (r.0, omega (arith, k.after, g.ordered, r.1))

  -- at the text's end
  pub at-end : (t : Token) → InText edition s 0 t → length s ≤ t.start → same t.kind text_end ≡ true
  at-end t g h = decide (same t.kind text_end) refl
    where
      decide : (b : Bool) → same t.kind text_end ≡ b → same t.kind text_end ≡ true
      decide true e = e
      decide false e = absurd (omega (arith, g.longer e, g.within))

  -- ---- tokens that are read again

  pub operand-still : (t : Token) → is_one_of Slashes t ≡ false → as_operand edition s t ≡ t
  unfolding as_operand
  operand-still t e = rw e

  pub operand-test : (j : Kind) (t : Token) → Away j → is j (as_operand edition s t) ≡ is j t
  unfolding as_operand
  operand-test j t h =
      by-test (λ u. is j u ≡ is j t) (is_one_of Slashes t) (Again edition s t) t
      (λ e. ere-kind (λ (k : Kind). same k j ≡ false) h.1 h.2 h.0 edition t.start (drop (suc t.start) s) (ere_length false (drop (suc t.start) s))
      ∙ sym (each (λ k. same k j ≡ false) Slashes (h.3, (h.4, tt)) t.kind e)) (λ e. refl)

  -- ---- what is reached

  pub record Here (x : State) (t : Token) : Type 0 where
    pub before : List Kind
    pub reached : Reached edition s before t
    pub ran : run edition before (some start) ≡ some x

  pub taken : (l : List Kind) (x : State) (t u : Token) → run edition l (some start) ≡ some x → Next x t u → Taken edition s l t u
  unfolding run
  taken l x t u h (read_again y e) = taken-operand (run-viable edition (l ++ (ERE ∷ [])) y (run-append edition l (ERE ∷ []) (some start) ∙ (ap (λ o. step_in edition o ERE) h ∙ e)))
  taken l x t u h (as-it-is live e) = taken-operator (not-viable edition (l ++ (ERE ∷ [])) (run-append edition l (ERE ∷ []) (some start) ∙ (ap (λ o. step_in edition o ERE) h ∙ e)))

  pub reaches : (x : State) (t : Token) (y : State) (u : Token) → Here x t → Walk x t y u → Here y u
  unfolding run
  reaches x t y u p (stay a b) = p
  reaches x t y u p (go a b c d e f h n w) =
      let l : List Kind = p.before ++ (b.kind ∷ []) in
      let ran : run edition l (some start) ≡ some c = run-append edition p.before (b.kind ∷ []) (some start) ∙ (ap (λ o. step_in edition o b.kind) p.ran ∙ h) in
      reaches c d e f (record { before = l; reached = reached-after p.reached (taken l c (token_after edition s b) d ran n); ran = ran }) w

  next-live : (x : State) (t u : Token) → Next x t u → Live x
  unfolding step
  next-live x t u (as-it-is live e) = live
  next-live x t u (read_again y e) = alive x y e
    where
      alive : (x y : State) → step edition x ERE ≡ some y → Live x
      alive start y e = tt
      alive between y e = tt
      alive done y e = absurd (none-some e)
      alive action_next y e = tt
      alive (operand m c) y e = tt
      alive (operand_line m c) y e = tt
      alive (operand_field m c) y e = tt
      alive (ere_next c) y e = tt
      alive (after m c) y e = tt
      alive (Open-next l m c) y e = tt
      alive (ere_argument l m c) y e = tt
      alive (argument_line a l m c) y e = tt
      alive (argument-end l m c) y e = tt
      alive (condition_next n b) y e = tt
      alive (body n b) y e = tt
      alive (print_next n b) y e = tt
      alive (finished n b) y e = tt
      alive (list n p b) y e = tt

  -- no walk goes on after the text's end
  pub walk-live : (x : State) (t : Token) (y : State) (u : Token) → Live x → Walk x t y u → Live y
  walk-live x t y u l (stay a b) = l
  walk-live x t y u l (go a b c d e f h n w) = walk-live c d e f (next-live c (token_after edition s b) d n) w

  pub begins : (t : Token) → Next start (token_at edition s 0) t → Here start t
  unfolding run
  begins t n = record { before = []; reached = first (taken [] start (token_at edition s 0) t refl n); ran = refl }
