-- Steps of the count over the tokens of a text, none past the limit; what is shown of each reader: where it ends well
-- there are steps over what it read, and where it refuses there are steps to the token that is refused, which opens a
-- level too many if the refusal is 6.
use mathlib.Core.Path.{◌≡◌, refl, sym, ap, subst, ◌∙◌}
use mathlib.Core.Bool.{Bool, true, false, cond}
use mathlib.Core.List.{List, [], ◌∷◌}
use Prim.Native.Nat.{ℕ, zero, suc, ◌≤◌, ◌<◌}
use native.Mathlib.Omega.{arith}
use lib.ListN.{length}
use Rattle.edition.specs.Limits.{nesting_depth}
use Rattle.edition.specs.Outcomes.{size_passed}
use Rattle.program_tokens.specs.Kinds.{Kind, text_end, newline, same, rank}
use Rattle.program_tokens.specs.Tokens.{Token, is, is_one_of, token_after, as_operand}
use Rattle.program_tokens.proofs.Ranks.{same-is}
use Rattle.program_reader.specs.Read.{Read, ok, no, map, bind, operand_after, past_in, past_newlines}
use Rattle.program_parser.specs.Reading.{refused_by}
use Rattle.program_exact.proofs.Facts.{by-test}
use Rattle.program_exact.proofs.Readings.{newline-operand, single}
use Rattle.program_exact.proofs.Exactly.{no-level}
use Rattle.program_levels.proofs.Count.{Count, Move, moves, raise, expects, move}

raise-none : (m : Move) → raise 0 m ≡ m
raise-none m = by m.level refl
  where
    by : (n : ℕ) → m.level ≡ n → raise 0 m ≡ m
    by zero e = rw e
    by (suc n) e = rw e

module _ (edition : ℕ) (s : List ℕ) where
  -- the token that is next where so much is open
  abbrev pub next_in : Count → Token → Token
  next_in x t = cond (expects x) (operand_after edition s t) (token_after edition s t)

  pub data Steps : Count → Token → Count → Token → Type 0 where
    stay : (x : Count) (t : Token) → Steps x t x t
    go : (x : Count) (t : Token) (n : ℕ) (y z : Count) (v : Token) → move edition x t.kind ≡ moves n y → n ≤ nesting_depth → same t.kind text_end ≡ false
        → Steps y (next_in y t) z v → Steps x t z v

  pub join : (x : Count) (t : Token) (y : Count) (u : Token) (z : Count) (v : Token) → Steps x t y u → Steps y u z v → Steps x t z v
  join x t y u z v (stay a b) q = q
  join x t y u z v (go a b n c d e h i j w) q = go a b n c z v h i j (join c (next_in c b) d e z v w q)

  pub pass : (x : Count) (t : Token) (n : ℕ) (y : Count) → move edition x t.kind ≡ moves n y → n ≤ nesting_depth → same t.kind text_end ≡ false → Steps x t y (next_in y t)
  pass x t n y h i j = go x t n y y (next_in y t) h i j (stay y (next_in y t))

  -- a token of a known kind that opens no level
  pub quietly : (x : Count) (t : Token) (j : Kind) (y : Count) → is j t ≡ true → same j text_end ≡ false → move edition x j ≡ moves 0 y → Steps x t y (next_in y t)
  quietly x t j y q e h =
      let k : t.kind ≡ j = same-is t.kind j q in
      pass x t 0 y (ap (move edition x) k ∙ h) (omega arith) (ap (λ (i : Kind). same i text_end) k ∙ e)

  -- ---- answers

  pub record Refusal (x : Count) (t : Token) (outcome place : ℕ) : Type 0 where
    pub state : Count
    pub token : Token
    pub steps : Steps x t state token
    pub at : place ≡ token.start
    pub why : outcome ≡ size_passed → nesting_depth < (move edition state token.kind).level

  abbrev pub Reads : {A : Type 0} → (A → Token → Count → Type 0) → Count → Token → Read A → Type 0
  Reads Q x t (ok a u) = (y : Count) × (Steps x t y u) × (Q a u y)
  Reads Q x t (no outcome place) = Refusal x t outcome place

  pub refused : (x : Count) (t : Token) → Refusal x t (refused_by t) t.start
  refused x t = record { state = x; token = t; steps = stay x t; at = refl; why = λ e. absurd (no-level edition s t e) }

  pub too-deep : (x : Count) (t : Token) → nesting_depth < (move edition x t.kind).level → Refusal x t size_passed t.start
  too-deep x t h = record { state = x; token = t; steps = stay x t; at = refl; why = λ e. h }

  pub later : (x : Count) (t : Token) (y : Count) (u : Token) (o p : ℕ) → Steps x t y u → Refusal y u o p → Refusal x t o p
  later x t y u o p w r = record { state = r.state; token = r.token; steps = join x t y u r.state r.token w r.steps; at = r.at; why = r.why }

  pub earlier : {A : Type 0} (Q : A → Token → Count → Type 0) (x : Count) (t : Token) (y : Count) (u : Token) (r : Read A) → Steps x t y u → Reads Q y u r → Reads Q x t r
  earlier Q x t y u (ok a v) w g = (g.0, join x t y u g.0 v w g.1, g.2)
  earlier Q x t y u (no outcome place) w g = later x t y u outcome place w g

  pub reads-map : {A B : Type 0} (Q : A → Token → Count → Type 0) (R : B → Token → Count → Type 0) (f : A → B) (x : Count) (t : Token) (r : Read A)
      → ((a : A) (u : Token) (y : Count) → Q a u y → R (f a) u y) → Reads Q x t r → Reads R x t (map f r)
  reads-map Q R f x t (ok a u) k g = (g.0, g.1, k a u g.0 g.2)
  reads-map Q R f x t (no outcome place) k g = g

  pub reads_then : {A B : Type 0} (Q : A → Token → Count → Type 0) (R : B → Token → Count → Type 0) (x : Count) (t : Token) (r : Read A) (f : A → Token → Read B)
      → Reads Q x t r → ((a : A) (u : Token) (y : Count) → Q a u y → Reads R y u (f a u)) → Reads R x t (bind r f)
  reads_then Q R x t (ok a u) f g k = earlier R x t g.0 u (f a u) g.1 (k a u g.0 g.2)
  reads_then Q R x t (no outcome place) f g k = g

  -- ---- a state that goes on at a kind as another does, or at the first token of a body, which opens the body's level

  abbrev pub Like : Count → Kind → Move → Type 0
  Like x k m = (n : ℕ) × (n ≤ nesting_depth) × (move edition x k ≡ raise n m)

  pub likely : (x : Count) (k : Kind) (m : Move) → move edition x k ≡ m → Like x k m
  likely x k m e = (0, omega arith, e ∙ sym (raise-none m))

  pub like-still : (x : Count) (k : Kind) (m : Move) (y : Count) → Like x k m → m ≡ moves 0 y → (n : ℕ) × (n ≤ nesting_depth) × (move edition x k ≡ moves n y)
  like-still x k m y h e = (h.0, h.1, h.2 ∙ ap (raise h.0) e)

  pub like-opens : (x : Count) (k : Kind) (m : Move) (n : ℕ) (y : Count) → Like x k m → m ≡ moves (suc n) y → move edition x k ≡ moves (suc n) y
  like-opens x k m n y h e = h.2 ∙ ap (raise h.0) e

  pub like-to : (x : Count) (k : Kind) (m n : Move) → Like x k m → m ≡ n → Like x k n
  like-to x k m n h e = (h.0, h.1, h.2 ∙ ap (raise h.0) e)

  -- a token that opens no level, from such a state
  pub passed : (x : Count) (t : Token) (m : Move) (y : Count) → Like x t.kind m → m ≡ moves 0 y → same t.kind text_end ≡ false → Steps x t y (next_in y t)
  passed x t m y h e j = let i = like-still x t.kind m y h e in pass x t i.0 y i.2 i.1 j

  -- ---- newlines that may follow

  lines-in : (x : Count) → expects x ≡ true → move edition x newline ≡ moves 0 x → (n : ℕ) (t : Token)
      → Steps x (as_operand edition s t) x (as_operand edition s (past_in edition s (newline ∷ []) n t))
  unfolding past_in rank
  lines-in x b h zero t = stay x (as_operand edition s t)
  lines-in x b h (suc n) t =
      let r = lines-in x b h n (token_after edition s t) in
      by-test (λ u. Steps x (as_operand edition s t) x (as_operand edition s u)) (is_one_of (newline ∷ []) t) (past_in edition s (newline ∷ []) n (token_after edition s t)) t
      (λ q.
      let f : is newline t ≡ true = sym (single edition s t.kind newline) ∙ q in
      let v : Token = as_operand edition s (past_in edition s (newline ∷ []) n (token_after edition s t)) in
      subst (λ (w : Token). Steps x w x v) (sym (newline-operand edition s t f))
      (join x t x (next_in x t) x v (quietly x t newline x f refl h) (subst (λ (c : Bool). Steps x (cond c (operand_after edition s t) (token_after edition s t)) x v) (sym b) r)))
      (λ q. stay x (as_operand edition s t))

  pub lines : (x : Count) (t : Token) → expects x ≡ true → move edition x newline ≡ moves 0 x → Steps x (as_operand edition s t) x (past_newlines edition s t)
  lines x t b h = lines-in x b h (length s) t
