-- Tokens of some kinds, from one token to another, and what the reader of an `else` does with them.
use mathlib.Core.Path.{◌≡◌, refl, sym, ap, subst, ◌∙◌}
use mathlib.Core.Bool.{Bool, true, false, ◌||◌}
use mathlib.Core.List.{List, [], ◌∷◌, ◌++◌}
use mathlib.Core.Option.{some, none}
use mathlib.Core.Logic.{◌⊎◌, inl, inr}
use Prim.Native.Nat.{ℕ, zero, suc, ◌+◌, ◌≤◌, ◌<◌}
use native.Mathlib.Omega.{arith}
use lib.ListN.{length}
use Rattle.lists.proofs.Tests.{or-false}
use Rattle.edition.specs.Outcomes.{size_passed}
use Rattle.program_tokens.specs.Kinds.{Kind, text_end, newline, ELSE, semicolon, same, among, rank}
use Rattle.program_tokens.specs.Tokens.{Token, is, is_one_of, token_after, as_operand}
use Rattle.program_grammar.specs.Sets.{enders}
use Rattle.program_grammar.specs.Grammar.{Newlines, none as no-newline, more as newline-more, Separators, none as no-separator, more as separator-more, End, needs_end, ended, BeforeElse, newlines, ending_newline, one_semicolon}
use Rattle.program_reader.specs.Read.{Read, ok, no, map}
use Rattle.program_reader.specs.Statements.{else_after}
use Rattle.program_parser.specs.Reading.{Good as InText}
use Rattle.program_parser.proofs.Tokens.{Slashes}
use Rattle.program_exact.specs.Trees.{first, rest, tail}
use Rattle.program_exact.proofs.Facts.{each}
use Rattle.program_exact.proofs.Forms.{one_of}
use Rattle.program_exact.proofs.Walks.{onward-after, operand-still, operand-test}
use Rattle.program_exact.proofs.Bodies.{operand-start, fuelled, else-line, else-mark, else-here}
use Rattle.program_exact.proofs.Sayings.{kinds_of, first_kind, IsEmpty, Raw, Follow, Trail, cut, one-step, Reread, next-in, next-on, trail-in, trail-on, first_of, Span, AllOf, Passed}

-- ---- answers

-- the answer is 6, and a number is less than the text's length
abbrev pub Deep : {A : Type 0} → List ℕ → ℕ → Read A → Type 0
Deep s n r = (place : ℕ) × (r ≡ no size_passed place) × (n < length s)

-- or what was read, and the token after it
abbrev pub Says : {A : Type 0} → List ℕ → ℕ → Read A → A → Token → Type 0
Says s n r a u = (Deep s n r) ⊎ (r ≡ ok a u)

pub says_map : {A B : Type 0} (s : List ℕ) (f : A → B) (n : ℕ) (r : Read A) (a : A) (u : Token) → Says s n r a u → Says s n (map f r) (f a) u
says_map s f n r a u (inl d) = inl (d.0, ap (map f) d.1, d.2)
says_map s f n r a u (inr e) = inr (ap (map f) e)

pub says_less : {A : Type 0} (s : List ℕ) (m n : ℕ) (r : Read A) (a : A) (u : Token) → m ≤ n → Says s n r a u → Says s m r a u
says_less s m n r a u h (inl d) = inl (d.0, d.1, omega (arith, h, d.2))
says_less s m n r a u h (inr e) = inr e

module _ (edition : ℕ) (s : List ℕ) where
  pub reread-on : (x v : Token) → InText edition s 0 x → Reread edition s x v → x.start ≤ v.start
  reread-on x v g (inl e) = subst (λ (y : Token). x.start ≤ y.start) (sym e) (omega arith)
  reread-on x v g (inr e) = subst (λ (y : Token). x.start ≤ y.start) (sym e) (operand-start edition s x g)

  -- ---- tokens of some kinds, from one on up to another

  pub record Stretch (l : List Kind) (t : Token) (ts : List Token) (u : Token) : Type 0 where
    pub good : InText edition s 0 t
    pub kinds : kinds_of ts ≡ l
    pub trail : Trail edition s t ts u

  pub spans : (l : List Kind) (t : Token) (ts : List Token) (u : Token) → Stretch l t ts u → Raw u.kind → Span edition s l t ts u
  spans l t ts u p r = record { good = p.good; kinds = p.kinds; trail = p.trail; raw = r }

  pub record Split (l m : List Kind) (t : Token) (ts : List Token) (u : Token) : Type 0 where
    pub middle : Token
    pub left : Stretch l t (first l ts) middle
    pub right : Stretch m middle (rest l ts) u
    pub onward : t.start ≤ middle.start

  pub split : (l m : List Kind) (t : Token) (ts : List Token) (u : Token) → Stretch (l ++ m) t ts u → Split l m t ts u
  split l m t ts u p =
      let c = cut edition s l m t ts u p.kinds p.trail in
      record {
        middle = c.middle;
        left = record { good = p.good; kinds = c.left-kinds; trail = c.left };
        right = record { good = trail-in edition s t (first l ts) c.middle p.good c.left; kinds = c.right-kinds; trail = c.right };
        onward = trail-on edition s t (first l ts) c.middle p.good c.left;
      }

  pub record Step (k : Kind) (l : List Kind) (t : Token) (ts : List Token) (u : Token) : Type 0 where
    pub next : Token
    pub kind : t.kind ≡ k
    pub follow : Follow edition s t next
    pub others : Stretch l next (tail ts) u
    pub onward : t.start < next.start
    pub over : t.start < (token_after edition s t).start

  pub step : (k : Kind) (l : List Kind) (t : Token) (ts : List Token) (u : Token) → same k text_end ≡ false → Stretch (k ∷ l) t ts u → Step k l t ts u
  step k l t ts u z p =
      let o = one-step edition s k l t ts u p.kinds p.trail in
      let no_end : same t.kind text_end ≡ false = ap (λ (j : Kind). same j text_end) o.kind ∙ z in
      record {
        next = o.next;
        kind = o.kind;
        follow = o.follow;
        others = record { good = next-in edition s t o.next o.follow p.good; kinds = o.kinds; trail = o.trail };
        onward = next-on edition s t o.next o.follow p.good no_end;
        over = onward-after edition s t p.good no_end;
      }

  pub no_more : (t : Token) (ts : List Token) (u : Token) → Stretch [] t ts u → t ≡ u
  no_more t [] u p = p.trail
  no_more t (c ∷ ts) u p = absurd (subst IsEmpty (sym p.kinds) tt)

  pub last-in : (l : List Kind) (t : Token) (ts : List Token) (u : Token) → Stretch l t ts u → InText edition s 0 u
  last-in l t ts u p = trail-in edition s t ts u p.good p.trail

  pub first-is : (l : List Kind) (t : Token) (ts : List Token) (u : Token) → Stretch l t ts u → (IsEmpty l → ⊥) → t.kind ≡ first_kind l
  first-is l t ts u p n = first_of edition s l t ts u p.kinds p.trail n

  pub longer : (l : List Kind) (t : Token) (ts : List Token) (u : Token) → Stretch l t ts u → (IsEmpty l → ⊥) → same (first_kind l) text_end ≡ false → t.start < u.start
  longer [] t ts u w n z = absurd (n tt)
  longer (k ∷ l) t ts u w n z =
      let a = step k l t ts u z w in
      omega (arith, a.onward, trail-on edition s a.next (tail ts) u a.others.good a.others.trail)

  -- ---- separators that are passed

  pub all-separators : (n : List Kind) → Separators n → AllOf edition s enders n
  all-separators _ no-separator = tt
  all-separators _ (separator-more {l = n} o d) = (one_of o, all-separators n d)

  pub separators-passed : Passed edition s enders
  unfolding among rank
  separators-passed = (
    λ k q. each (λ k. (Raw k) × (same k text_end ≡ false)) enders ((refl, refl), ((refl, refl), tt)) k q,
    λ x. ap (λ (b : Bool). b || (is semicolon (as_operand edition s x) || false)) (operand-test edition s newline x (refl, refl, refl, refl, refl))
        ∙ ap (λ (b : Bool). is newline x || (b || false)) (operand-test edition s semicolon x (refl, refl, refl, refl, refl)),
  )

  -- ---- `else`

  -- what is neither passed before an `else`, nor one
  pub else-stops : (i : ℕ) (f p : Bool) (t : Token) → among (newline ∷ semicolon ∷ ELSE ∷ []) t.kind ≡ false → else_after edition s i f p t ≡ none
  unfolding else_after among
  else-stops zero f p t h = refl
  else-stops (suc i) f p t h =
      let a = or-false (is newline t) _ h in
      let b = or-false (is semicolon t) _ a.1 in
      let c = or-false (is ELSE t) _ b.1 in
      rw (a.0, b.0, c.0)

  -- a token that is read again is passed as it is
  pub else-again : (i : ℕ) (f p : Bool) (x u : Token) → Reread edition s x u → else_after edition s i f p x ≡ else_after edition s i f p u
  unfolding among rank
  else-again i f p x u (inl e) = ap (λ (y : Token). else_after edition s i f p y) (sym e)
  else-again i f p x u (inr e) = decide (is_one_of Slashes x) refl
    where
      away : is_one_of Slashes x ≡ true → among (newline ∷ semicolon ∷ ELSE ∷ []) x.kind ≡ false
      away q = each (λ k. among (newline ∷ semicolon ∷ ELSE ∷ []) k ≡ false) Slashes (refl, (refl, tt)) x.kind q

      tests : among (newline ∷ semicolon ∷ ELSE ∷ []) (as_operand edition s x).kind ≡ among (newline ∷ semicolon ∷ ELSE ∷ []) x.kind
      tests =
          ap (λ (b : Bool). b || (is semicolon (as_operand edition s x) || (is ELSE (as_operand edition s x) || false))) (operand-test edition s newline x (refl, refl, refl, refl, refl))
          ∙ (ap (λ (b : Bool). is newline x || (b || (is ELSE (as_operand edition s x) || false))) (operand-test edition s semicolon x (refl, refl, refl, refl, refl))
          ∙ ap (λ (b : Bool). is newline x || (is semicolon x || (b || false))) (operand-test edition s ELSE x (refl, refl, refl, refl, refl)))

      decide : (b : Bool) → is_one_of Slashes x ≡ b → else_after edition s i f p x ≡ else_after edition s i f p u
      decide false q = ap (λ (y : Token). else_after edition s i f p y) (sym (e ∙ operand-still edition s x q))
      decide true q =
          else-stops i f p x (away q)
          ∙ sym (else-stops i f p u (ap (λ (y : Token). among (newline ∷ semicolon ∷ ELSE ∷ []) y.kind) e ∙ (tests ∙ away q)))

  -- newlines, and then an `else`
  else-lines : (n : List Kind) → Newlines n → (i : ℕ) (p : Bool) (v : Token) (ts : List Token) (z : Token) → Stretch n v ts z → z.kind ≡ ELSE → length s ≤ i + v.start
      → else_after edition s i true p v ≡ some (token_after edition s z)
  unfolding rank
  else-lines _ no-newline i p v ts z w k f =
      let own : v ≡ z = no_more v ts z w in
      let kind : v.kind ≡ ELSE = ap (λ (y : Token). y.kind) own ∙ k in
      let fuel = fuelled edition s v i w.good (ap (λ (j : Kind). same j text_end) kind) f in
      ap (λ (j : ℕ). else_after edition s j true p v) fuel.1
      ∙ (else-here edition s fuel.0 p v (ap (λ (j : Kind). same j newline) kind) (ap (λ (j : Kind). same j semicolon) kind) (ap (λ (j : Kind). same j ELSE) kind)
      ∙ ap (λ (y : Token). some (token_after edition s y)) own)
  else-lines _ (newline-more {l = n} d) i p v ts z w k f =
      let a = step newline n v ts z refl w in
      let fuel = fuelled edition s v i w.good (ap (λ (j : Kind). same j text_end) a.kind) f in
      ap (λ (j : ℕ). else_after edition s j true p v) fuel.1
      ∙ (else-line edition s fuel.0 true p v (ap (λ (j : Kind). same j newline) a.kind)
      ∙ (else-again fuel.0 true p (token_after edition s v) a.next a.follow
      ∙ else-lines n d fuel.0 p a.next (tail ts) z a.others k (omega (arith, f, fuel.1, a.onward))))

  -- newlines with one `;` among them, and then an `else`
  else-marked : (n m : List Kind) → Newlines n → Newlines m → (i : ℕ) (f : Bool) (v : Token) (ts : List Token) (z : Token) → Stretch (n ++ (semicolon ∷ m)) v ts z → z.kind ≡ ELSE
      → length s ≤ i + v.start → else_after edition s i f false v ≡ some (token_after edition s z)
  unfolding rank
  else-marked _ m no-newline h i f v ts z w k q =
      let a = step semicolon m v ts z refl w in
      let fuel = fuelled edition s v i w.good (ap (λ (j : Kind). same j text_end) a.kind) q in
      ap (λ (j : ℕ). else_after edition s j f false v) fuel.1
      ∙ (else-mark edition s fuel.0 f v (ap (λ (j : Kind). same j newline) a.kind) (ap (λ (j : Kind). same j semicolon) a.kind)
      ∙ (else-again fuel.0 true true (token_after edition s v) a.next a.follow
      ∙ else-lines m h fuel.0 true a.next (tail ts) z a.others k (omega (arith, q, fuel.1, a.onward))))
  else-marked _ m (newline-more {l = n} d) h i f v ts z w k q =
      let a = step newline (n ++ (semicolon ∷ m)) v ts z refl w in
      let fuel = fuelled edition s v i w.good (ap (λ (j : Kind). same j text_end) a.kind) q in
      ap (λ (j : ℕ). else_after edition s j f false v) fuel.1
      ∙ (else-line edition s fuel.0 f false v (ap (λ (j : Kind). same j newline) a.kind)
      ∙ (else-again fuel.0 true false (token_after edition s v) a.next a.follow
      ∙ else-marked n m d h fuel.0 true a.next (tail ts) z a.others k (omega (arith, q, fuel.1, a.onward))))

  abbrev pub is_ended : End → Bool
  is_ended ended = true
  is_ended needs_end = false

  -- what may come before an `else` leads to it
  pub else-leads : (e : End) (b : List Kind) → BeforeElse e b → (i : ℕ) (v : Token) (ts : List Token) (z : Token) → Stretch b v ts z → z.kind ≡ ELSE → length s ≤ i + v.start
      → else_after edition s i (is_ended e) false v ≡ some (token_after edition s z)
  unfolding rank
  else-leads _ _ (newlines {n = n} d) i v ts z w k q = else-lines n d i false v ts z w k q
  else-leads _ _ (ending_newline {n = n} d) i v ts z w k q =
      let a = step newline n v ts z refl w in
      let fuel = fuelled edition s v i w.good (ap (λ (j : Kind). same j text_end) a.kind) q in
      ap (λ (j : ℕ). else_after edition s j false false v) fuel.1
      ∙ (else-line edition s fuel.0 false false v (ap (λ (j : Kind). same j newline) a.kind)
      ∙ (else-again fuel.0 true false (token_after edition s v) a.next a.follow
      ∙ else-lines n d fuel.0 false a.next (tail ts) z a.others k (omega (arith, q, fuel.1, a.onward))))
  else-leads _ _ (one_semicolon {e = e} {n = n} {m = m} d h) i v ts z w k q = else-marked n m d h i (is_ended e) v ts z w k q
