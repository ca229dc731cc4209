-- The walk over a text's tokens, with no bound on its steps: from one token to another, past some names.
use mathlib.Core.Path.{◌≡◌, refl, sym, subst, ◌∙◌}
use mathlib.Core.Bool.{Bool, true, false, not, cond, ◌&&◌}
use mathlib.Core.List.{List, [], ◌∷◌, ◌++◌, append_assoc, append-nil}
use mathlib.Core.Logic.{⊎_elim}
use mathlib.Core.Option.{Option, some, none}
use Prim.Native.Nat.{ℕ, zero, suc, ◌+◌}
use lib.ListN.{length, drop, take}
use native.Mathlib.Omega.{arith}
use lib.Dec.{eqb, leb}
use borrow.Author.Tests.{not-true, ne_eqb, lt-leb}
use Rattle.lists.specs.Elements.{all}
use Rattle.lists.proofs.Tests.{clash, and-true, or_cases}
use Rattle.ere_meaning.specs.Tree.{Class, Ere}
use Rattle.ere_grammar.specs.Read.{read_ere}
use Rattle.program_tokens.specs.Kinds.{Kind, text_end, newline, bad, bad-ere, ERE, IF, WHILE, open_paren, close_paren, slash, div_assign, same, among, rank}
use Rattle.program_tokens.specs.Tokens.{Token, token, is, is_one_of, token_after, ere_length, ere_read, ere_token, as_operand, spelling}
use Rattle.program_tokens.proofs.Ranks.{same-is}
use Rattle.program_grammar.specs.Sets.{names}
use Rattle.program_reader.specs.Read.{past_in, past}
use Rattle.program_names.specs.Walk.{spanned_by, spanned, open_after, operand_ends, ere_follows, next_in}

-- ---- kinds

-- what a test says of each kind of a list, it says of a kind that is one of them
pub among-all : (test : Kind → Bool) (ks : List Kind) (k : Kind) → all test ks ≡ true → among ks k ≡ true
    → test k ≡ true
unfolding among
among-all test [] k h e = absurd (clash (sym e))
among-all test (a ∷ ks) k h e =
    let each = and-true (test a) (all test ks) h in
    ⊎_elim (λ q. subst (λ (c : Kind). test c ≡ true) (sym (same-is k a q)) each.0)
    (λ q. among-all test ks k each.1 q) (or_cases (same k a) (among ks k) e)

pub is_all : (test : Kind → Bool) (a k : Kind) → test a ≡ true → same k a ≡ true → test k ≡ true
is_all test a k h q = subst (λ (c : Kind). test c ≡ true) (sym (same-is k a q)) h

-- a kind that is no `/`, which an ERE may start with, and no bad token or ERE
abbrev pub settled : Kind → Bool
settled k = not (among (slash ∷ div_assign ∷ []) k) && not (among (bad ∷ bad-ere ∷ []) k)

-- a kind that an operand may follow, and that opens and closes no parenthesis
abbrev pub opens : Kind → Bool
opens k =
    not (same k text_end) && (not (among operand_ends k)
    && (not (among (IF ∷ WHILE ∷ []) k) && (not (same k open_paren) && not (same k close_paren))))

-- such a kind where the walk's token is the reader's
abbrev pub passed : Kind → Bool
passed k = opens k && settled k

pub record Opens (k : Kind) : Type 0 where
  pub begun : same k text_end ≡ false
  pub nameless : among names k ≡ false
  pub follows : (m : ℕ) → ere_follows k m ≡ true
  pub keeps : (m : ℕ) → open_after k m ≡ m

-- a name ends an operand
ended-name : (k : Kind) → among operand_ends k ≡ false → among names k ≡ false
unfolding among rank
ended-name k e = go (among names k) refl
  where
    go : (b : Bool) → among names k ≡ b → b ≡ false
    go true q = absurd (clash (sym (among-all (among operand_ends) names k refl q) ∙ e))
    go false q = refl

pub opened : (k : Kind) → opens k ≡ true → Opens k
unfolding among ere_follows open_after
opened k e =
    let a = and-true (not (same k text_end)) _ e in
    let b = and-true (not (among operand_ends k)) _ a.1 in
    let c = and-true (not (among (IF ∷ WHILE ∷ []) k)) _ b.1 in
    let d = and-true (not (same k open_paren)) _ c.1 in
    let operand : among operand_ends k ≡ false = not-true _ b.0 in
    let word : among (IF ∷ WHILE ∷ []) k ≡ false = not-true _ c.0 in
    let left : same k open_paren ≡ false = not-true _ d.0 in
    let right : same k close_paren ≡ false = not-true _ d.1 in
    record {
      begun = not-true _ a.0;
      nameless = ended-name k operand;
      follows = λ m. simp (operand, right);
      keeps = λ m. simp (word, left, right);
    }

-- a kind that ends an operand
abbrev ends : Kind → Bool
ends k =
    not (same k text_end) && (not (among (IF ∷ WHILE ∷ []) k) && (not (same k open_paren) && not (same k close_paren)))

pub record Ends (k : Kind) : Type 0 where
  pub begun : same k text_end ≡ false
  pub divides : (m : ℕ) → ere_follows k m ≡ false
  pub keeps : (m : ℕ) → open_after k m ≡ m

pub ended : (k : Kind) → among operand_ends k ≡ true → Ends k
unfolding among rank ere_follows open_after
ended k e =
    let a = and-true (not (same k text_end)) _ (among-all ends operand_ends k refl e) in
    let c = and-true (not (among (IF ∷ WHILE ∷ []) k)) _ a.1 in
    let d = and-true (not (same k open_paren)) _ c.1 in
    let word : among (IF ∷ WHILE ∷ []) k ≡ false = not-true _ c.0 in
    let left : same k open_paren ≡ false = not-true _ d.0 in
    let right : same k close_paren ≡ false = not-true _ d.1 in
    record { begun = not-true _ a.0; divides = λ m. rw e; keeps = λ m. simp (word, left, right) }

-- ---- parentheses

-- the count of a walk, by how many parentheses are open inside those of a condition, where it is in one
abbrev pub parens : Option ℕ → ℕ
parens none = 0
parens (some j) = 2 + j

abbrev pub deeper : Option ℕ → Option ℕ
deeper none = none
deeper (some j) = some (suc j)

opening : (x : Option ℕ) → open_after open_paren (parens x) ≡ parens (deeper x)
unfolding open_after rank among
opening none = refl
opening (some j) = let later : eqb (2 + j) 0 ≡ false = ne_eqb (2 + j) 0 (omega arith) in rw later (omega arith)

closing : (x : Option ℕ) → open_after close_paren (parens (deeper x)) ≡ parens x
unfolding open_after rank among
closing none = refl
closing (some j) = let later : leb (2 + suc j) 2 ≡ false = lt-leb (2 + suc j) 2 (omega arith) in rw later (omega arith)

closing-divides : (x : Option ℕ) → ere_follows close_paren (parens (deeper x)) ≡ false
unfolding ere_follows rank among
closing-divides none = refl
closing-divides (some j) = ne_eqb (2 + suc j) _ (omega arith)

-- ---- where the walk is, and where the reader is

-- the walk's token is the reader's, but where that is a `/`, or is bad
abbrev pub Meets : Token → Token → Type 0
Meets w t = settled t.kind ≡ true → w ≡ t

pub meets-token : (ks : List Kind) (w t : Token) → all settled ks ≡ true → is_one_of ks t ≡ true → Meets w t → w ≡ t
meets-token ks w t h e f = f (among-all settled ks t.kind h e)

pub meets-kind : (k : Kind) (w t : Token) → settled k ≡ true → is k t ≡ true → Meets w t → w ≡ t
meets-kind k w t h e f = f (is_all settled k t.kind h e)

module _ (edition : ℕ) (s : List ℕ) where
  -- ---- the walk

  -- the name that a token is
  abbrev pub own : Token → List (List ℕ)
  own t = cond (is_one_of names t) (spelling s t ∷ []) []

  -- from a token, with so many parentheses open, to a token, with so many open, past these names
  pub data Walks : Token → ℕ → List (List ℕ) → Token → ℕ → Type 0 where
    here : (t : Token) (m : ℕ) → Walks t m [] t m
    pass : (t u : Token) (m n : ℕ) (l : List (List ℕ)) → is text_end t ≡ false
        → Walks (next_in edition s t m) (open_after t.kind m) l u n → Walks t m (own t ++ l) u n

  pub walks-join : (t u v : Token) (m n o : ℕ) (k l : List (List ℕ)) → Walks t m k u n → Walks u n l v o
      → Walks t m (k ++ l) v o
  walks-join t u v m n o k l (here a b) q = q
  walks-join t u v m n o k l (pass a c b d j e p) q =
      subst (λ (i : List (List ℕ)). Walks a b i v o) (sym (append_assoc (own a) j l))
      (pass a v b o (j ++ l) e (walks-join (next_in edition s a b) c v (open_after a.kind b) d o j l p q))

  -- one token
  pub one : (t u : Token) (m n : ℕ) (l : List (List ℕ)) → is text_end t ≡ false → own t ≡ l → open_after t.kind m ≡ n
      → next_in edition s t m ≡ u → Walks t m l u n
  one t u m n l e o p q =
      let w : Walks t m (own t ++ []) (next_in edition s t m) (open_after t.kind m) = pass t _ m _ [] e (here _ _) in
      subst (λ (j : List (List ℕ)). Walks t m j u n) (append-nil (own t) ∙ o)
      (subst (λ (v : Token). Walks t m (own t ++ []) v n) q
      (subst (λ (k : ℕ). Walks t m (own t ++ []) (next_in edition s t m) k) p w))

  -- a token that an operand may follow
  pub open-token : (t : Token) (m : ℕ) → opens t.kind ≡ true → Walks t m [] (spanned s (token_after edition s t)) m
  unfolding next_in
  open-token t m e =
      let o = opened t.kind e in
      one t _ m m [] o.begun (rw o.nameless) (o.keeps m) (rw (o.follows m))

  -- a token that ends an operand
  pub operand-token : (t : Token) (m : ℕ) → is_one_of operand_ends t ≡ true → Walks t m (own t) (token_after edition s t) m
  unfolding next_in
  operand-token t m e =
      let o = ended t.kind e in
      one t _ m m (own t) o.begun refl (o.keeps m) (rw (o.divides m))

  -- a token of a kind that is known
  kind-token : (k : Kind) (t : Token) (m n : ℕ) (b : Bool) → is k t ≡ true → same k text_end ≡ false
      → among names k ≡ false → open_after k m ≡ n → ere_follows k m ≡ b
      → Walks t m [] (cond b (spanned s (token_after edition s t)) (token_after edition s t)) n
  unfolding next_in
  kind-token k t m n b e begun nameless after follows =
      let q : k ≡ t.kind = sym (same-is t.kind k e) in
      one t _ m n [] (subst (λ (c : Kind). same c text_end ≡ false) q begun)
      (rw (subst (λ (c : Kind). among names c ≡ false) q nameless))
      (subst (λ (c : Kind). open_after c m ≡ n) q after)
      (rw (subst (λ (c : Kind). ere_follows c m ≡ b) q follows))

  pub open-parenthesis : (t : Token) (x : Option ℕ) → is open_paren t ≡ true
      → Walks t (parens x) [] (spanned s (token_after edition s t)) (parens (deeper x))
  unfolding rank among ere_follows
  open-parenthesis t x e = kind-token open_paren t (parens x) (parens (deeper x)) true e refl refl (opening x) refl

  pub close-parenthesis : (t : Token) (x : Option ℕ) → is close_paren t ≡ true
      → Walks t (parens (deeper x)) [] (token_after edition s t) (parens x)
  unfolding rank among
  close-parenthesis t x e =
      kind-token close_paren t (parens (deeper x)) (parens x) false e refl refl (closing x) (closing-divides x)

  -- the word and the parentheses of a condition
  pub if-token : (t : Token) → is IF t ≡ true → Walks t 0 [] (spanned s (token_after edition s t)) 1
  unfolding rank among ere_follows open_after
  if-token t e = kind-token IF t 0 1 true e refl refl refl refl

  pub while-token : (t : Token) → is WHILE t ≡ true → Walks t 0 [] (spanned s (token_after edition s t)) 1
  unfolding rank among ere_follows open_after
  while-token t e = kind-token WHILE t 0 1 true e refl refl refl refl

  pub open-condition : (t : Token) → is open_paren t ≡ true → Walks t 1 [] (spanned s (token_after edition s t)) 2
  unfolding rank among ere_follows open_after
  open-condition t e = kind-token open_paren t 1 2 true e refl refl refl refl

  pub close-condition : (t : Token) → is close_paren t ≡ true → Walks t 2 [] (spanned s (token_after edition s t)) 0
  unfolding rank among ere_follows open_after
  close-condition t e = kind-token close_paren t 2 0 true e refl refl refl refl

  -- ---- where the walk meets the reader

  pub meets-spanned : (t : Token) → Meets (spanned s t) t
  unfolding spanned
  meets-spanned t e =
      let plain : is_one_of (slash ∷ div_assign ∷ []) t ≡ false =
      not-true _ (and-true (not (is_one_of (slash ∷ div_assign ∷ []) t)) _ e).0 in
      rw plain

  meets-read : (t : Token) (n : ℕ) (r : Option (Ere Class))
      → Meets (token t.start ERE (2 + n)) (ere_read t.start (2 + n) r)
  unfolding ere_read rank among
  meets-read t n none e = absurd (clash (sym e))
  meets-read t n (some r) e = refl

  meets-ere : (t : Token) (l : List ℕ) (o : Option ℕ) → Meets (spanned_by t o) (ere_token edition t.start l o)
  unfolding ere_token spanned_by rank among
  meets-ere t l none e = absurd (clash (sym e))
  meets-ere t l (some n) e = meets-read t n (read_ere edition (take n l)) e

  pub meets-operand : (t : Token) → Meets (spanned s t) (as_operand edition s t)
  unfolding spanned as_operand
  meets-operand t = go (is_one_of (slash ∷ div_assign ∷ []) t)
    where
      l : List ℕ
      l = drop (suc t.start) s

      go : (b : Bool) → Meets (cond b (spanned_by t (ere_length false l)) t)
          (cond b (ere_token edition t.start l (ere_length false l)) t)
      go true = meets-ere t l (ere_length false l)
      go false = λ e. refl

  -- tokens that are passed
  pub past-walk : (ks : List Kind) (n : ℕ) (t : Token) (m : ℕ) → all passed ks ≡ true
      → Walks (spanned s t) m [] (spanned s (past_in edition s ks n t)) m
  unfolding past_in
  past-walk ks zero t m h = here _ m
  past-walk ks (suc n) t m h = go (is_one_of ks t) refl (past-walk ks n (token_after edition s t) m h)
    where
      u : Token
      u = token_after edition s t

      v : Token
      v = past_in edition s ks n u

      go : (b : Bool) → is_one_of ks t ≡ b → Walks (spanned s u) m [] (spanned s v) m
          → Walks (spanned s t) m [] (spanned s (cond b v t)) m
      go true e p =
          let both = and-true (opens t.kind) _ (among-all passed ks t.kind h e) in
          subst (λ (w : Token). Walks w m [] (spanned s v) m) (sym (meets-spanned t both.1))
          (walks-join t (spanned s u) (spanned s v) m m m [] [] (open-token t m both.0) p)
      go false e p = here _ m

  -- "newlines may follow": to the first token after them, where an operand may be
  pub newlines-walk : (t : Token) (m : ℕ)
      → Walks (spanned s t) m [] (spanned s (past edition s (newline ∷ []) t)) m
  unfolding rank among
  newlines-walk t m = past-walk (newline ∷ []) (length s) t m refl

-- ---- walks that are joined

module _ {edition : ℕ} {s : List ℕ} where
  pub joined : {t u v : Token} {m n o : ℕ} {k l : List (List ℕ)} → Walks edition s t m k u n → Walks edition s u n l v o
      → Walks edition s t m (k ++ l) v o
  joined p q = walks-join edition s _ _ _ _ _ _ _ _ p q

  -- past no more names
  pub onward : {t u v : Token} {m n o : ℕ} {k : List (List ℕ)} → Walks edition s t m k u n → Walks edition s u n [] v o
      → Walks edition s t m k v o
  onward {t} {u} {v} {m} {n} {o} {k} p q =
      subst (λ (l : List (List ℕ)). Walks edition s t m l v o) (append-nil k) (joined p q)

  pub to : {t u v : Token} {m n : ℕ} {l : List (List ℕ)} → Walks edition s t m l u n → u ≡ v → Walks edition s t m l v n
  to {t} {u} {v} {m} {n} {l} p e = subst (λ (w : Token). Walks edition s t m l w n) e p

  pub from : {t u v : Token} {m n : ℕ} {l : List (List ℕ)} → v ≡ t → Walks edition s t m l u n
      → Walks edition s v m l u n
  from {t} {u} {v} {m} {n} {l} e p = subst (λ (w : Token). Walks edition s w m l u n) (sym e) p

  pub past-names : {t u : Token} {m n : ℕ} {k l : List (List ℕ)} → Walks edition s t m k u n → k ≡ l
      → Walks edition s t m l u n
  past-names {t} {u} {m} {n} {k} {l} p e = subst (λ (j : List (List ℕ)). Walks edition s t m j u n) e p
