-- What the states say of an expression is kept by each step.
use mathlib.Core.Path.{◌≡◌, refl, sym, ap, subst, ◌∙◌}
use mathlib.Core.Bool.{Bool, true, false, cond, ◌&&◌}
use mathlib.Core.List.{List, [], ◌∷◌, ◌++◌, append_assoc}
use mathlib.Core.Option.{Option, some, none}
use Prim.Native.Nat.{ℕ}
use lib.Dec.{eqb, leb}
use Rattle.lists.proofs.Tests.{clash, and-true, or-false}
use Rattle.program_tokens.specs.Kinds.{Kind, NUMBER, STRING, ERE, fixed_variable, open_paren, close_paren, plus, minus, star, slash, percent, bang, dollar, tilde, no_match, assign, or_or, and_and, greater, less, at-most, equal, different, at-least, same, among, rank}
use Rattle.program_tokens.proofs.Ranks.{same-is}
use Rattle.program_tree.specs.Functions.{Function, functions, function_in, function_of}
use Rattle.program_grammar.specs.Sets.{names, targets, prefixes, comparisons, starts_joined}
use Rattle.program_grammar.specs.Grammar.{one, Newlines, Place, elsewhere, Compares, any, no_greater, expression, disjunction, conjunction, matching, comparison, concatenation, sum, product, prefixed, field, primary, Form, to_name, to_field, value as value-form, or, no_or, and, no_and, match, no_ere, compare, no_compare, join, no_join, add, no_add, multiply, no_multiply, prefix, no_prefix, of_field, no_field, one_token, parentheses, call as call-form}
use Rattle.program_reader.specs.Operators.{fields, concatenations, Operator, binary, operator_in, tier_in, tier_of}
use Rattle.program_exact.specs.Machine.{Mode, fresh, plain, against, tested, Context, operand_line, operand_field, settle, tier_after, printed, exit, call_step, primary_step, field_step, operand_step, operator_step, other_step, after_step}
use Rattle.program_exact.proofs.Facts.{each, by-test, words, joined, NotTested, no-function, settle-twice, after-tier}
use Rattle.program_exact.proofs.Meaning.{place_of, Opens, Split, NonEmpty, HoleOr, HoleAnd, HoleMatch, HoleJoin, HoleSum, HoleProduct, After, Prefixed, Operand, Leaves, AfterIn, OperandIn, Means, Kept}

pub opens-more : (b : Bool) (x e : List Kind) → Opens b x → Opens b (x ++ e)
opens-more false x e h = tt
opens-more true [] e h = absurd h
opens-more true (k ∷ x) e h = h

pub moved : {P : List Kind → Type 0} {H : Bool → List Kind → Type 0} {a l : List Kind} → Split P H a → l ≡ a → Split P H l
moved r e = record { flag = r.flag; left = r.left; right = r.right; parts = e ∙ r.parts; form = r.form; opens = r.opens; hole = r.hole }

pub shift : (l : List Kind) (k : Kind) (z : List Kind) → (l ++ (k ∷ [])) ++ z ≡ l ++ (k ∷ z)
shift l k z = append_assoc l (k ∷ []) z

longer : (l q x e : List Kind) → l ≡ q ++ x → l ++ e ≡ q ++ (x ++ e)
longer l q x e h = ap (λ y. y ++ e) h ∙ append_assoc q x e

-- one kind more, and then z
longer-by : (l q x : List Kind) (k : Kind) (z : List Kind) → l ≡ q ++ x → (l ++ (k ∷ [])) ++ z ≡ q ++ (x ++ (k ∷ z))
longer-by l q x k z h = shift l k z ∙ longer l q x (k ∷ z) h

module _ (edition : ℕ) (E : List Kind → Type 0) (p : Place) where
  abbrev Core : Mode → List Kind → Type 0
  Core m l = Split (Form edition product) (HoleProduct edition E p m) l

  -- ---- before an operand, where nothing of the expression is read, or an operator was

  sum_of : (m : Mode) (l : List Kind) → HoleJoin edition E p m false l → HoleSum edition E p m false l
  sum_of m l h = λ x f o. record { flag = false; left = l; right = x; parts = refl; form = no_join f; opens = tt; hole = h }

  product-of : (m : Mode) (l : List Kind) → HoleJoin edition E p m false l → HoleProduct edition E p m false l
  product-of m l h = λ x f o. record { flag = false; left = l; right = x; parts = refl; form = no_add f; opens = tt; hole = sum_of m l h }

  core-of : (m : Mode) (l x : List Kind) → HoleJoin edition E p m false l → Form edition prefixed x → Core m (l ++ x)
  core-of m l x h f = record { flag = false; left = l; right = x; parts = refl; form = no_multiply f; opens = tt; hole = product-of m l h }

  fresh-match : (l : List Kind) → Operand edition E p fresh l → HoleMatch edition E p false l
  fresh-match l h = λ x f. record {
    flag = false;
    left = l;
    right = x;
    parts = refl;
    form = no_and f;
    opens = tt;
    hole = λ y g. record { flag = false; left = l; right = y; parts = refl; form = no_or g; opens = tt; hole = λ z u. h z (value-form u) };
  }

  -- an operand of a tier further in, whatever the mode
  pub to-prefixed : (m : Mode) (l : List Kind) → Operand edition E p m l → Prefixed edition E p (settle m) l
  to-prefixed fresh l h = λ x f. core-of plain l x (fresh-match l h) f
  to-prefixed plain l h = h
  to-prefixed against l h = h
  to-prefixed tested l h = h

  pub from-prefixed : (m : Mode) (l : List Kind) → Prefixed edition E p (settle m) l → Operand edition E p (settle m) l
  from-prefixed fresh l h = h
  from-prefixed plain l h = h
  from-prefixed against l h = h
  from-prefixed tested l h = h

  -- ---- after an operand, as a form of a looser tier

  to-sum : (m : Mode) (l : List Kind) → Core m l → Split (Form edition sum) (HoleSum edition E p m) l
  to-sum m l s = moved (s.hole s.right s.form s.opens) s.parts

  to-join : (m : Mode) (l : List Kind) → Core m l → Split (Form edition concatenation) (HoleJoin edition E p m) l
  to-join m l c = let s = to-sum m l c in moved (s.hole s.right s.form s.opens) s.parts

  pub to-comparison : (m : Mode) (l : List Kind) → NotTested m → After edition E p m l → Split (Form edition (comparison p)) (HoleMatch edition E p) l
  to-comparison fresh l n h =
      let s = to-join plain l h.0 in
      record { flag = s.flag; left = s.left; right = s.right; parts = s.parts; form = no_compare s.form; opens = s.opens; hole = s.hole }
  to-comparison plain l n h =
      let s = to-join plain l h in
      record { flag = s.flag; left = s.left; right = s.right; parts = s.parts; form = no_compare s.form; opens = s.opens; hole = s.hole }
  to-comparison against l n h = let s = to-join against l h in moved (s.hole s.right s.form) s.parts
  to-comparison tested l n h = absurd n

  without-ere : (l : List Kind) → Split (Form edition (comparison p)) (HoleMatch edition E p) l → Split (Form edition (matching p)) (HoleMatch edition E p) l
  without-ere l s = record { flag = s.flag; left = s.left; right = s.right; parts = s.parts; form = no_ere s.form; opens = s.opens; hole = s.hole }

  to-matching : (m : Mode) (l : List Kind) → After edition E p m l → Split (Form edition (matching p)) (HoleMatch edition E p) l
  to-matching fresh l h = without-ere l (to-comparison fresh l tt h)
  to-matching plain l h = without-ere l (to-comparison plain l tt h)
  to-matching against l h = without-ere l (to-comparison against l tt h)
  to-matching tested l h = h

  to-and : (m : Mode) (l : List Kind) → After edition E p m l → Split (Form edition (conjunction p)) (HoleAnd edition E p) l
  to-and m l h = let s = to-matching m l h in moved (s.hole s.right s.form) s.parts

  to-or : (m : Mode) (l : List Kind) → After edition E p m l → Split (Form edition (disjunction p)) (HoleOr edition E p) l
  to-or m l h = let s = to-and m l h in moved (s.hole s.right s.form) s.parts

  pub leave : (m : Mode) (l : List Kind) → After edition E p m l → E l
  leave m l h = let s = to-or m l h in subst E (sym s.parts) (s.hole s.right s.form)

  -- ---- operators

  times : (m : Mode) (k : Kind) (l : List Kind) → among (star ∷ slash ∷ percent ∷ []) k ≡ true → Core m l
      → (z : List Kind) → Form edition prefixed z → Core m ((l ++ (k ∷ [])) ++ z)
  times m k l t s z f = record {
    flag = s.flag;
    left = s.left;
    right = s.right ++ (k ∷ z);
    parts = longer-by l s.left s.right k z s.parts;
    form = multiply s.form (one t) f;
    opens = opens-more s.flag s.right (k ∷ z) s.opens;
    hole = s.hole;
  }

  plus-minus : (m : Mode) (k : Kind) (l : List Kind) → among (plus ∷ minus ∷ []) k ≡ true → Core m l
      → (z : List Kind) → Form edition prefixed z → Core m ((l ++ (k ∷ [])) ++ z)
  plus-minus m k l t c z f =
      let s = to-sum m l c in
      record {
        flag = false;
        left = l ++ (k ∷ []);
        right = z;
        parts = refl;
        form = no_multiply f;
        opens = tt;
        hole = λ x g o. record {
          flag = s.flag;
          left = s.left;
          right = s.right ++ (k ∷ x);
          parts = longer-by l s.left s.right k x s.parts;
          form = add s.form (one t) g;
          opens = opens-more s.flag s.right (k ∷ x) s.opens;
          hole = s.hole;
        };
      }

  joining : (m : Mode) (l w : List Kind) → Split (Form edition concatenation) (HoleJoin edition E p m) l
      → (y : List Kind) → Form edition sum y → Opens true y → Split (Form edition concatenation) (HoleJoin edition E p m) (l ++ y)
  joining m l w s [] f o = absurd o
  joining m l w s (k ∷ r) f o = record {
    flag = s.flag;
    left = s.left;
    right = s.right ++ (k ∷ r);
    parts = longer l s.left s.right (k ∷ r) s.parts;
    form = join s.form f o;
    opens = opens-more s.flag s.right (k ∷ r) s.opens;
    hole = s.hole;
  }

  juxtaposed : (m : Mode) (k : Kind) (l r : List Kind) → among (ERE ∷ prefixes) k ≡ false → Core m l → Form edition field (k ∷ r) → Core m (l ++ (k ∷ r))
  juxtaposed m k l r t c f =
      let s = to-join m l c in
      record {
        flag = true;
        left = l;
        right = k ∷ r;
        parts = refl;
        form = no_multiply (no_prefix f);
        opens = t;
        hole = λ x g o. record {
          flag = true;
          left = l;
          right = x;
          parts = refl;
          form = no_add g;
          opens = o;
          hole = λ y h o. joining m l y s y h o;
        };
      }

  comparing : (k : Kind) (l : List Kind) → Compares p k → Core plain l → HoleJoin edition E p against false (l ++ (k ∷ []))
  comparing k l t c =
      let s = to-join plain l c in
      λ x f. record {
        flag = s.flag;
        left = s.left;
        right = s.right ++ (k ∷ x);
        parts = longer-by l s.left s.right k x s.parts;
        form = compare s.form t f;
        opens = opens-more s.flag s.right (k ∷ x) s.opens;
        hole = s.hole;
      }

  matched : (m : Mode) (k : Kind) (l : List Kind) → NotTested m → among (tilde ∷ no_match ∷ []) k ≡ true → After edition E p m l
      → After edition E p tested ((l ++ (k ∷ [])) ++ (ERE ∷ []))
  matched m k l n t h =
      let s = to-comparison m l n h in
      record {
        flag = s.flag;
        left = s.left;
        right = s.right ++ (k ∷ ERE ∷ []);
        parts = longer-by l s.left s.right k (ERE ∷ []) s.parts;
        form = match s.form (one t);
        opens = opens-more s.flag s.right (k ∷ ERE ∷ []) s.opens;
        hole = s.hole;
      }

  spaced : (l q x s e : List Kind) (k : Kind) → l ≡ q ++ x → ((l ++ (k ∷ [])) ++ s) ++ e ≡ q ++ (x ++ (k ∷ (s ++ e)))
  spaced l q x s e k h = append_assoc (l ++ (k ∷ [])) s e ∙ longer-by l q x k (s ++ e) h

  both : (m : Mode) (l s : List Kind) → Newlines s → After edition E p m l → HoleMatch edition E p false ((l ++ (and_and ∷ [])) ++ s)
  both m l s n h =
      let r = to-and m l h in
      λ x f. record {
        flag = r.flag;
        left = r.left;
        right = r.right ++ (and_and ∷ (s ++ x));
        parts = spaced l r.left r.right s x and_and r.parts;
        form = and r.form n f;
        opens = opens-more r.flag r.right (and_and ∷ (s ++ x)) r.opens;
        hole = r.hole;
      }

  either : (m : Mode) (l s : List Kind) → Newlines s → After edition E p m l → HoleMatch edition E p false ((l ++ (or_or ∷ [])) ++ s)
  either m l s n h =
      let r = to-or m l h in
      let here : List Kind = (l ++ (or_or ∷ [])) ++ s in
      λ x f. record {
        flag = false;
        left = here;
        right = x;
        parts = refl;
        form = no_and f;
        opens = tt;
        hole = λ y g. record {
          flag = r.flag;
          left = r.left;
          right = r.right ++ (or_or ∷ (s ++ y));
          parts = spaced l r.left r.right s y or_or r.parts;
          form = or r.form n g;
          opens = opens-more r.flag r.right (or_or ∷ (s ++ y)) r.opens;
          hole = r.hole;
        };
      }

-- ---- kinds by their tiers

-- what the tier of a kind says of it
pub data Tiered (p : Bool) (k : Kind) : ℕ → Type 0 where
  no-operator : Tiered p k 0
  of-product : among (star ∷ slash ∷ percent ∷ []) k ≡ true → Tiered p k 2
  of-sum : among (plus ∷ minus ∷ []) k ≡ true → Tiered p k 3
  of-join : among (ERE ∷ prefixes) k ≡ false → Tiered p k 4
  of-compare : Compares (place_of p) k → Tiered p k 5
  of_and : same k and_and ≡ true → Tiered p k 8
  of_or : same k or_or ≡ true → Tiered p k 9

member : (k j : Kind) (l : List Kind) → same k j ≡ true → among l j ≡ true → among l k ≡ true
member k j l e h = subst (λ (x : Kind). among l x ≡ true) (sym (same-is k j e)) h

abbrev Compared : Bool → Kind → Type 0
Compared p k = among comparisons k ≡ true → Compares (place_of p) k

module _ (edition : ℕ) where
  starts-no : (k : Kind) → starts_joined edition k ≡ true → among (ERE ∷ bang ∷ []) k ≡ false
  unfolding starts_joined among rank
  starts-no k h = go (among (ERE ∷ bang ∷ []) k) refl
    where
      off : (k : Kind) → among joined k ≡ false → among words k ≡ false → starts_joined edition k ≡ false
      off k a b = rw (a, no-function edition k b)

      go : (b : Bool) → among (ERE ∷ bang ∷ []) k ≡ b → among (ERE ∷ bang ∷ []) k ≡ false
      go false e = e
      go true e = absurd (clash (sym h ∙ each (λ k. starts_joined edition k ≡ false) (ERE ∷ bang ∷ []) (off ERE refl refl, (off bang refl refl, tt)) k e))

  by-tables : (p : Bool) (k : Kind) → Compared p k → Tiered p k (tier_in edition k (operator_in k binary))
  unfolding operator_in among rank
  by-tables p k cmp =
      let P : Option Operator → Type 0 = λ o. Tiered p k (tier_in edition k o) in
      by-test P (same k or_or) _ _ (λ e. of_or e)
      (λ e. by-test P (same k and_and) _ _ (λ e. of_and e)
      (λ e. by-test P (same k less) _ _ (λ e. of-compare (cmp (member k less comparisons e refl)))
      (λ e. by-test P (same k at-most) _ _ (λ e. of-compare (cmp (member k at-most comparisons e refl)))
      (λ e. by-test P (same k equal) _ _ (λ e. of-compare (cmp (member k equal comparisons e refl)))
      (λ e. by-test P (same k different) _ _ (λ e. of-compare (cmp (member k different comparisons e refl)))
      (λ e. by-test P (same k greater) _ _ (λ e. of-compare (cmp (member k greater comparisons e refl)))
      (λ e. by-test P (same k at-least) _ _ (λ e. of-compare (cmp (member k at-least comparisons e refl)))
      (λ e. by-test P (same k plus) _ _ (λ e. of-sum (member k plus (plus ∷ minus ∷ []) e refl))
      (λ no_plus. by-test P (same k minus) _ _ (λ e. of-sum (member k minus (plus ∷ minus ∷ []) e refl))
      (λ no_minus. by-test P (same k star) _ _ (λ e. of-product (member k star (star ∷ slash ∷ percent ∷ []) e refl))
      (λ e. by-test P (same k slash) _ _ (λ e. of-product (member k slash (star ∷ slash ∷ percent ∷ []) e refl))
      (λ e. by-test P (same k percent) _ _ (λ e. of-product (member k percent (star ∷ slash ∷ percent ∷ []) e refl))
      (λ e. by-test (Tiered p k) (starts_joined edition k) concatenations fields (λ e. of-join (joined-head no_plus no_minus (starts-no k e))) (λ e. no-operator))))))))))))))
    where
      joined-head : same k plus ≡ false → same k minus ≡ false → among (ERE ∷ bang ∷ []) k ≡ false → among (ERE ∷ prefixes) k ≡ false
      joined-head a b h =
          let x = or-false (same k ERE) _ h in
          let y = or-false (same k bang) _ x.1 in
          rw (x.0, y.0, a, b)

  pub tiered : (p : Bool) (k : Kind) → Tiered p k (tier_of edition p k)
  unfolding tier_of
  tiered false k = by-tables false k (λ h. any (one h))
  tiered true k = by-test (Tiered true k) (same k greater) fields (tier_in edition k (operator_in k binary)) (λ e. no-operator) (λ e. by-tables true k (λ h. no_greater (one h) e))

  -- ---- the shapes of a function's arguments

  Some : Option Function → Type 0
  Some none = Unit
  Some (some f) = NonEmpty f.shapes

  abbrev AllSome : List Function → Type 0
  AllSome [] = Unit
  AllSome (f ∷ l) = (NonEmpty f.shapes) × (AllSome l)

  some_in : (k : Kind) (l : List Function) → AllSome l → Some (function_in edition k l)
  unfolding function_in Some
  some_in k [] h = tt
  some_in k (f ∷ l) h = by-test Some (leb f.since edition && same k f.kind) (some f) (function_in edition k l) (λ e. h.0) (λ e. some_in k l h.1)

  pub has-shapes : (k : Kind) (f : Function) → function_of edition k ≡ some f → NonEmpty f.shapes
  unfolding Some
  has-shapes k f e = subst Some e (some_in k functions (tt, (tt, (tt, (tt, tt)))))

  -- ---- operands

  grouped : (l x : List Kind) (k : Kind) → l ++ (k ∷ (x ++ (close_paren ∷ []))) ≡ ((l ++ (k ∷ [])) ++ x) ++ (close_paren ∷ [])
  grouped l x k = simp append_assoc

  primary-kept : (named m : Mode) (c : Context) (k : Kind) (l : List Kind) → ((r : List Kind) → Form edition primary (k ∷ r) → AfterIn edition m c (l ++ (k ∷ r)))
      → (among targets k ≡ true → AfterIn edition named c (l ++ (k ∷ []))) → Kept edition l k (primary_step edition named m c k)
  unfolding primary_step among rank
  primary-kept named m c k l hf ht =
      by-test (Kept edition l k) (among (NUMBER ∷ STRING ∷ ERE ∷ fixed_variable ∷ []) k) _ _
      (λ e. hf [] (one_token (one (each (λ k. among (NUMBER ∷ STRING ∷ ERE ∷ names) k ≡ true) (NUMBER ∷ STRING ∷ ERE ∷ fixed_variable ∷ []) (refl, (refl, (refl, (refl, tt)))) k e))))
      (λ e. by-test (Kept edition l k) (among targets k) _ _ ht
      (λ e. by-test (Kept edition l k) (same k open_paren) _ _
      (λ e. λ x f. subst (AfterIn edition m c) (grouped l x k) (hf (x ++ (close_paren ∷ [])) (opening (same-is k open_paren e) x f)))
      (λ e. calls (function_of edition k) refl)))
    where
      opening : k ≡ open_paren → (x : List Kind) → Form edition (expression elsewhere) x → Form edition primary (k ∷ (x ++ (close_paren ∷ [])))
      opening e x f = subst (λ (j : Kind). Form edition primary (j ∷ (x ++ (close_paren ∷ [])))) (sym e) (parentheses f)

      calls : (o : Option Function) → function_of edition k ≡ o → Kept edition l k (call_step edition m c o)
      calls none e = tt
      calls (some f) e =
          (has-shapes k f e, λ a g. subst (AfterIn edition m c) (sym (shift l k (open_paren ∷ (a ++ (close_paren ∷ []))))) (hf (open_paren ∷ (a ++ (close_paren ∷ []))) (call-form e g)))

  field-kept : (named m : Mode) (c : Context) (k : Kind) (l : List Kind) → ((r : List Kind) → Form edition field (k ∷ r) → AfterIn edition m c (l ++ (k ∷ r)))
      → (among targets k ≡ true → AfterIn edition named c (l ++ (k ∷ []))) → (same k dollar ≡ true → Means edition (operand_field named c) (l ++ (k ∷ [])))
      → Kept edition l k (field_step edition named m c k)
  unfolding field_step
  field-kept named m c k l hf ht hd =
      by-test (Kept edition l k) (same k dollar) _ _ hd (λ e. primary-kept named m c k l (λ r f. hf r (no_field f)) ht)

  dollar-first : (k : Kind) (x : List Kind) → same k dollar ≡ true → Form edition field x → Form edition field (k ∷ x)
  dollar-first k x e f = subst (λ (j : Kind). Form edition field (j ∷ x)) (sym (same-is k dollar e)) (of_field f)

  target_first : (k : Kind) → among targets k ≡ true → Form edition primary (k ∷ [])
  unfolding among rank
  target_first k e = one_token (one (each (λ k. among (NUMBER ∷ STRING ∷ ERE ∷ names) k ≡ true) targets (refl, (refl, tt)) k e))

  -- where a name and others lead to the same
  same_kept : (m : Mode) (c : Context) (k : Kind) (l : List Kind) → ((r : List Kind) → Form edition field (k ∷ r) → AfterIn edition m c (l ++ (k ∷ r)))
      → Kept edition l k (field_step edition m m c k)
  same_kept m c k l hf =
      field-kept m m c k l hf (λ e. hf [] (no_field (target_first k e)))
      (λ e x f. subst (AfterIn edition m c) (sym (shift l k x)) (hf x (dollar-first k x e f)))

  pub operand-field-kept : (m : Mode) (c : Context) (k : Kind) (l : List Kind) → Means edition (operand_field m c) l → Kept edition l k (field_step edition m m c k)
  operand-field-kept m c k l h = same_kept m c k l (λ r f. h (k ∷ r) f)

  prefix-kept : (m : Mode) (c : Context) (k : Kind) (l : List Kind) → among prefixes k ≡ true → Prefixed edition (Leaves edition c) (place_of (printed c)) (settle m) l
      → OperandIn edition (settle m) c (l ++ (k ∷ []))
  prefix-kept m c k l e h =
      from-prefixed edition (Leaves edition c) (place_of (printed c)) m (l ++ (k ∷ []))
      (λ x f. subst (AfterIn edition (settle m) c) (sym (shift l k x)) (h (k ∷ x) (prefix (one e) f)))

  first-kept : (m : Mode) (c : Context) (k : Kind) (l : List Kind) → OperandIn edition m c l → Kept edition l k (field_step edition m (settle m) c k)
  first-kept fresh c k l h =
      let p : Prefixed edition (Leaves edition c) (place_of (printed c)) plain l = to-prefixed edition (Leaves edition c) (place_of (printed c)) fresh l h in
      field-kept fresh plain c k l (λ r f. p (k ∷ r) (no_prefix f))
      (λ e. (p (k ∷ []) (no_prefix (no_field (target_first k e))), λ r f. subst (Leaves edition c) (sym (shift l k (assign ∷ r))) (h (k ∷ assign ∷ r) (to_name (one e) f))))
      (λ e x f. (
        subst (AfterIn edition plain c) (sym (shift l k x)) (p (k ∷ x) (no_prefix (dollar-first k x e f))),
        λ r g. subst (Leaves edition c) (assigned l x r k) (h (k ∷ (x ++ (assign ∷ r))) (subst (λ (j : Kind). Form edition (expression (place_of (printed c))) (j ∷ (x ++ (assign ∷ r)))) (sym (same-is k dollar e)) (to_field f g))),
      ))
    where
      assigned : (l x r : List Kind) (k : Kind) → l ++ (k ∷ (x ++ (assign ∷ r))) ≡ ((l ++ (k ∷ [])) ++ x) ++ (assign ∷ r)
      assigned l x r k = simp append_assoc
  first-kept plain c k l h = same_kept plain c k l (λ r f. h (k ∷ r) (no_prefix f))
  first-kept against c k l h = same_kept against c k l (λ r f. h (k ∷ r) (no_prefix f))
  first-kept tested c k l h = same_kept tested c k l (λ r f. h (k ∷ r) (no_prefix f))

  pub operand-kept : (m : Mode) (c : Context) (k : Kind) (l : List Kind) → OperandIn edition m c l → Kept edition l k (operand_step edition m c k)
  unfolding operand_step
  operand-kept m c k l h =
      by-test (Kept edition l k) (among prefixes k) _ _
      (λ e. prefix-kept m c k l e (to-prefixed edition (Leaves edition c) (place_of (printed c)) m l h)) (λ e. first-kept m c k l h)

  -- ---- operators

  join_kept : (m : Mode) (c : Context) (k : Kind) (l : List Kind) → among (ERE ∷ prefixes) k ≡ false
      → ((r : List Kind) → Form edition field (k ∷ r) → AfterIn edition (settle m) c (l ++ (k ∷ r))) → Kept edition l k (operand_step edition (settle m) c k)
  unfolding operand_step among
  join_kept m c k l t h =
      let none_of = or-false (same k ERE) (among prefixes k) t in
      by-test (Kept edition l k) (among prefixes k) _ _ (λ e. absurd (clash (sym e ∙ none_of.1)))
      (λ e. subst (λ (n : Mode). Kept edition l k (field_step edition (settle m) n c k)) (sym (settle-twice m)) (same_kept (settle m) c k l h))

  other-kept : (m : Mode) (c : Context) (k : Kind) (l : List Kind) → AfterIn edition m c l → Kept edition l k (exit c k) → Kept edition l k (other_step edition m c k)
  unfolding other_step
  other-kept fresh c k l h x =
      by-test (Kept edition l k) (among (tilde ∷ no_match ∷ []) k && true) _ _
      (λ e. matched edition (Leaves edition c) (place_of (printed c)) fresh k l tt (and-true (among (tilde ∷ no_match ∷ []) k) true e).0 h)
      (λ e. by-test (Kept edition l k) (same k assign && true) _ _
      (λ e r f. subst (λ (j : Kind). Leaves edition c ((l ++ (j ∷ [])) ++ r)) (sym (same-is k assign (and-true (same k assign) true e).0))
      (subst (Leaves edition c) (sym (shift l assign r)) (h.1 r f))) (λ e. x))
  other-kept plain c k l h x =
      by-test (Kept edition l k) (among (tilde ∷ no_match ∷ []) k && true) _ _
      (λ e. matched edition (Leaves edition c) (place_of (printed c)) plain k l tt (and-true (among (tilde ∷ no_match ∷ []) k) true e).0 h)
      (λ e. by-test (Kept edition l k) (same k assign && false) _ _ (λ e. absurd (clash (sym (and-true (same k assign) false e).1))) (λ e. x))
  other-kept against c k l h x =
      by-test (Kept edition l k) (among (tilde ∷ no_match ∷ []) k && true) _ _
      (λ e. matched edition (Leaves edition c) (place_of (printed c)) against k l tt (and-true (among (tilde ∷ no_match ∷ []) k) true e).0 h)
      (λ e. by-test (Kept edition l k) (same k assign && false) _ _ (λ e. absurd (clash (sym (and-true (same k assign) false e).1))) (λ e. x))
  other-kept tested c k l h x =
      by-test (Kept edition l k) (among (tilde ∷ no_match ∷ []) k && false) _ _ (λ e. absurd (clash (sym (and-true (among (tilde ∷ no_match ∷ []) k) false e).1)))
      (λ e. by-test (Kept edition l k) (same k assign && false) _ _ (λ e. absurd (clash (sym (and-true (same k assign) false e).1))) (λ e. x))

  and_kept : (m : Mode) (c : Context) (k : Kind) (l : List Kind) → same k and_and ≡ true → AfterIn edition m c l → Means edition (operand_line plain c) (l ++ (k ∷ []))
  and_kept m c k l e h =
      subst (λ (j : Kind). Means edition (operand_line plain c) (l ++ (j ∷ []))) (sym (same-is k and_and e))
      (λ s n x f. core-of edition (Leaves edition c) (place_of (printed c)) plain ((l ++ (and_and ∷ [])) ++ s) x (both edition (Leaves edition c) (place_of (printed c)) m l s n h) f)

  or_kept : (m : Mode) (c : Context) (k : Kind) (l : List Kind) → same k or_or ≡ true → AfterIn edition m c l → Means edition (operand_line plain c) (l ++ (k ∷ []))
  or_kept m c k l e h =
      subst (λ (j : Kind). Means edition (operand_line plain c) (l ++ (j ∷ []))) (sym (same-is k or_or e))
      (λ s n x f. core-of edition (Leaves edition c) (place_of (printed c)) plain ((l ++ (or_or ∷ [])) ++ s) x (either edition (Leaves edition c) (place_of (printed c)) m l s n h) f)

  by-tier : (m : Mode) (c : Context) (k : Kind) (l : List Kind) (n : ℕ) → Tiered (printed c) k n → AfterIn edition m c l → Kept edition l k (exit c k)
      → Kept edition l k (cond (eqb (tier_after m n) fields) (other_step edition m c k) (operator_step edition m c k (tier_after m n)))
  unfolding tier_after operator_step
  by-tier fresh c k l n no-operator h x = other-kept fresh c k l h x
  by-tier fresh c k l n (of-product t) h x = λ z f. times edition (Leaves edition c) (place_of (printed c)) plain k l t h.0 z f
  by-tier fresh c k l n (of-sum t) h x = λ z f. plus-minus edition (Leaves edition c) (place_of (printed c)) plain k l t h.0 z f
  by-tier fresh c k l n (of-join t) h x = join_kept fresh c k l t (λ r f. juxtaposed edition (Leaves edition c) (place_of (printed c)) plain k l r t h.0 f)
  by-tier fresh c k l n (of-compare t) h x = λ z f. core-of edition (Leaves edition c) (place_of (printed c)) against (l ++ (k ∷ [])) z (comparing edition (Leaves edition c) (place_of (printed c)) k l t h.0) f
  by-tier fresh c k l n (of_and t) h x = and_kept fresh c k l t h
  by-tier fresh c k l n (of_or t) h x = or_kept fresh c k l t h
  by-tier plain c k l n no-operator h x = other-kept plain c k l h x
  by-tier plain c k l n (of-product t) h x = λ z f. times edition (Leaves edition c) (place_of (printed c)) plain k l t h z f
  by-tier plain c k l n (of-sum t) h x = λ z f. plus-minus edition (Leaves edition c) (place_of (printed c)) plain k l t h z f
  by-tier plain c k l n (of-join t) h x = join_kept plain c k l t (λ r f. juxtaposed edition (Leaves edition c) (place_of (printed c)) plain k l r t h f)
  by-tier plain c k l n (of-compare t) h x = λ z f. core-of edition (Leaves edition c) (place_of (printed c)) against (l ++ (k ∷ [])) z (comparing edition (Leaves edition c) (place_of (printed c)) k l t h) f
  by-tier plain c k l n (of_and t) h x = and_kept plain c k l t h
  by-tier plain c k l n (of_or t) h x = or_kept plain c k l t h
  by-tier against c k l n no-operator h x = other-kept against c k l h x
  by-tier against c k l n (of-product t) h x = λ z f. times edition (Leaves edition c) (place_of (printed c)) against k l t h z f
  by-tier against c k l n (of-sum t) h x = λ z f. plus-minus edition (Leaves edition c) (place_of (printed c)) against k l t h z f
  by-tier against c k l n (of-join t) h x = join_kept against c k l t (λ r f. juxtaposed edition (Leaves edition c) (place_of (printed c)) against k l r t h f)
  by-tier against c k l n (of-compare t) h x = other-kept against c k l h x
  by-tier against c k l n (of_and t) h x = and_kept against c k l t h
  by-tier against c k l n (of_or t) h x = or_kept against c k l t h
  by-tier tested c k l n no-operator h x = other-kept tested c k l h x
  by-tier tested c k l n (of-product t) h x = other-kept tested c k l h x
  by-tier tested c k l n (of-sum t) h x = other-kept tested c k l h x
  by-tier tested c k l n (of-join t) h x = other-kept tested c k l h x
  by-tier tested c k l n (of-compare t) h x = other-kept tested c k l h x
  by-tier tested c k l n (of_and t) h x = and_kept tested c k l t h
  by-tier tested c k l n (of_or t) h x = or_kept tested c k l t h

  pub after_kept : (m : Mode) (c : Context) (k : Kind) (l : List Kind) → AfterIn edition m c l → Kept edition l k (exit c k) → Kept edition l k (after_step edition m c k)
  after_kept m c k l h x =
      subst (Kept edition l k) (sym (after-tier edition m c k (tier_of edition (printed c) k) refl)) (by-tier m c k l (tier_of edition (printed c) k) (tiered (printed c) k) h x)
