-- Laws of both automata of a search, one after the other.
use mathlib.Core.Path.{◌≡◌, refl, sym, ap, subst, ◌∙◌}
use mathlib.Core.Bool.{true, false, ◌&&◌}
use mathlib.Core.List.{List, ◌++◌, append-nil}
use mathlib.Core.Logic.{⊎_elim}
use Prim.Native.Nat.{ℕ, ◌+◌, ◌-◌, ◌/◌, ◌%◌, ◌≤◌, ◌<◌}
use native.Mathlib.Omega.{arith}
use lib.ListN.{length, get_or, set, take, drop, length-set, length-append, length-drop, drop_of_length-le}
use lib.ListN.{get_or-append, get_or-eq_default}
use lib.Seq.{get_or-set_same, get_or-set_other, get_or-take, length-take-le, take_at, drop_at, take_all, take-append-add}
use lib.Bits.{bit_or}
use lib.Dec.{eqb, leb}
use borrow.Rule.Slice.PartMut.{mid_of, put_mid, same_len_mid}
use borrow.Author.Tests.{eqb-true, eq-eqb, leb-true}
use Rattle.lists.proofs.Tests.{and-true}
use Rattle.ere_table.specs.Table.{row}
use Rattle.ere_table.specs.Wiring.{stop_in}
use Rattle.ere_automaton.specs.Layout.{rows_at, Testable}
use Rattle.ere_automaton.specs.Automaton.{Hull}
use Rattle.ere_automaton.specs.Follows.{FollowsOne, FollowsPending, Seeks, one_length, one_in, pending_in}
use Rattle.ere_classes.specs.Frames.{Frame}
use Rattle.ere_derive.specs.Both.{Nested, HeadedBoth}
use Rattle.std.specs.Prelude.{Option, Some}
use Rattle.ere_derive.specs.Derived.{DerivedBy, DerivedBoth}
use Rattle.ere_classes.proofs.Columns.{ordered}
use Rattle.ere_classes.proofs.Framed.{three}
use Rattle.ere_classes.proofs.Framed.{frame_on, frame-wider, frame-set}
use Rattle.ere_classes.proofs.Bounded.{hull-on}
use Rattle.ere_shapes.proofs.Spelling.{testable-on}
use Rattle.ere_derive.proofs.Following.{follows-one, follows-pending}
use Rattle.ere_derive.proofs.Heads.{follows_on}

-- ---- what a table has

pub nested_is : (t : List ℕ)
    → (eqb (bit_or (get_or t 0 0) (get_or t 3 0)) (get_or t 0 0)
    && (eqb (bit_or (get_or t 1 0) (get_or t 4 0)) (get_or t 1 0) && leb (get_or t 5 0 % 2) (get_or t 2 0 % 2))) ≡ true → Nested t
nested_is t h = record { wider = three _ _ _ _ _ _ (eqb-true _ _ x.0) (eqb-true _ _ y.0) refl; sooner = sooner }
  where
    x : (eqb (bit_or (get_or t 0 0) (get_or t 3 0)) (get_or t 0 0) ≡ true)
        × ((eqb (bit_or (get_or t 1 0) (get_or t 4 0)) (get_or t 1 0) && leb (get_or t 5 0 % 2) (get_or t 2 0 % 2)) ≡ true)
    x = and-true _ _ h

    y : (eqb (bit_or (get_or t 1 0) (get_or t 4 0)) (get_or t 1 0) ≡ true) × (leb (get_or t 5 0 % 2) (get_or t 2 0 % 2) ≡ true)
    y = and-true _ _ x.1

    sooner : stop_in (row t 1) false ≡ true → stop_in (row t 0) false ≡ true
    sooner e =
        let l : get_or t 5 0 % 2 ≤ get_or t 2 0 % 2 = leb-true (get_or t 5 0 % 2) (get_or t 2 0 % 2) y.1 in
        let f : get_or t 5 0 / 1 % 2 ≡ 1 = eqb-true (get_or t 5 0 / 1 % 2) 1 e in
        let g : get_or t 2 0 / 1 % 2 ≡ 1 = omega arith in
        eq-eqb (get_or t 2 0 / 1 % 2) 1 g

-- ---- the head

pub headed-both : (t : List ℕ) (n : ℕ) (d : List ℕ) → rows_at ≤ length d
    → HeadedBoth t n d (set (set (set d 10 n) 11 (get_or t 2 0 % 4)) 12 (get_or t 5 0 % 4))
headed-both t n d room = record {
  frame =
      frame_on
      (frame_on (wide d 10 n (omega arith) (omega arith)) (wide d1 11 x (omega arith) (omega arith)))
      (wide d2 12 y (omega arith) (omega arith));
  size =
      get_or-set_other d2 12 10 y 0 (omega arith) ∙ get_or-set_other d1 11 10 x 0 (omega arith)
      ∙ get_or-set_same d 10 n 0 (omega arith);
  empty_first = get_or-set_other d2 12 11 y 0 (omega arith) ∙ get_or-set_same d1 11 x 0 (simp length-set (omega arith));
  empty_later = get_or-set_same d2 12 y 0 (simp length-set (omega arith));
}
  where
    x : ℕ
    x = get_or t 2 0 % 4

    y : ℕ
    y = get_or t 5 0 % 4

    d1 : List ℕ
    d1 = set d 10 n

    d2 : List ℕ
    d2 = set d1 11 x

    wide : (e : List ℕ) (i v : ℕ) → 10 ≤ i → i < 13 → Frame 10 13 e (set e i v)
    wide e i v l h = frame-wider (omega arith) (omega arith) (frame-set e i v)

-- ---- both

module _ (t A B : List ℕ) (n : ℕ) (size : length A ≡ n) (long : rows_at ≤ n) (head : get_or A 10 0 ≡ n) where
  word_in : (i : ℕ) → i < rows_at → get_or (A ++ B) i 0 ≡ get_or A i 0
  word_in i h = get_or-append A B 0 i (omega arith)

  length-is : one_length (A ++ B) ≡ n
  length-is = word_in 10 (omega arith) ∙ head

  one-is : one_in (A ++ B) ≡ A
  one-is = ap (λ (x : ℕ). take x (A ++ B)) length-is ∙ take_at A B n size

  pending-is : pending_in (A ++ B) ≡ B
  pending-is = ap (λ (x : ℕ). drop x (A ++ B)) length-is ∙ drop_at A B n size

  pub seeks-both : FollowsOne t A → FollowsPending t B → Hull t A → Hull t B → Nested t
      → get_or A 11 0 ≡ get_or (row t 0) 2 0 % 4 → get_or A 12 0 ≡ get_or (row t 1) 2 0 % 4 → Seeks t (A ++ B)
  seeks-both F G H K N e g = record {
    inside = let x = length-is in let y = length-append A B in omega arith;
    one = subst (FollowsOne t) (sym one-is) F;
    pending = subst (FollowsPending t) (sym pending-is) G;
    one_hull = λ h. subst (Hull t) (sym one-is) H;
    pending_hull = λ h. subst (Hull t) (sym pending-is) K;
    wider = N.wider;
    sooner = N.sooner;
    empty_first = word_in 11 (omega arith) ∙ e;
    empty_later = word_in 12 (omega arith) ∙ g;
  }

-- ---- words of which the last are lent

rest-lent : (l : List ℕ) (a : ℕ) → mid_of a (length l - a) l ≡ drop a l
rest-lent l a = take_all (length l - a) (drop a l) (rw length-drop (omega arith))

rest_back : (l : List ℕ) (a : ℕ) (b : List ℕ) → put_mid a (length l - a) l b ≡ take a l ++ b
rest_back l a b =
    let h : length (drop a l) ≤ length l - a = rw length-drop (omega arith) in
    ap (λ (r : List ℕ). take a l ++ (b ++ r)) (drop_of_length-le (drop a l) h)
    ∙ ap (λ (r : List ℕ). take a l ++ r) (append-nil b)

module _ (t d : List ℕ) (n : ℕ) (d1 : List ℕ) (D : DerivedBy 1 t d (Some n) d1) where
  front : length (take n d1) ≡ n
  front = length-take-le n d1 (let x = D.size in let y = D.made.0 in omega arith)

  past : (i : ℕ) → n ≤ i → get_or (take n d1) i 0 ≡ 0
  past i h = get_or-eq_default (take n d1) 0 (let z = front in omega arith)

  -- an automaton has a head
  pub one-long : rows_at ≤ n
  one-long = subst (λ (x : ℕ). rows_at ≤ x) front D.made.1.ranged.head

  pub one-room : rows_at ≤ length d1
  one-room = let x = D.size in let y = D.made.0 in let z = one-long in omega arith

  module _ (d2 : List ℕ) (H : HeadedBoth t n d1 d2) where
    front2 : length (take n d2) ≡ n
    front2 = length-take-le n d2 (let x = D.size in let y = D.made.0 in let z = H.frame.size in omega arith)

    past2 : (i : ℕ) → n ≤ i → get_or (take n d2) i 0 ≡ 0
    past2 i h = get_or-eq_default (take n d2) 0 (let z = front2 in omega arith)

    word2 : (i : ℕ) → i < rows_at → get_or (take n d2) i 0 ≡ get_or d2 i 0
    word2 i h = let z = one-long in get_or-take n d2 i 0 (omega arith)

    front-frame : Frame 10 13 (take n d1) (take n d2)
    front-frame = record {
      size = front2 ∙ sym front;
      below = λ i h.
          let z = one-long in
          word2 i (omega arith) ∙ H.frame.below i h ∙ sym (get_or-take n d1 i 0 (omega arith));
      above = λ i h.
          ⊎_elim
          (λ g. get_or-take n d2 i 0 g ∙ H.frame.above i h ∙ sym (get_or-take n d1 i 0 g))
          (λ g. past2 i g ∙ sym (past i g))
          (ordered i n);
    }

    front-tests : Testable (take n d2)
    front-tests =
        testable-on t (take n d1) (take n d2) (λ i g h. front-frame.above i (omega arith))
        D.made.1.ranged.tests

    pub rest-inside : n ≤ length d2
    rest-inside = let x = D.size in let y = D.made.0 in let z = H.frame.size in omega arith

    -- the rest is lent for the second
    pub rest-size : (m : Option ℕ) (f : List ℕ) → DerivedBy 2 t (mid_of n (length d2 - n) d2) m f
        → length (put_mid n (length d2 - n) d2 f) ≡ length d
    rest-size m f E = same_len_mid n (length d2 - n) d2 f E.size ∙ H.frame.size ∙ D.size

    pub rest-fits : (m : ℕ) (f : List ℕ) → DerivedBy 2 t (mid_of n (length d2 - n) d2) (Some m) f → n + m ≤ length d
    rest-fits m f E =
        let x = E.made.0 in
        let y : length (mid_of n (length d2 - n) d2) ≡ length d2 - n = ap length (rest-lent d2 n) ∙ length-drop n d2 in
        let z = rest-inside in
        let e : length d2 ≡ length d = H.frame.size ∙ D.size in
        omega arith

    pub derived-both : (m : ℕ) (f : List ℕ) → DerivedBy 2 t (mid_of n (length d2 - n) d2) (Some m) f → Nested t
        → DerivedBoth t d (Some (n + m)) (put_mid n (length d2 - n) d2 f)
    derived-both m f E N = record {
      size = rest-size (Some m) f E;
      made = (rest-fits m f E, subst (Seeks t) (sym cut) both);
    }
      where
        cut : take (n + m) (put_mid n (length d2 - n) d2 f) ≡ take n d2 ++ take m f
        cut =
            ap (take (n + m)) (rest_back d2 n f)
            ∙ ap (λ (x : ℕ). take (x + m) (take n d2 ++ f)) (sym front2) ∙ take-append-add (take n d2) f m

        both : Seeks t (take n d2 ++ take m f)
        both =
            let z = one-long in
            seeks-both t (take n d2) (take m f) n front2 one-long (word2 10 (omega arith) ∙ H.size)
            (follows-one t
            (follows_on (take n d1) (take n d2) (frame-wider (omega arith) (omega arith) front-frame) front-tests D.made.1))
            (follows-pending t E.made.1)
            (hull-on (take n d2) (λ i g h. front-frame.below i (omega arith)) (front-frame.above 14 (omega arith))
            D.made.2)
            E.made.2 N
            (word2 11 (omega arith) ∙ H.empty_first) (word2 12 (omega arith) ∙ H.empty_later)
