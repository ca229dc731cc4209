-- An instruction judged by its numbers is the instruction checked: row by row of the table of codes.
use mathlib.Core.Path.{◌≡◌, refl, sym, ap, fun_ext, ◌∙◌}
use mathlib.Core.Bool.{Bool, true, false, ◌&&◌}
use mathlib.Core.List.{List, [], ◌∷◌}
use mathlib.Core.Option.{Option, some, none}
use Prim.Native.Nat.{ℕ, zero, suc, ◌+◌, ◌/◌, ◌%◌, ◌<◌, ◌≤◌}
use native.Mathlib.Numerals.{add-one}
use native.Mathlib.Omega.{arith}
use lib.ListN.{length, take, drop, get_or}
use lib.Dec.{eqb, ltb}
use borrow.Author.Tests.{ltb-true, ltb-false}
use Rattle.lists.proofs.Options.{some_one, none-some}
use Rattle.lists.proofs.Elements.{nth-none}
use Rattle.lists.specs.Elements.{nth, all_from}
use Rattle.image_format.specs.Codes.{Code, codes, code_of}
use Rattle.image_format.proofs.Codes.{code_row}
use Rattle.image_format.specs.Image.{Instruction, Image}
use Rattle.opcodes.specs.Rows.{row_number, operands_in}
use Rattle.semantics.specs.Moves.{Section, section_of, in_main}
use Rattle.semantics.specs.Check.{depth_is, holds_for, by_code, instruction_checks}
use Rattle.semantics.proofs.Tables.{nth-some}
use Rattle.image_items.specs.Stands.{instruction_of}
use Rattle.image_index.specs.Lists.{Indexes}
use Rattle.image_index.specs.declared.indexes.Kind.TheVariants.{Instructions}
use Rattle.image_instructions.specs.Judge.{judged_row, judged_by, has_depth, judged_at, ContextOf, Judges}
use Rattle.image_instructions.specs.declared.context.Context.{Context}

-- each element with its number, the first of which is n
abbrev AllFrom : {A : Type 0} → (ℕ → A → Type 0) → ℕ → List A → Type 0
AllFrom P n [] = Unit
AllFrom P n (a ∷ l) = (P n a) × (AllFrom P (suc n) l)

from-of : {A : Type 0} (P : ℕ → A → Type 0) (m : ℕ) (l : List A) → AllFrom P m l → (n k : ℕ) (a : A) → nth l n ≡ some a → k ≡ m + n → P k a
unfolding nth
from-of P m [] x n k a h e = absurd (none-some h)
from-of P m (b ∷ l) x zero k a h e =
    let here : k ≡ m = omega arith in
    rw (← (some_one refl h), here) x.0
from-of P m (b ∷ l) x (suc n) k a h e = from-of P (suc m) l x.1 n k a h (omega arith)

-- the next element is taken off
walk-one : {A : Type 0} (f : ℕ → A → Bool) (m : ℕ) (l : List A) (n : ℕ) (a : A) → nth l n ≡ some a
    → all_from f m (drop n l) ≡ (f m a && all_from f (suc m) (drop (suc n) l))
unfolding nth
walk-one f m [] n a h = absurd (none-some h)
walk-one f m (b ∷ l) zero a h = rw (← (some_one refl h))
walk-one f m (b ∷ l) (suc n) a h = walk-one f m l n a h

walk-out : {A : Type 0} (f : ℕ → A → Bool) (m : ℕ) (l : List A) (n : ℕ) → length l ≤ n → all_from f m (drop n l) ≡ true
walk-out f m [] zero h = refl
walk-out f m [] (suc n) h = refl
walk-out f m (a ∷ l) zero h = absurd (omega arith)
walk-out f m (a ∷ l) (suc n) h = walk-out f m l n (omega arith)

-- ---- one instruction

module _ (i : Image) (s : Section) where
  abbrev has_in : ℕ → ℕ → Bool
  has_in m d = depth_is d (nth (section_of i s) m)

  abbrev context_in : Context
  context_in = record {
    edition = i.edition;
    users = i.users;
    constants = length i.constants;
    eres = length i.eres;
    main = in_main s;
  }

  module _ (n : ℕ) where
    Agree : ℕ → Code → Type 0
    Agree c k =
        (d v w : ℕ)
        → holds_for i s n (record { code = c; depth = d; immediates = take (length k.immediates) (v ∷ w ∷ []) }) k
        ≡ judged_row context_in (length (section_of i s)) has_in (row_number k) n c d v w

    all-agree : AllFrom Agree 0 codes
    unfolding Agree holds_for codes
    all-agree = ((λ d v w. refl), ((λ d v w. refl), ((λ d v w. refl), ((λ d v w. refl), ((λ d v w. refl), ((λ d v w. refl), ((λ d v w. refl), ((λ d v w. refl), ((λ d v w. refl), ((λ d v w. refl), ((λ d v w. refl), ((λ d v w. refl), ((λ d v w. refl), ((λ d v w. refl), ((λ d v w. refl), ((λ d v w. refl), ((λ d v w. refl), ((λ d v w. refl), ((λ d v w. refl), ((λ d v w. refl), ((λ d v w. refl), ((λ d v w. refl), ((λ d v w. refl), ((λ d v w. refl), ((λ d v w. refl), ((λ d v w. refl), ((λ d v w. refl), ((λ d v w. refl), ((λ d v w. refl), ((λ d v w. refl), ((λ d v w. refl), ((λ d v w. refl), tt))))))))))))))))))))))))))))))))

    by-numbers : (c d v w : ℕ)
        → instruction_checks i s n (instruction_of i.edition c d v w) ≡ judged_by context_in (length (section_of i s)) has_in n c d v w
    unfolding Agree
    by-numbers c d v w = by (code_of i.edition c) refl
      where
        by : (o : Option Code) → code_of i.edition c ≡ o
            → by_code i s n (record { code = c; depth = d; immediates = take (operands_in o) (v ∷ w ∷ []) }) o
            ≡ judged_by context_in (length (section_of i s)) has_in n c d v w
        by none e = rw e
        by (some k) e = rw e (from-of Agree 0 codes all-agree c c k (code_row i.edition c e) (omega arith) d v w)

  module _ (l index : List ℕ) (indexed : Indexes i.edition Instructions l (section_of i s) index) (room : length (section_of i s) ≤ length index) where
    has-is : (m d : ℕ) → has_depth index (length (section_of i s)) m d ≡ has_in m d
    has-is m d = by (ltb m (length (section_of i s))) refl
      where
        by : (x : Bool) → ltb m (length (section_of i s)) ≡ x → (x && eqb (get_or index m 0 / 64 % 64) d) ≡ depth_is d (nth (section_of i s) m)
        by true e =
            let below = ltb-true m (length (section_of i s)) e in
            let r = nth-some (section_of i s) m below in
            rw r.1 (ap (λ (j : Instruction). eqb j.depth d) (indexed m r.0 r.1 (omega arith)))
        by false e = rw (nth-none (section_of i s) m (ltb-false m (length (section_of i s)) e))

    -- an instruction judged from the index
    judged-one : (r : Context) → ContextOf r i s → (n : ℕ) (j : Instruction) → n < length (section_of i s) → nth (section_of i s) n ≡ some j
        → judged_at r index (length (section_of i s)) n ≡ instruction_checks i s n j
    unfolding judged_at
    judged-one r x n j k h =
        let context : r ≡ context_in = rw (← x.edition, ← x.users, ← x.constants, ← x.eres, ← x.nexts) in
        let has : has_depth index (length (section_of i s)) ≡ has_in = fun_ext (λ m. fun_ext (λ d. has-is m d)) in
        let w = get_or index n 0 in
        let judged : Context → (ℕ → ℕ → Bool) → Bool = λ r has. judged_by r (length (section_of i s)) has n (w % 64) (w / 64 % 64) (w / 4096 % 1024) (w / 4194304) in
        ap (λ (r : Context). judged r (has_depth index (length (section_of i s)))) context
        ∙ ap (λ (has : ℕ → ℕ → Bool). judged context_in has) has
        ∙ sym (by-numbers n (w % 64) (w / 64 % 64) (w / 4096 % 1024) (w / 4194304))
        ∙ ap (instruction_checks i s n) (indexed n j h (omega arith))

-- ---- the section

module _ (r : Context) (index : List ℕ) (count : ℕ) where
  -- what the first n instructions leave to be checked
  abbrev pub Reached : ℕ → Type 0
  Reached n =
      (i : Image) (s : Section) (l : List ℕ) → ContextOf r i s → Indexes i.edition Instructions l (section_of i s) index → count ≡ length (section_of i s)
      → all_from (instruction_checks i s) 0 (section_of i s) ≡ all_from (instruction_checks i s) n (drop n (section_of i s))

  pub reached-start : Reached 0
  reached-start i s l x y e = refl

  pub reached-end : (n : ℕ) → Reached n → count ≤ n → Judges r index count true
  reached-end n h k i s l x y e = sym (h i s l x y e ∙ walk-out (instruction_checks i s) n (section_of i s) n (omega arith))

  module _ (n : ℕ) (h : Reached n) (below : n < count) (room : count ≤ length index) where
    turn : (x : Bool) → x ≡ judged_at r index count n → (i : Image) (s : Section) (l : List ℕ) → ContextOf r i s
        → Indexes i.edition Instructions l (section_of i s) index → count ≡ length (section_of i s)
        → all_from (instruction_checks i s) 0 (section_of i s) ≡ (x && all_from (instruction_checks i s) (suc n) (drop (suc n) (section_of i s)))
    turn x q i s l y z e =
        let f = instruction_checks i s in
        let xs = section_of i s in
        let j = nth-some xs n (omega arith) in
        let one : x ≡ f n j.0 = q ∙ ap (λ (c : ℕ). judged_at r index c n) e ∙ judged-one i s l index z (omega arith) r y n j.0 (omega arith) j.1 in
        h i s l y z e ∙ walk-one f n xs n j.0 j.1 ∙ ap (λ (b : Bool). b && all_from f (suc n) (drop (suc n) xs)) (sym one)

    pub reached-more : true ≡ judged_at r index count n → Reached (n + 1)
    reached-more q i s l y z e = rw add-one (turn true q i s l y z e)

    pub reached-fail : false ≡ judged_at r index count n → Judges r index count false
    reached-fail q i s l y z e = sym (turn false q i s l y z e)
