-- An image that passes the check is small: each instruction has at most six bytes, and all of it fewer than 65,536.
-- Nothing else is asked of the image: even a number over 2^53, which no image has that was read, has at most eight
-- bytes by `coded`.
use mathlib.Core.Path.{◌≡◌, refl, subst}
use mathlib.Core.Bool.{Bool, true, false, cond}
use mathlib.Core.List.{List, [], ◌∷◌, ◌++◌}
use mathlib.Core.Option.{some}
use Prim.Native.Nat.{ℕ, zero, suc, ◌+◌, ◌*◌, ◌/◌, ◌%◌, ◌≤◌, ◌<◌}
use native.Mathlib.Omega.{arith}
use lib.ListN.{length, length-append}
use lib.Dec.{ltb}
use borrow.Author.Tests.{lt-ltb}
use Rattle.lists.proofs.Options.{some_one, none-some}
use Rattle.lists.proofs.Elements.{every-at}
use Rattle.lists.specs.Elements.{nth, Every, empty, cons}
use Rattle.edition.specs.Limits.{instruction_count, operand_depth, ere_bytes}
use Rattle.ere_grammar.proofs.Reading.{read-sound}
use Rattle.image_format.proofs.Codes.{codes_all, codes-few, code_row, code_below}
use Rattle.image_format.specs.Codes.{ImmediateKind, a-constant, a_variable, an_assignable_variable, an_ere, an-instruction, a_positive_count, Code, codes}
use Rattle.image_format.specs.Image.{Constant, number, text, Instruction, Image, image_bound}
use Rattle.image_format.specs.Numbers.{groups, coded}
use Rattle.image_format.specs.Writing.{all, listed, bytes, constant_in, instruction_in, written, bytes_of}
use Rattle.semantics.specs.Moves.{Section, begin, main, end, section_of}
use Rattle.semantics.proofs.Specials.{specials-all, specials-few}
use Rattle.semantics.specs.Checked.{Exists, AllExist, Short, Checked}

-- ---- bytes of a number

groups-most : (k n : ℕ) → length (groups k n) ≤ k
groups-most zero n = omega arith
groups-most (suc k) n = by (ltb n 128) (groups-most k (n / 128))
  where
    by : (x : Bool) → length (groups k (n / 128)) ≤ k → length (cond x (n ∷ []) ((128 + n % 128) ∷ groups k (n / 128))) ≤ suc k
    by true r = omega arith
    by false r = omega (arith, r)

-- whatever the number
pub coded-most : (n : ℕ) → length (coded n) ≤ 8
unfolding coded
coded-most n = groups-most 8 n

groups-one : (k n : ℕ) → n < 128 → length (groups (suc k) n) ≡ 1
groups-one k n h = rw (lt-ltb n 128 h)

pub coded-one-byte : (n : ℕ) → n < 128 → length (coded n) ≡ 1
unfolding coded
coded-one-byte n h = groups-one 7 n h

pub coded-two-bytes : (n : ℕ) → n < 16384 → length (coded n) ≤ 2
unfolding coded
coded-two-bytes n h = by (ltb n 128) (groups-one 6 (n / 128) (omega arith))
  where
    by : (x : Bool) → length (groups 7 (n / 128)) ≡ 1 → length (cond x (n ∷ []) ((128 + n % 128) ∷ groups 7 (n / 128))) ≤ 2
    by true r = omega arith
    by false r = omega (arith, r)

-- ---- lists

-- as many times as there are elements, what an element has at most
all_most : {A : Type 0} (one : A → List ℕ) (most : ℕ) (l : List A) → ((n : ℕ) (a : A) → nth l n ≡ some a → length (one a) ≤ most)
    → length (all one l) ≤ length l * most
unfolding all nth
all_most one most [] h = omega arith
all_most one most (a ∷ l) h =
    omega (arith, length-append (one a) (all one l), h 0 a refl, all_most one most l (λ n b e. h (suc n) b e))

-- ---- the table of codes

-- a code takes as many operands as a count that is its first number
abbrev CountFirst : ImmediateKind → (List ℕ → ℕ) → Type 0
CountFirst a-constant takes = Unit
CountFirst a_variable takes = Unit
CountFirst an_assignable_variable takes = Unit
CountFirst an_ere takes = Unit
CountFirst an-instruction takes = Unit
CountFirst a_positive_count takes = (n : ℕ) (ns : List ℕ) → takes (n ∷ ns) ≡ n

-- and its second number is no count
abbrev NoCount : ImmediateKind → Type 0
NoCount a-constant = Unit
NoCount a_variable = Unit
NoCount an_assignable_variable = Unit
NoCount an_ere = Unit
NoCount an-instruction = Unit
NoCount a_positive_count = ⊥

-- A code names at most two numbers.
abbrev CountTaken : List ImmediateKind → (List ℕ → ℕ) → Type 0
CountTaken [] takes = Unit
CountTaken (k ∷ []) takes = CountFirst k takes
CountTaken (k ∷ m ∷ []) takes = (CountFirst k takes) × (NoCount m)
CountTaken (k ∷ m ∷ j ∷ l) takes = ⊥

codes-count : Every (λ (k : Code). CountTaken k.immediates k.pops) codes
unfolding codes
codes-count = search (cons, empty, tt) depth 80 fits 2000

-- ---- one instruction

-- what an instruction's numbers are at most
pub record SmallInstruction (j : Instruction) : Type 0 where
  pub code : j.code < 128
  pub depth : j.depth ≤ operand_depth
  pub few : length j.immediates ≤ 2
  pub numbers : Every (λ n. n < instruction_count) j.immediates

module _ (i : Image) (ok : Checked i) where
  thing-few : (s : Section) (k : ImmediateKind) (n : ℕ) → NoCount k → Exists i s k n → n < instruction_count
  thing-few s a-constant n c e = omega (arith, ok.constants)
  thing-few s a_variable n c e = omega (arith, ok.users, specials-all i.edition, specials-few)
  thing-few s an_assignable_variable n c e = omega (arith, e.0, ok.users, specials-all i.edition, specials-few)
  thing-few s an_ere n c e = omega (arith, ok.eres)
  thing-few s an-instruction n c e = omega (arith, ok.few s)
  thing-few s a_positive_count n c e = absurd c

  first-few : (s : Section) (k : ImmediateKind) (takes : List ℕ → ℕ) (n : ℕ) (ns : List ℕ) → CountFirst k takes → Exists i s k n
      → takes (n ∷ ns) ≤ operand_depth → n < instruction_count
  first-few s a-constant takes n ns c e t = thing-few s a-constant n tt e
  first-few s a_variable takes n ns c e t = thing-few s a_variable n tt e
  first-few s an_assignable_variable takes n ns c e t = thing-few s an_assignable_variable n tt e
  first-few s an_ere takes n ns c e t = thing-few s an_ere n tt e
  first-few s an-instruction takes n ns c e t = thing-few s an-instruction n tt e
  first-few s a_positive_count takes n ns c e t = omega (arith, c n ns)

  numbers-few : (s : Section) (names : List ImmediateKind) (takes : List ℕ → ℕ) (ns : List ℕ) → CountTaken names takes → AllExist i s names ns
      → takes ns ≤ operand_depth → (length ns ≤ 2) × (Every (λ n. n < instruction_count) ns)
  numbers-few s [] takes [] c e t = (omega arith, empty)
  numbers-few s [] takes (n ∷ ns) c e t = absurd e
  numbers-few s (k ∷ []) takes [] c e t = absurd e
  numbers-few s (k ∷ []) takes (n ∷ []) c e t = (omega arith, cons (first-few s k takes n [] c e.0 t) empty)
  numbers-few s (k ∷ []) takes (n ∷ m ∷ ns) c e t = absurd e.1
  numbers-few s (k ∷ m ∷ []) takes [] c e t = absurd e
  numbers-few s (k ∷ m ∷ []) takes (n ∷ []) c e t = absurd e.1
  numbers-few s (k ∷ m ∷ []) takes (n ∷ o ∷ []) c e t =
      (omega arith, cons (first-few s k takes n (o ∷ []) c.0 e.0 t) (cons (thing-few s m o c.1 e.1.0) empty))
  numbers-few s (k ∷ m ∷ []) takes (n ∷ o ∷ p ∷ ns) c e t = absurd e.1.1
  numbers-few s (k ∷ m ∷ j ∷ l) takes ns c e t = absurd c

  pub instruction-small : (s : Section) (n : ℕ) (j : Instruction) → nth (section_of i s) n ≡ some j → SmallInstruction j
  instruction-small s n j h =
      let a = ok.each_one s n j h in
      let k = a.row in
      let x = numbers-few s k.immediates k.pops j.immediates (every-at codes-count j.code k (code_row i.edition j.code a.code)) a.exist (omega (arith, a.enough, a.deep)) in
      record {
        code = omega (arith, code_below i.edition j.code a.code, codes_all i.edition, codes-few);
        depth = a.deep;
        few = x.0;
        numbers = x.1;
      }

  -- an instruction has at most six bytes
  numbers-bytes : (ns : List ℕ) → Every (λ n. n < instruction_count) ns → length (all coded ns) ≤ 2 * length ns
  unfolding all
  numbers-bytes [] e = omega arith
  numbers-bytes (n ∷ ns) (cons e r) =
      omega (arith, length-append (coded n) (all coded ns), coded-two-bytes n (omega arith), numbers-bytes ns r)

  pub instruction-bytes : (s : Section) (n : ℕ) (j : Instruction) → nth (section_of i s) n ≡ some j → length (instruction_in coded j) ≤ 6
  instruction-bytes s n j h =
      let a = instruction-small s n j h in
      omega (
        arith,
        length-append (coded j.code) (coded j.depth ++ all coded j.immediates),
        length-append (coded j.depth) (all coded j.immediates),
        coded-one-byte j.code a.code,
        coded-one-byte j.depth (omega (arith, a.depth)),
        numbers-bytes j.immediates a.numbers,
        a.few,
      )

  -- ---- the lists

  listed-most : {A : Type 0} (one : A → List ℕ) (most : ℕ) (l : List A) → length l < 16384 → ((n : ℕ) (a : A) → nth l n ≡ some a → length (one a) ≤ most)
      → length (listed coded one l) ≤ 2 + length l * most
  listed-most one most l h f = omega (arith, length-append (coded (length l)) (all one l), coded-two-bytes (length l) h, all_most one most l f)

  section-bytes : (s : Section) → length (listed coded (instruction_in coded) (section_of i s)) ≤ 6146
  section-bytes s = omega (arith, ok.few s, listed-most (instruction_in coded) 6 (section_of i s) (omega (arith, ok.few s)) (instruction-bytes s))

  text-bytes : (l : List ℕ) → length l ≤ 512 → length (bytes coded l) ≤ 514
  text-bytes l h = omega (arith, length-append (coded (length l)) l, coded-two-bytes (length l) (omega arith))

  constant-bytes : (a : Constant) → Short a → length (constant_in coded a) ≤ 515
  constant-bytes (number n) h = omega (arith, length-append (coded 0) (coded n), coded-one-byte 0 (omega arith), coded-most n)
  constant-bytes (text l) h = omega (arith, length-append (coded 1) (bytes coded l), coded-one-byte 1 (omega arith), text-bytes l h)

  constants-bytes : length (listed coded (constant_in coded) i.constants) ≤ 32962
  constants-bytes =
      omega (arith, ok.constants, listed-most (constant_in coded) 515 i.constants (omega (arith, ok.constants)) (λ n a h. constant-bytes a (ok.texts n a h)))

  pub ere-short : (n : ℕ) (l : List ℕ) → nth i.eres n ≡ some l → length l ≤ ere_bytes
  ere-short n l h = let r = ok.reads n l h in (read-sound i.edition l r.1).short

  eres-bytes : length (listed coded (bytes coded) i.eres) ≤ 8226
  eres-bytes = omega (arith, ok.eres, listed-most (bytes coded) 514 i.eres (omega (arith, ok.eres)) (λ n l h. text-bytes l (ere-short n l h)))

  pub image-bytes : length (bytes_of i) < image_bound
  unfolding written
  image-bytes =
      let e = listed coded (instruction_in coded) i.end in
      let r = listed coded (instruction_in coded) i.main ++ e in
      let b = listed coded (instruction_in coded) i.begin ++ r in
      let x = listed coded (bytes coded) i.eres ++ b in
      let k = listed coded (constant_in coded) i.constants ++ x in
      omega (
        arith,
        length-append (coded i.edition) (coded i.users ++ k),
        length-append (coded i.users) k,
        length-append (listed coded (constant_in coded) i.constants) x,
        length-append (listed coded (bytes coded) i.eres) b,
        length-append (listed coded (instruction_in coded) i.begin) r,
        length-append (listed coded (instruction_in coded) i.main) e,
        coded-most i.edition,
        coded-most i.users,
        constants-bytes,
        eres-bytes,
        section-bytes begin,
        section-bytes main,
        section-bytes end,
      )
