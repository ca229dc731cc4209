-- What is still written from a state on is what is taken there, written, and then what is still written from the state
-- after it.
use mathlib.Core.Path.{◌≡◌, refl, sym, ap}
use mathlib.Core.Bool.{Bool, true, false, cond}
use mathlib.Core.List.{List, [], ◌∷◌}
use mathlib.Core.Option.{Option, some, none}
use Prim.Native.Nat.{ℕ, zero, suc, ◌+◌, ◌-◌, ◌≤◌, ◌<◌}
use native.Mathlib.Omega.{arith}
use native.Mathlib.Numerals.{one-add}
use lib.ListN.{length}
use lib.Dec.{eqb}
use borrow.Author.Tests.{ne_eqb}
use Rattle.lists.specs.Parsing.{parsed, bind, succeed}
use Rattle.image_format.specs.Codes.{Code, code_of}
use Rattle.image_format.specs.Image.{known}
use Rattle.image_format.specs.Reading.{Source}
use Rattle.opcodes.specs.Rows.{is_known, operands_in}
use Rattle.image_stages.specs.Stages.{at_edition, at_count, at_kind, at_length, at_byte, at_code, at_plain, at_end, state}
use Rattle.image_stages.specs.Stages.{start, with_units, edition_told, kind_told, code_told, advance, moved, after}
use Rattle.image_stages.specs.Stages.{taken_at, written_at}
use Rattle.image_stages.specs.declared.stages.State.{State}
use Rattle.std.specs.Prelude.{Option as Answer, Some, None}
use Rattle.image_stages.proofs.Transcript.{Rest, before, refused, a_number, a_byte, times, numbers, bytes, a_text}
use Rattle.image_stages.proofs.Transcript.{of_kind, of_code, a_constant, an_instruction, an_item, lists, transcript}
use Rattle.image_stages.proofs.Then.{bind-same}

-- one more is some, and one less than that is what it was
some_left : (n : ℕ) → eqb (suc n) 0 ≡ false
some_left n = ne_eqb (suc n) 0 (omega arith)

one_less : (n : ℕ) → suc n - 1 ≡ n
one_less n = omega arith

module _ (source : Source) (write : ℕ → List ℕ) where
  -- ---- what is still written from a state on

  -- n items of a list, and the lists after it
  abbrev items : ℕ → ℕ → ℕ → Rest
  items e b n = times source write (an_item source write e b) n (lists source write e b)

  -- the items and lists after the present item
  abbrev after_item : State → ℕ → Rest
  after_item s e = items e s.lists s.items

  -- the units, items and lists after the edition
  abbrev after_edition : State → ℕ → Rest
  after_edition s e = cond (known e) (numbers source write s.units (after_item s e)) refused

  unfoldable pub rest : State → Rest
  rest s =
      let e = s.edition in
      let k = after_item s e in
      cond (eqb s.stage at_edition) (a_number source write (after_edition s))
      (cond (eqb s.stage at_count) (a_number source write (items e s.lists))
      (cond (eqb s.stage at_kind) (a_constant source write k)
      (cond (eqb s.stage at_length) (a_text source write k)
      (cond (eqb s.stage at_byte) (bytes source write (suc s.units) k)
      (cond (eqb s.stage at_code) (an_instruction source write e k)
      (cond (eqb s.stage at_plain) (numbers source write (suc s.units) k)
      (succeed [])))))))

  -- from the state after something on, if there is one
  abbrev pub onward : Answer State → Rest
  onward (Some t) = rest t
  onward None = refused

  -- ---- to the next unit, item or list

  opening-rest : (e b n : ℕ) (x y : Bool) (l : List ℕ)
      → let k = items e b n in
      rest (state (cond x at_kind (cond y at_length at_code)) e b n 0) l
      ≡ cond x (a_constant source write k) (cond y (a_text source write k) (an_instruction source write e k)) l
  unfolding rest
  opening-rest e b n true y l = refl
  opening-rest e b n false true l = refl
  opening-rest e b n false false l = refl

  next-item : (stage e b n : ℕ) (l : List ℕ) → rest (advance (state stage e b n 0)) l ≡ items e b n l
  unfolding rest times lists
  next-item stage e zero zero l = refl
  next-item stage e (suc b) zero l = rw (some_left b, one_less b)
  next-item stage e b (suc n) l = rw (some_left n, one_less n) (opening-rest e b n (eqb b 4) (eqb b 3) l)

  -- units, by what their stage leads to
  next-unit : (stage : ℕ) (one : Rest → Rest) (e b i : ℕ)
      → ((n : ℕ) (l : List ℕ) → rest (state stage e b i n) l ≡ times source write one (suc n) (items e b i) l)
      → (n : ℕ) (l : List ℕ) → rest (advance (state stage e b i n)) l ≡ times source write one n (items e b i) l
  unfolding times
  next-unit stage one e b i h zero l = next-item stage e b i l
  next-unit stage one e b i h (suc n) l = rw (some_left n, one_less n) (h n l)

  next-byte : (e b i n : ℕ) (l : List ℕ)
      → rest (advance (state at_byte e b i n)) l ≡ bytes source write n (items e b i) l
  unfolding rest
  next-byte e b i = next-unit at_byte (a_byte source write) e b i (λ n l. refl)

  next-plain : (e b i n : ℕ) (l : List ℕ)
      → rest (advance (state at_plain e b i n)) l ≡ numbers source write n (items e b i) l
  unfolding rest
  next-plain e b i = next-unit at_plain (λ k. a_number source write (λ v. k)) e b i (λ n l. refl)

  -- ---- by what came

  edition-rest : (s : State) (v : ℕ) (l : List ℕ) → after_edition s v l ≡ onward (moved (edition_told s v)) l
  edition-rest s v l = by (known v)
    where
      t : State
      t = state at_plain v s.lists s.items s.units

      by : (x : Bool)
          → cond x (numbers source write s.units (after_item s v)) refused l
          ≡ onward (moved (cond x (Some t) None)) l
      by true = sym (next-plain v s.lists s.items s.units l)
      by false = refl

  kind-rest : (s : State) (v : ℕ) (l : List ℕ)
      → of_kind source write v (after_item s s.edition) l ≡ onward (moved (kind_told s v)) l
  unfolding rest times
  kind-rest s v l = by (eqb v 0) (eqb v 1)
    where
      k : Rest
      k = after_item s s.edition

      by : (x y : Bool)
          → cond x (a_number source write (λ n. k)) (cond y (a_text source write k) refused) l
          ≡ onward (moved (cond x (Some (with_units s at_plain 1)) (cond y (Some (with_units s at_length 1)) None))) l
      by true y = refl
      by false true = refl
      by false false = refl

  code-rest : (s : State) (v : ℕ) (l : List ℕ)
      → of_code source write (code_of s.edition v) (after_item s s.edition) l ≡ onward (moved (code_told s v)) l
  unfolding times
  code-rest s v l = by (code_of s.edition v)
    where
      by : (o : Option Code)
          → of_code source write o (after_item s s.edition) l
          ≡ onward (moved (cond (is_known o) (Some (with_units s at_plain (1 + operands_in o))) None)) l
      by none = refl
      by (some c) =
          let n = length c.immediates in
          rw (one-add n) (sym (next-plain s.edition s.lists s.items (suc n) l))

  -- ---- a step

  by_number : {f g : ℕ → Rest} → ((v : ℕ) (l : List ℕ) → f v l ≡ g v l) → (l : List ℕ)
      → a_number source write f l ≡ a_number source write g l
  by_number h l = bind-same (source.number l) (λ v l. ap (before (write v)) (h v l))

  by_byte : {f g : ℕ → Rest} → ((v : ℕ) (l : List ℕ) → f v l ≡ g v l) → (l : List ℕ)
      → bind (source.byte l) (λ v l. before (v ∷ []) (f v l)) ≡ bind (source.byte l) (λ v l. before (v ∷ []) (g v l))
  by_byte h l = bind-same (source.byte l) (λ v l. ap (before (v ∷ [])) (h v l))

  step-at : (stage e b i n : ℕ) → stage < at_end → (l : List ℕ)
      → let s = state stage e b i n in
      rest s l ≡ bind (taken_at source stage l) (λ v l. before (written_at write stage v) (onward (after s v) l))
  unfolding rest times
  step-at zero e b i n h = by_number (edition-rest (state at_edition e b i n))
  step-at (suc zero) e b i n h = by_number (λ v l. sym (next-item at_count e b v l))
  step-at (suc (suc zero)) e b i n h = by_number (kind-rest (state at_kind e b i n))
  step-at (suc (suc (suc zero))) e b i n h = by_number (λ v l. sym (next-byte e b i v l))
  step-at (suc (suc (suc (suc zero)))) e b i n h = by_byte (λ v l. sym (next-byte e b i n l))
  step-at (suc (suc (suc (suc (suc zero))))) e b i n h = by_number (code-rest (state at_code e b i n))
  step-at (suc (suc (suc (suc (suc (suc zero)))))) e b i n h = by_number (λ v l. sym (next-plain e b i n l))
  step-at (suc (suc (suc (suc (suc (suc (suc stage))))))) e b i n h = absurd (omega arith)

  pub rest-step : (s : State) → s.stage < at_end → (l : List ℕ)
      → rest s l
      ≡ bind (taken_at source s.stage l) (λ v l. before (written_at write s.stage v) (onward (after s v) l))
  rest-step s = step-at s.stage s.edition s.lists s.items s.units

  -- where nothing comes, the image is whole
  pub rest_end : (s : State) → at_end ≤ s.stage → (l : List ℕ) → rest s l ≡ parsed [] l
  unfolding rest
  rest_end s h l =
      let other : (n : ℕ) → n < at_end → eqb s.stage n ≡ false = λ n g. ne_eqb s.stage n (λ e. omega arith) in
      rw (other 0 (omega arith), other 1 (omega arith), other 2 (omega arith), other 3 (omega arith))
      (rw (other 4 (omega arith), other 5 (omega arith), other 6 (omega arith)))

  pub rest-start : (l : List ℕ) → rest start l ≡ transcript source write l
  unfolding rest times
  rest-start l = refl
