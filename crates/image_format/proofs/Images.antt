-- An image is taken back from what is written of it and from nothing else, whatever the source.
use mathlib.Core.Path.{◌≡◌, refl, sym, ap, subst, ◌∙◌}
use mathlib.Core.Bool.{Bool, true, false, true≢false, cond}
use mathlib.Core.List.{List, [], ◌∷◌, ◌++◌, append-nil}
use mathlib.Core.Option.{Option, some, none}
use Prim.Native.Nat.{ℕ, zero, suc}
use native.Mathlib.Omega.{arith}
use lib.ListN.{length}
use borrow.Author.Tests.{eqb-true, ne_eqb}
use Rattle.lists.proofs.Options.{some_one, none-some}
use Rattle.lists.specs.Elements.{Every}
use Rattle.lists.specs.Parsing.{Parsed, parsed, Parser, bind, succeed, many}
use Rattle.image_format.specs.Codes.{Code, code_of}
use Rattle.image_format.specs.Image.{Constant, number, text, Instruction, Image, known}
use Rattle.image_format.specs.Formed.{Small, Listed, Text, FormedConstant, FormedInstruction, Formed}
use Rattle.image_format.specs.Reading.{Source, counted, constant_of, constant, instruction_of, instruction, parts, ended, read_image}
use Rattle.image_format.specs.Writing.{all, listed, bytes, constant_in, instruction_in, written}
use Rattle.image_format.proofs.Takes.{Takes, same, nothing-takes, bind-takes, made-takes, many-takes}
use Rattle.image_format.proofs.Sources.{Agrees}

-- a list of bytes, each as it is
pub all-bytes : (l : List ℕ) → all (λ b. b ∷ []) l ≡ l
unfolding all
all-bytes [] = refl
all-bytes (b ∷ l) = rw (all-bytes l)

-- ---- a constant's kind, and what is after it

abbrev kind_of : Constant → ℕ
kind_of (number n) = 0
kind_of (text l) = 1

kind-small : (c : Constant) → Small (kind_of c)
kind-small (number n) = omega arith
kind-small (text l) = omega arith

abbrev number_of : Constant → ℕ
number_of (number n) = n
number_of (text l) = 0

abbrev text_of : Constant → List ℕ
text_of (number n) = []
text_of (text l) = l

is-number : (c : Constant) → kind_of c ≡ 0 → number (number_of c) ≡ c
is-number (number n) e = refl
is-number (text l) e = absurd (omega arith)

is-text : (c : Constant) → kind_of c ≡ 1 → text (text_of c) ≡ c
is-text (number n) e = absurd (omega arith)
is-text (text l) e = refl

two-kinds : (c : Constant) (k : ℕ) → kind_of c ≡ suc (suc k) → ⊥
two-kinds (number n) k e = omega arith
two-kinds (text l) k e = omega arith

module _ {source : Source} {write : ℕ → List ℕ} (agrees : Agrees source write) where
  counted-takes : {A : Type 0} {one : Parser A} {P : A → Type 0} {w : A → List ℕ} → Takes one P w → Takes (counted source one) (Listed P) (listed write w)
  counted-takes t =
      same (bind-takes length (λ l. Unit {0}) agrees.numbers (λ n h. same (many-takes t n) (λ l k. ((k.0, tt), k.1)) (λ l k. (k.0.0, k.1)) (λ l k. refl)))
      (λ l k. k.1) (λ l k. (tt, k)) (λ l k. refl)

  text-takes : Takes (counted source source.byte) Text (bytes write)
  text-takes = same (counted-takes agrees.bytes) (λ l h. h) (λ l h. h) (λ l h. ap (λ (t : List ℕ). write (length l) ++ t) (all-bytes l))

  -- ---- constants

  abbrev behind_kind : Constant → List ℕ
  behind_kind (number n) = write n
  behind_kind (text l) = bytes write l

  abbrev OfKind : ℕ → Constant → Type 0
  OfKind kind c = ((kind_of c ≡ kind) × (Unit {0})) × (FormedConstant c)

  -- the constants of a kind are what is made of something
  kind-takes : {A : Type 0} {p : Parser A} (kind : ℕ) (make : A → Constant) (first : Constant → A)
      → Takes p (λ a. FormedConstant (make a)) (λ a. behind_kind (make a))
      → ((a : A) → (first (make a) ≡ a) × (kind_of (make a) ≡ kind)) → ((c : Constant) → kind_of c ≡ kind → make (first c) ≡ c)
      → Takes (λ l. bind (p l) (λ a. succeed (make a))) (OfKind kind) behind_kind
  kind-takes kind make first t made is =
      same (made-takes first (λ c. kind_of c ≡ kind) make t (λ a h. made a) is)
      (λ c h. ((h.0, tt), subst FormedConstant (is c h.0) h.1))
      (λ c h. (h.0.0, subst FormedConstant (sym (is c h.0.0)) h.1)) (λ c h. ap behind_kind (is c h.0.0))

  -- "an unknown .. kind" is refused
  no_kind : (k : ℕ) (l : List ℕ) → constant_of source (suc (suc k)) l ≡ none
  no_kind k l = search (ne_eqb (suc (suc k)) 0 (omega arith), ne_eqb (suc (suc k)) 1 (omega arith))

  constant_of-takes : (kind : ℕ) → Takes (constant_of source kind) (OfKind kind) behind_kind
  constant_of-takes zero = kind-takes 0 number number_of agrees.numbers (λ n. (refl, refl)) is-number
  constant_of-takes (suc zero) = kind-takes 1 text text_of text-takes (λ l. (refl, refl)) is-text
  constant_of-takes (suc (suc k)) = nothing-takes (no_kind k) (λ c h. two-kinds c k h.0.0)

  constant-takes : Takes (constant source) FormedConstant (constant_in write)
  constant-takes = same (bind-takes kind_of (λ c. Unit {0}) agrees.numbers (λ kind h. constant_of-takes kind)) (λ c k. k.1.1)
      (λ c k. (tt, (kind-small c, k))) (λ c k. form c)
    where
      form : (c : Constant) → write (kind_of c) ++ behind_kind c ≡ constant_in write c
      form (number n) = refl
      form (text l) = refl

  -- ---- instructions

  module _ (edition : ℕ) where
    -- what is asked of an instruction after its code
    abbrev Behind : Instruction → Type 0
    Behind i = (row : Code) × (code_of edition i.code ≡ some row) × (Small i.depth) × (length i.immediates ≡ length row.immediates) × (Every Small i.immediates)

    abbrev behind_code : Instruction → List ℕ
    behind_code i = write i.depth ++ all write i.immediates

    instruction_of-takes : (c : ℕ) (o : Option Code) → code_of edition c ≡ o
        → Takes (instruction_of source c o) (λ i. ((i.code ≡ c) × (Unit {0})) × (Behind i)) behind_code
    instruction_of-takes c none e = nothing-takes (λ l. refl) (λ i h. none-some (sym e ∙ (rw h.0.0 at h.1.1)))
    instruction_of-takes c (some k) e =
        same (bind-takes (λ i. i.depth) (λ i. i.code ≡ c) agrees.numbers (λ d h.
        made-takes (λ i. i.immediates) (λ i. (i.depth ≡ d) × (i.code ≡ c)) (λ named. record { code = c; depth = d; immediates = named })
        (many-takes agrees.numbers (length k.immediates)) (λ named h. (refl, (refl, refl))) (λ i h. rw (← h.0, ← h.1))))
        (λ i h. ((h.0, tt), (k, rw h.0 e, h.1.0, h.1.1.0, h.1.1.1)))
        (λ i h. (h.0.0, (h.1.2, (rw (some_one e (rw h.0.0 at h.1.1)) h.1.3, h.1.4)))) (λ i h. refl)

    instruction-takes : Takes (instruction source edition) (FormedInstruction edition) (instruction_in write)
    instruction-takes = same (bind-takes (λ i. i.code) (λ i. Unit {0}) agrees.numbers (λ c h. instruction_of-takes c (code_of edition c) refl))
        (λ i h. record { row = h.1.1.0; has = h.1.1.1; code = h.1.0; depth = h.1.1.2; many = h.1.1.3; immediates = h.1.1.4 })
        (λ i h. (tt, (h.code, (h.row, h.has, h.depth, h.many, h.immediates)))) (λ i h. refl)

  -- ---- what is after the edition

  abbrev behind_edition : Image → List ℕ
  behind_edition i =
      write i.users
      ++ (listed write (constant_in write) i.constants
      ++ (listed write (bytes write) i.eres
      ++ (listed write (instruction_in write) i.begin
      ++ (listed write (instruction_in write) i.main
      ++ listed write (instruction_in write) i.end))))

  instructions-take : (edition : ℕ) → Takes (counted source (instruction source edition)) (Listed (FormedInstruction edition)) (listed write (instruction_in write))
  instructions-take edition = counted-takes (instruction-takes edition)

  parts-take : (edition : ℕ) → Takes (parts source edition)
      (λ i. (i.edition ≡ edition)
      × ((Small i.users)
      × ((Listed FormedConstant i.constants)
      × ((Listed Text i.eres)
      × ((Listed (FormedInstruction edition) i.begin)
      × ((Listed (FormedInstruction edition) i.main)
      × (Listed (FormedInstruction edition) i.end))))))) behind_edition
  parts-take edition =
      bind-takes (λ i. i.users) _ agrees.numbers (λ users _.
      bind-takes (λ i. i.constants) _ (counted-takes constant-takes) (λ constants _.
      bind-takes (λ i. i.eres) _ (counted-takes text-takes) (λ eres _.
      bind-takes (λ i. i.begin) _ (instructions-take edition) (λ begin _.
      bind-takes (λ i. i.main) _ (instructions-take edition) (λ main _.
      made-takes (λ i. i.end) _
      (λ end. record { edition = edition; users = users; constants = constants; eres = eres; begin = begin; main = main; end = end })
      (instructions-take edition) (λ end _. (refl, (refl, (refl, (refl, (refl, (refl, refl)))))))
      (λ i h. rw (← h.0, ← h.1.0, ← h.1.1.0, ← h.1.1.1.0, ← h.1.1.1.1.0, ← h.1.1.1.1.1)))))))

  -- ---- the whole

  edition-takes : (edition : ℕ) (x : Bool) → known edition ≡ x
      → Takes (λ l. cond x (parts source edition l) none) (λ i. ((i.edition ≡ edition) × (Unit {0})) × (Formed i)) behind_edition
  edition-takes edition true e =
      same (parts-take edition)
      (λ i h. (
        (h.0, tt),
        record {
          edition = rw h.0 e;
          users = h.1.0;
          constants = h.1.1.0;
          eres = h.1.1.1.0;
          begin = rw h.0 h.1.1.1.1.0;
          main = rw h.0 h.1.1.1.1.1.0;
          end = rw h.0 h.1.1.1.1.1.1;
        },
      ))
      (λ i h.
      let e = h.0.0 in
      let f = h.1 in
      (e, (f.users, (f.constants, (f.eres, (rw e at f.begin, (rw e at f.main, rw e at f.end)))))))
      (λ i h. refl)
  edition-takes edition false e = nothing-takes (λ l. refl) (λ i h. true≢false (sym h.1.edition ∙ (rw h.0.0 e)))

  image-takes : Takes (λ l. bind (source.number l) (λ edition l. cond (known edition) (parts source edition l) none)) Formed (written write)
  unfolding written
  image-takes =
      same (bind-takes (λ i. i.edition) (λ i. Unit {0}) agrees.numbers (λ edition h. edition-takes edition (known edition) refl))
      (λ i h. h.1.1) (λ i h. (tt, (omega (arith, eqb-true i.edition 1 h.edition), h))) (λ i h. refl)

  -- what is written of an image is read as that image
  pub read-written : {i : Image} → Formed i → read_image source (written write i) ≡ some i
  unfolding read_image
  read-written {i} f = rw (rw append-nil at (image-takes.back i f []))

  -- "Nothing follows."
  nothing-follows : (i : Image) (b : ℕ) (l : List ℕ) → ended source (parsed i (b ∷ l)) ≡ none
  nothing-follows i b l = search (ne_eqb (suc (length l)) 0 (omega arith))

  -- what is read is what is written of an image that has bytes
  pub read_only : (l : List ℕ) {i : Image} → read_image source l ≡ some i → (Formed i) × (l ≡ written write i)
  unfolding read_image
  read_only l {i} h = by (bind (source.number l) (λ edition l. cond (known edition) (parts source edition l) none)) refl h
    where
      on : (j : Image) (left : List ℕ) → (Formed j) × (l ≡ written write j ++ left) → ended source (parsed j left) ≡ some i → (Formed i) × (l ≡ written write i)
      on j [] r h = rw (← (some_one refl h)) (r.0, rw append-nil at r.1)
      on j (b ∷ t) r h = absurd (none-some (sym (nothing-follows j b t) ∙ h))

      by : (o : Option (Parsed Image)) → bind (source.number l) (λ edition l. cond (known edition) (parts source edition l) none) ≡ o → ended source o ≡ some i
          → (Formed i) × (l ≡ written write i)
      by none e h = absurd (none-some h)
      by (some g) e h = on g.value g.rest (image-takes.only l g e) h
