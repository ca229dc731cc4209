-- What is written of an image while it is read is what `image_format` reads, written.
use mathlib.Core.Path.{◌≡◌, refl, sym, ap, ◌∙◌}
use mathlib.Core.Bool.{Bool, true, false, cond}
use mathlib.Core.List.{List, [], ◌∷◌, ◌++◌, append_assoc, append-nil}
use mathlib.Core.Option.{Option, some, none}
use Prim.Native.Nat.{ℕ, zero, suc}
use lib.ListN.{length}
use lib.Dec.{eqb}
use borrow.Author.Tests.{eqb-true}
use Rattle.lists.proofs.Many.{many-length}
use Rattle.lists.specs.Parsing.{Parsed, Parser, bind, succeed, many}
use Rattle.image_format.specs.Codes.{Code, code_of}
use Rattle.image_format.specs.Image.{number, text, Image, known}
use Rattle.image_format.specs.Reading.{Source, counted, constant_of, constant, instruction_of, instruction, parts, ended, read_image}
use Rattle.image_format.specs.Writing.{all, listed, bytes as bytes_in, constant_in, instruction_in, written}
use Rattle.image_format.proofs.Images.{all-bytes}
use Rattle.image_stages.proofs.Transcript.{Rest, before, refused, a_number, a_byte, times, a_text, of_kind, of_code, a_constant, an_instruction, an_item, lists, after_edition, transcript, unended, told, mapped, ended_with}
use Rattle.image_stages.proofs.Then.{before-nothing, before-before}

-- what p takes, as w writes it, and k after it
abbrev following : {A : Type 0} → Parser A → (A → List ℕ) → Rest → Rest
following p w k l = bind (p l) (λ a l. before (w a) (k l))

-- what `one` puts before anything is what p takes, as w writes it
record Tells {A : Type 0} (one : Rest → Rest) (p : Parser A) (w : A → List ℕ) : Type 0 where
  told-as : (k : Rest) (l : List ℕ) → one k l ≡ following p w k l

-- with y before it, it is what p takes, as x writes it
record Behind {A : Type 0} (y : List ℕ) (one : Rest → Rest) (p : Parser A) (x : A → List ℕ) : Type 0 where
  told-as : (k : Rest) (l : List ℕ) → before y (one k l) ≡ following p x k l

-- one thing, and then what it leads to
module _ {A B : Type 0} (p : Parser A) (w : A → List ℕ) {u : A → Rest → Rest} {f : A → Parser B} {x : B → List ℕ} where
  seq-behind : {y : List ℕ} → ((a : A) → Behind (y ++ w a) (u a) (f a) x) → Behind y (λ k l. bind (p l) (λ a l. before (w a) (u a k l))) (λ l. bind (p l) f) x
  seq-behind {y} t = record { told-as = λ k l. by k (p l) }
    where
      by : (k : Rest) (o : Option (Parsed A)) → before y (bind o (λ a l. before (w a) (u a k l))) ≡ bind (bind o f) (λ b l. before (x b) (k l))
      by k none = refl
      by k (some r) = before-before y (w r.value) (u r.value k r.rest) ∙ (t r.value).told-as k r.rest

  seq-tells : ((a : A) → Behind (w a) (u a) (f a) x) → Tells (λ k l. bind (p l) (λ a l. before (w a) (u a k l))) (λ l. bind (p l) f) x
  seq-tells t = record { told-as = λ k l. sym (before-nothing (bind (p l) (λ a l. before (w a) (u a k l)))) ∙ (seq-behind {y = []} t).told-as k l }

module _ {A : Type 0} {one : Rest → Rest} {p : Parser A} {w : A → List ℕ} (t : Tells one p w) where
  -- one thing, written with y before it
  tells-behind : {x : A → List ℕ} {y : List ℕ} → ((l : List ℕ) (g : Parsed A) → p l ≡ some g → y ++ w g.value ≡ x g.value) → Behind y one p x
  tells-behind {x} {y} e = record { told-as = λ k l. ap (before y) (t.told-as k l) ∙ by k l (p l) refl }
    where
      by : (k : Rest) (l : List ℕ) (o : Option (Parsed A)) → p l ≡ o → before y (bind o (λ a l. before (w a) (k l))) ≡ bind o (λ a l. before (x a) (k l))
      by k l none q = refl
      by k l (some g) q = before-before y (w g.value) (k g.rest) ∙ ap (λ (z : List ℕ). before z (k g.rest)) (e l g q)

  -- and what is made of it
  made-behind : {B : Type 0} {x : B → List ℕ} {y : List ℕ} (make : A → B) → ((a : A) → y ++ w a ≡ x (make a))
      → Behind y one (λ l. bind (p l) (λ a. succeed (make a))) x
  made-behind {B} {x} {y} make e = record { told-as = λ k l. (tells-behind {x = λ a. x (make a)} {y = y} (λ l g h. e g.value)).told-as k l ∙ by k (p l) }
    where
      by : (k : Rest) (o : Option (Parsed A)) → bind o (λ a l. before (x (make a)) (k l)) ≡ bind (bind o (λ a. succeed (make a))) (λ b l. before (x b) (k l))
      by k none = refl
      by k (some g) = refl

-- ---- up to the end

-- r is what p takes, as w writes it, and k after it
record Leads {A : Type 0} (r : Rest) (p : Parser A) (w : A → List ℕ) (k : Rest) : Type 0 where
  told-as : (l : List ℕ) → r l ≡ following p w k l

-- with y before it, r is what p takes, as x writes it
record Ends {A : Type 0} (y : List ℕ) (r : Rest) (p : Parser A) (x : A → List ℕ) : Type 0 where
  told-as : (l : List ℕ) → before y (r l) ≡ told x (p l)

seq-ends : {A B : Type 0} {p : Parser A} {w : A → List ℕ} {r k : Rest} {f : A → Parser B} {x : B → List ℕ} {y : List ℕ}
    → Leads r p w k → ((a : A) → Ends (y ++ w a) k (f a) x) → Ends y r (λ l. bind (p l) f) x
seq-ends {A} {B} {p} {w} {r} {k} {f} {x} {y} t h = record { told-as = λ l. ap (before y) (t.told-as l) ∙ by (p l) }
  where
    by : (o : Option (Parsed A)) → before y (bind o (λ a l. before (w a) (k l))) ≡ told x (bind o f)
    by none = refl
    by (some g) = before-before y (w g.value) (k g.rest) ∙ (h g.value).told-as g.rest

-- ---- the parts of an image

module _ (source : Source) (write : ℕ → List ℕ) where
  number-tells : Tells (λ k. a_number source write (λ v. k)) source.number write
  number-tells = record { told-as = λ k l. refl }

  -- ---- lists

  module _ {A : Type 0} {one : Rest → Rest} {p : Parser A} {w : A → List ℕ} (t : Tells one p w) where
    times-tells : (n : ℕ) → Tells (times source write one n) (many p n) (all w)
    unfolding times many all
    times-tells zero = record { told-as = λ k l. sym (before-nothing (k l)) }
    times-tells (suc n) =
        let r = seq-tells p w (λ a. made-behind (times-tells n) (λ rest. a ∷ rest) (λ rest. refl)) in
        record { told-as = λ k l. t.told-as (times source write one n k) l ∙ r.told-as k l }

    counted-tells : Tells (λ k. a_number source write (λ n. times source write one n k)) (counted source p) (listed write w)
    counted-tells = seq-tells source.number write
        (λ n. tells-behind (times-tells n) (λ l g h. ap (λ (m : ℕ). write m ++ all w g.value) (sym (many-length p n l g.value g.rest h))))

  text-tells : Tells (a_text source write) (counted source source.byte) (bytes_in write)
  text-tells = seq-tells source.number write (λ n.
      tells-behind (times-tells {one = a_byte source write} {p = source.byte} {w = λ b. b ∷ []} (record { told-as = λ k l. refl }) n)
      (λ l g h. rw (all-bytes g.value, many-length source.byte n l g.value g.rest h)))

  -- ---- constants and instructions

  kind-behind : (kind : ℕ) → Behind (write kind) (of_kind source write kind) (constant_of source kind) (constant_in write)
  kind-behind kind = record { told-as = λ k l. by k l (eqb kind 0) refl (eqb kind 1) refl }
    where
      by : (k : Rest) (l : List ℕ) (x : Bool) → eqb kind 0 ≡ x → (y : Bool) → eqb kind 1 ≡ y
          → before (write kind) (cond x (a_number source write (λ n. k)) (cond y (a_text source write k) refused) l)
          ≡ bind (cond x (bind (source.number l) (λ n. succeed (number n)))
          (cond y (bind (counted source source.byte l) (λ bs. succeed (text bs))) none))
          (λ c l. before (constant_in write c) (k l))
      by k l true e y f = (made-behind number-tells {x = constant_in write} {y = write kind} number (λ n. rw (eqb-true kind 0 e))).told-as k l
      by k l false e true f = (made-behind text-tells {x = constant_in write} {y = write kind} text (λ bs. rw (eqb-true kind 1 f))).told-as k l
      by k l false e false f = refl

  constant-tells : Tells (a_constant source write) (constant source) (constant_in write)
  constant-tells = seq-tells source.number write kind-behind

  code-behind : (c : ℕ) (o : Option Code) → Behind (write c) (of_code source write o) (instruction_of source c o) (instruction_in write)
  code-behind c none = record { told-as = λ k l. refl }
  code-behind c (some row) =
      seq-behind source.number write (λ depth.
      made-behind (times-tells number-tells (length row.immediates)) (λ named. record { code = c; depth = depth; immediates = named })
      (λ named. append_assoc (write c) (write depth) (all write named)))

  module _ (edition : ℕ) where
    instruction-tells : Tells (an_instruction source write edition) (instruction source edition) (instruction_in write)
    instruction-tells = seq-tells source.number write (λ c. code-behind c (code_of edition c))

    list-leads : {A : Type 0} {p : Parser A} {w : A → List ℕ} (b : ℕ) → Tells (an_item source write edition b) p w
        → Leads (lists source write edition (suc b)) (counted source p) (listed write w) (lists source write edition b)
    unfolding lists
    list-leads b t = record { told-as = (counted-tells t).told-as (lists source write edition b) }

    -- ---- the whole

    parts-end : Ends (write edition) (a_number source write (λ users. lists source write edition 5)) (parts source edition) (written write)
    unfolding written lists
    parts-end =
        seq-ends {p = source.number} {w = write} {k = lists source write edition 5} (record { told-as = λ l. refl }) (λ users.
        seq-ends (list-leads 4 constant-tells) (λ constants.
        seq-ends (list-leads 3 text-tells) (λ eres.
        seq-ends (list-leads 2 instruction-tells) (λ begins.
        seq-ends (list-leads 1 instruction-tells) (λ records.
        seq-ends (list-leads 0 instruction-tells) (λ ends.
        record { told-as = λ l. simp (append_assoc, append-nil) }))))))

  -- what is written while an image is read is what is read, written
  pub transcript-is : (l : List ℕ) → transcript source write l ≡ told (written write) (unended source l)
  transcript-is l = by (source.number l)
    where
      on : (edition : ℕ) (x : Bool) (l : List ℕ)
          → before (write edition) (cond x (a_number source write (λ users. lists source write edition 5)) refused l)
          ≡ told (written write) (cond x (parts source edition l) none)
      on edition true l = (parts-end edition).told-as l
      on edition false l = refl

      by : (o : Option (Parsed ℕ)) → bind o (λ n l. before (write n) (after_edition source write n l))
          ≡ told (written write) (bind o (λ edition l. cond (known edition) (parts source edition l) none))
      by none = refl
      by (some g) = on g.value (known g.value) g.rest

  -- it is whole exactly if an image is read, and then is what is written of that
  pub whole-transcript : (l : List ℕ) → ended_with (transcript source write l) ≡ mapped (written write) (read_image source l)
  unfolding read_image
  whole-transcript l = ap ended_with (transcript-is l) ∙ by (unended source l)
    where
      on : (i : Image) (x : Bool) → cond x (some (written write i)) none ≡ mapped (written write) (cond x (some i) none)
      on i true = refl
      on i false = refl

      by : (o : Option (Parsed Image)) → ended_with (told (written write) o) ≡ mapped (written write) (ended source o)
      by none = refl
      by (some g) = on g.value (eqb (length g.rest) 0)
