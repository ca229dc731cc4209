-- A pass over an image, whatever it reads from and however it writes: with what is still to come, what it has written
-- comes to the same at each turn.
use mathlib.Core.Path.{◌≡◌, refl, sym, ap, ap₂, ◌∙◌}
use mathlib.Core.Bool.{Bool, true, false, cond}
use mathlib.Core.List.{List, [], ◌++◌}
use mathlib.Core.Option.{Option, some, none}
use Prim.Native.Nat.{ℕ, suc, ◌+◌, ◌*◌, ◌≤◌, ◌<◌}
use native.Mathlib.Omega.{arith}
use native.Mathlib.Nat.{zero-add, add-zero, mul-suc, mul-le-mul}
use lib.ListN.{length, drop, length-append, length-drop, drop_of_length-le}
use lib.Dec.{eqb}
use borrow.Author.Tests.{ne_eqb}
use Rattle.lists.specs.Parsing.{Parsed, parsed, bind}
use Rattle.image_format.specs.Image.{Image}
use Rattle.image_format.specs.Reading.{Source, read_image}
use Rattle.image_format.specs.Writing.{written}
use Rattle.varint.specs.Room.{with_all}
use Rattle.std.specs.Prelude.{Option as Answer, Some, None}
use Rattle.varint.proofs.Words.{all_append}
use Rattle.image_stages.specs.Stages.{at_end, start, after, taken_at, written_at}
use Rattle.image_stages.specs.declared.stages.State.{State}
use Rattle.image_stages.proofs.Transcript.{before, transcript, ended_with, mapped}
use Rattle.image_stages.proofs.Steps.{rest, onward, rest-step, rest_end, rest-start}
use Rattle.image_stages.proofs.Tellings.{whole-transcript}
use Rattle.image.specs.Pass.{TakesStage, Filled, passed_of, pass_of}

-- what a room has from index k on, if nothing is left of the source
abbrev ended : List ℕ → ℕ → List ℕ → Bool → Option Filled
ended room k w nothing_left = cond nothing_left (some (record { count = k + length w; room = with_all room k w })) none

-- k elements are written, and now what is still to be written
unfoldable pub finished : List ℕ → ℕ → Option (Parsed (List ℕ)) → Option Filled
finished room k none = none
finished room k (some g) = ended room k g.value (eqb (length g.rest) 0)

-- what is written now, and the rest after it
finished-before : (room : List ℕ) (k : ℕ) (ws : List ℕ) (o : Option (Parsed (List ℕ)))
    → finished room k (before ws o) ≡ finished (with_all room k ws) (k + length ws) o
unfolding finished
finished-before room k ws none = refl
finished-before room k ws (some g) =
    let w = g.value in
    let x = eqb (length g.rest) 0 in
    let n : k + length (ws ++ w) ≡ k + length ws + length w = omega (arith, length-append ws w) in
    ap₂ (λ (c : ℕ) (r : List ℕ). cond x (some (record { count = c; room = r })) none) n (all_append room k ws w)

-- what a pass is to answer
abbrev answer : Source → (ℕ → List ℕ) → List ℕ → List ℕ → Option Filled
answer source write l room₀ = pass_of (written write) room₀ (read_image source l)

answer-start : (source : Source) (write : ℕ → List ℕ) (l room₀ : List ℕ)
    → finished room₀ 0 (transcript source write l) ≡ answer source write l room₀
unfolding finished pass_of
answer-start source write l room₀ =
    by (transcript source write l) ∙ ap onto (whole-transcript source write l) ∙ image (read_image source l)
  where
    onto : Option (List ℕ) → Option Filled
    onto none = none
    onto (some w) = some (record { count = length w; room = with_all room₀ 0 w })

    by : (o : Option (Parsed (List ℕ))) → finished room₀ 0 o ≡ onto (ended_with o)
    by none = refl
    by (some g) = ends (eqb (length g.rest) 0)
      where
        ends : (x : Bool) → ended room₀ 0 g.value x ≡ onto (cond x (some g.value) none)
        ends true = rw zero-add
        ends false = refl

    image : (o : Option Image) → onto (mapped (written write) o) ≡ pass_of (written write) room₀ o
    image none = refl
    image (some i) = refl

module _ (source : Source) (write : ℕ → List ℕ) (l room₀ : List ℕ) (most : ℕ) where
  -- a pass so far: at a place of the list, with k elements written, at most so many for each one read
  pub record Going (room : List ℕ) (s : State) (at k : ℕ) : Type 0 where
    pub within : at ≤ length l
    pub few : k ≤ most * at
    pub same : finished room k (rest source write s (drop at l)) ≡ answer source write l room₀

  -- where something comes, v is taken, and the next place is n
  pub record Took (room : List ℕ) (s : State) (at k v n : ℕ) : Type 0 where
    pub going : Going room s at k
    pub opens : s.stage < at_end
    pub takes : TakesStage source l s.stage at (Some (v, n))

  pub pass-starts : (s : State) → s ≡ start → Going room₀ s 0 0
  pass-starts s e =
      record {
        within = omega arith;
        few = omega arith;
        same = rw e (ap (finished room₀ 0) (rest-start source write l) ∙ answer-start source write l room₀);
      }

-- what is still written, by what is taken
abbrev step : Source → (ℕ → List ℕ) → State → Option (Parsed ℕ) → Option (Parsed (List ℕ))
step source write s o = bind o (λ v l. before (written_at write s.stage v) (onward source write (after s v) l))

module _ {source : Source} {write : ℕ → List ℕ} {l room₀ room : List ℕ} {most : ℕ} {s : State} {at k : ℕ} where
  comes-step : Going source write l room₀ most room s at k → s.stage < at_end → (o : Option (Parsed ℕ))
      → taken_at source s.stage (drop at l) ≡ o
      → answer source write l room₀ ≡ finished room k (step source write s o)
  comes-step g opens o e =
      sym g.same
      ∙ ap (finished room k) (rest-step source write s opens (drop at l) ∙ ap (step source write s) e)

  module _ (g : Going source write l room₀ most room s at k) where
    -- nothing comes where something should
    pub pass-cut : s.stage < at_end → taken_at source s.stage (drop at l) ≡ none
        → passed_of None room ≡ answer source write l room₀
    unfolding finished passed_of
    pass-cut opens t = sym (comes-step g opens none t)

    -- nothing is to come
    module _ (ends : at_end ≤ s.stage) where
      comes-end : finished room k (parsed [] (drop at l)) ≡ answer source write l room₀
      comes-end = ap (finished room k) (sym (rest_end source write s ends (drop at l))) ∙ g.same

      -- "Nothing follows."
      pub pass-followed : at < length l → passed_of None room ≡ answer source write l room₀
      unfolding finished passed_of
      pass-followed h =
          let n = length-drop at l in
          let e : eqb (length (drop at l)) 0 ≡ false = ne_eqb (length (drop at l)) 0 (λ z. omega arith) in
          rw e at comes-end

      pub pass-whole : length l ≤ at → passed_of (Some k) room ≡ answer source write l room₀
      unfolding finished passed_of with_all
      pass-whole h = rw (drop_of_length-le l {i = at} h, add-zero) at comes-end

  module _ {v n : ℕ} (t : Took source write l room₀ most room s at k v n) where
    abbrev ws : List ℕ
    ws = written_at write s.stage v

    -- what a pass comes to by what is after it
    abbrev onto : Answer State → Option Filled
    onto a = finished (with_all room k ws) (k + length ws) (onward source write a (drop n l))

    comes-on : (a : Answer State) → after s v ≡ a → onto a ≡ answer source write l room₀
    comes-on a e =
        sym
        (comes-step t.going t.opens (parsed v (drop n l)) t.takes.0
        ∙ finished-before room k ws (onward source write (after s v) (drop n l))
        ∙ ap onto e)

    -- an unknown edition, kind or code
    pub pass-unknown : (room' : List ℕ) → after s v ≡ None → passed_of None room' ≡ answer source write l room₀
    unfolding finished passed_of
    pass-unknown room' e = comes-on None e

    -- a turn
    pub pass-goes : (next : State) (room' : List ℕ) (k' : ℕ) → after s v ≡ Some next → length ws ≤ most
        → k' ≡ k + length ws → room' ≡ with_all room k ws → Going source write l room₀ most room' next n k'
    pass-goes next room' k' e b c r =
        record { within = t.takes.2; few = bound; same = rw (c, r) (comes-on (Some next) e) }
      where
        bound : k' ≤ most * n
        bound =
            let x : most * suc at ≤ most * n = mul-le-mul {n₁ = most} {n₂ = most} (omega arith) t.takes.1 in
            let y : most * suc at ≡ most * at + most = mul-suc most at in
            omega (arith, c, t.going.few)
