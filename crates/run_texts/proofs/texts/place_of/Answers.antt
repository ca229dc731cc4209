-- `place_of` meets its contract: the first place of one part of the room in another.
use mathlib.Core.Path.{ap, ◌∙◌}
use Prim.Native.Nat.{◌+◌, ◌*◌}
use native.Mathlib.Omega.{arith}
use Rattle.lists.specs.Answers.{option_of}
use Rattle.run_room.specs.Layout.{head_size, slot_bytes}
use Rattle.run_values.proofs.Wording.{found_in, place_none, place-some, place-nowhere, place-most}
use Rattle.run_texts.proofs.texts.place_of.Goals as goal

pub returns-then-m-eq0 : goal.returns-then-m-eq0
returns-then-m-eq0 c =
    let a = c.args in
    (omega arith, place_none _ _ a.m c.if-m-eq0.true)

pub overflow_add-result : goal.overflow_add-result
overflow_add-result c =
    let find = c.find-found in
    let a = c.args in
    let w = a.work.now in
    let f = found_in w a.a a.n a.m find.result find.ensures ∙ ap option_of c.in-Some.is in
    record { fits = omega (arith, place-most w (a.a * slot_bytes + head_size) a.n _ _ (omega arith) f) }

pub returns-in-Some : goal.returns-in-Some
returns-in-Some c =
    let find = c.find-found in
    let if1 = c.if-m-eq0 in
    let a = c.args in
    let w = a.work.now in
    let told = c.in-Some.is in
    let f = found_in w a.a a.n a.m find.result find.ensures ∙ ap option_of told in (
      omega (arith, place-most w (a.a * slot_bytes + head_size) a.n _ _ (omega arith) f),
      place-some _ _ a.m _ if1.false f,
    )

pub returns-in-None : goal.returns-in-None
returns-in-None c =
    let find = c.find-found in
    let if1 = c.if-m-eq0 in
    let a = c.args in
    let w = a.work.now in
    let f = found_in w a.a a.n a.m find.result find.ensures ∙ ap option_of c.in-None.is in
    (omega arith, place-nowhere _ _ a.m if1.false f)
