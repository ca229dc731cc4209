-- `translate`: the image of a text, or the status of its outcome.
use mathlib.Core.Path.{◌≡◌, sym, ap, ◌∙◌}
use mathlib.Core.List.{List}
use Prim.Native.Nat.{ℕ}
use Rattle.edition.specs.Outcomes.{done}
use Rattle.translation.specs.Translation.{Translation}
use Rattle.program_writer.specs.Answer.{translation_of}
use Rattle.program_writer.specs.declared.writing.Translation.{Translation as Answer}
use Rattle.front_choices.specs.Statuses.{status_of}
use Rattle.front_runs.proofs.images.translate.Goals as goal

-- a translation that is done
image-of : (t : Answer) (room : List ℕ) (x : Translation) → translation_of t room ≡ x → t.outcome ≡ done
    → x ≡ record { outcome = done; place = t.place; room = room }
image-of t room x e z =
    sym e ∙ ap (λ (o : ℕ). translation_of (record { outcome = o; place = t.place }) room) z

pub returns-then-t-ne-DONE : goal.returns-then-t-ne-DONE
returns-then-t-ne-DONE c = c.status_of.ensures.0 ∙ ap (λ (x : Translation). status_of x.outcome) c.translate-t.ensures

pub returns : goal.returns
returns c = image-of c.translate-t.result _ _ c.translate-t.ensures c.if-t-ne-DONE.false
