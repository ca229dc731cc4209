-- `put_caret`: the line as it is shown, and what is under it before the caret.
use native.Mathlib.Omega.{arith}
use mathlib.Core.Path.{ap}
use Prim.Native.Nat.{◌-◌}
use Rattle.front_places.specs.Shown.{shown, blanks}
use Rattle.buffer.specs.Parts.{part}
use Rattle.front_lines.specs.Messages.{caret_of}
use Rattle.front_lines.proofs.Putting.{follow, puts_of, span-few}
use Rattle.front_lines.proofs.lines.put_caret.Goals as goal

pub put_shown-end-requires : goal.put_shown-end-requires
put_shown-end-requires c =
    let a = c.args in
    let t = a.text.now in
    let p = a.place in
    let w = c.shown_around-w.result in
    omega (arith, c.requires, c.shown_around-w.ensures, c.put_text-line.ensures, c.put_shown-middle.ensures, span-few t (p - w.from) w.from, span-few t (w.to - p) p)

pub put_text-under-requires : goal.put_text-under-requires
put_text-under-requires c =
    let a = c.args in
    let t = a.text.now in
    let p = a.place in
    let w = c.shown_around-w.result in
    omega (arith, c.requires, c.shown_around-w.ensures, c.put_text-line.ensures, c.put_shown-middle.ensures, span-few t (p - w.from) w.from, span-few t (w.to - p) p, c.put_shown-end.ensures)

pub put_blanks-caret-requires : goal.put_blanks-caret-requires
put_blanks-caret-requires c =
    let a = c.args in
    let t = a.text.now in
    let p = a.place in
    let w = c.shown_around-w.result in
    omega (arith, c.requires, c.shown_around-w.ensures, c.put_text-line.ensures, c.put_shown-middle.ensures, span-few t (p - w.from) w.from, span-few t (w.to - p) p, c.put_shown-end.ensures, c.put_text-under.ensures)

pub put_text-requires : goal.put_text-requires
put_text-requires c =
    let a = c.args in
    let t = a.text.now in
    let p = a.place in
    let w = c.shown_around-w.result in
    omega (arith, c.requires, c.shown_around-w.ensures, c.put_text-line.ensures, c.put_shown-middle.ensures, span-few t (p - w.from) w.from, span-few t (w.to - p) p, c.put_shown-end.ensures, c.put_text-under.ensures, c.put_blanks-caret.ensures)

pub returns : goal.returns
unfolding caret_of part
returns c =
    follow c.put_text-line.ensures
    (follow (puts_of (ap shown c.shown_around-w.ensures.before) c.put_shown-middle.ensures.0)
    (follow (puts_of (ap shown c.shown_around-w.ensures.behind) c.put_shown-end.ensures.0)
    (follow c.put_text-under.ensures
    (follow (puts_of (ap blanks c.shown_around-w.ensures.before) c.put_blanks-caret.ensures.0) c.put_text.ensures))))
