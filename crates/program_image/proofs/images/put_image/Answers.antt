-- `put_image`: one part after the other.
use mathlib.Core.Path.{sym, ap}
use mathlib.Core.Bool.{true, false}
use Prim.Native.Nat.{ℕ, ◌-◌}
use native.Mathlib.Omega.{arith}
use Rattle.lists.proofs.Tests.{clash}
use Rattle.image_format.specs.Numbers.{coded}
use Rattle.semantics.specs.Variables.{special_count}
use Rattle.varint.proofs.Puts.{coded-short}
use Rattle.program_image.proofs.Remaining.{writes-by, writes-both, writes-same}
use Rattle.program_image.proofs.Judged.{counts-within}
use Rattle.program_image.proofs.Assembled.{entries-after, section-after, writes-image}
use Rattle.program_image.proofs.images.put_image.Goals as goal

pub put_number-u-requires : goal.put_number-u-requires
unfolding special_count
put_number-u-requires c =
    let a = c.args in
    let p = c.requires in
    let first = a.edition.number in
    let n = counts-within first a.counts.variables a.counts.constants a.counts.eres p.3 in
    let e = c.put_number-e.ensures in
    (omega (arith, n.0), omega (arith, e.0, coded-short first))

pub put_entries-c-requires : goal.put_entries-c-requires
put_entries-c-requires c =
    let a = c.args in
    let p = c.requires in
    let first = a.edition.number in
    let n = counts-within first a.counts.variables a.counts.constants a.counts.eres p.3 in
    let e = c.put_number-e.ensures in
    let u = c.put_number-u.ensures in
    let users = a.counts.variables - c.specials.result in
    (p.4.room, p.4.inside, p.0, n.1, omega (arith, e.0, coded-short first, u.0, coded-short users), λ _. p.5)

pub put_entries-r-requires : goal.put_entries-r-requires
put_entries-r-requires c =
    let a = c.args in
    let p = c.requires in
    let first = a.edition.number in
    let n = counts-within first a.counts.variables a.counts.constants a.counts.eres p.3 in
    let e = c.put_number-e.ensures in
    let u = c.put_number-u.ensures in
    let users = a.counts.variables - c.specials.result in
    let w = c.put_entries-c.ensures in
    let ended = entries-after a.s.now true a.constants.now a.counts.constants p.0 w in (
      p.6.room,
      p.6.inside,
      p.0,
      omega (arith, n.2),
      omega (arith, e.0, coded-short first, u.0, coded-short users, n.1, ended),
      λ constant. absurd (clash (sym constant)),
    )

pub put_section-b-requires : goal.put_section-b-requires
put_section-b-requires c =
    let a = c.args in
    let p = c.requires in
    let first = a.edition.number in
    let n = counts-within first a.counts.variables a.counts.constants a.counts.eres p.3 in
    let e = c.put_number-e.ensures in
    let u = c.put_number-u.ensures in
    let users = a.counts.variables - c.specials.result in
    let w = c.put_entries-c.ensures in
    let ended = entries-after a.s.now true a.constants.now a.counts.constants p.0 w in
    let x = c.put_entries-r.ensures in
    let passed = entries-after a.s.now false a.eres.now a.counts.eres p.0 x in
    (p.7.room, p.7.few, omega (arith, e.0, coded-short first, u.0, coded-short users, n.1, ended, n.2, passed))

pub put_section-m-requires : goal.put_section-m-requires
put_section-m-requires c =
    let a = c.args in
    let p = c.requires in
    let first = a.edition.number in
    let n = counts-within first a.counts.variables a.counts.constants a.counts.eres p.3 in
    let e = c.put_number-e.ensures in
    let u = c.put_number-u.ensures in
    let users = a.counts.variables - c.specials.result in
    let w = c.put_entries-c.ensures in
    let ended = entries-after a.s.now true a.constants.now a.counts.constants p.0 w in
    let x = c.put_entries-r.ensures in
    let passed = entries-after a.s.now false a.eres.now a.counts.eres p.0 x in
    let b = section-after a.begin.now a.sections.begin c.put_section-b.ensures in (
      p.8.room,
      p.8.few,
      omega (arith, e.0, coded-short first, u.0, coded-short users, n.1, ended, n.2, passed, p.7.few, b),
    )

pub put_section-requires : goal.put_section-requires
put_section-requires c =
    let a = c.args in
    let p = c.requires in
    let first = a.edition.number in
    let n = counts-within first a.counts.variables a.counts.constants a.counts.eres p.3 in
    let e = c.put_number-e.ensures in
    let u = c.put_number-u.ensures in
    let users = a.counts.variables - c.specials.result in
    let w = c.put_entries-c.ensures in
    let ended = entries-after a.s.now true a.constants.now a.counts.constants p.0 w in
    let x = c.put_entries-r.ensures in
    let passed = entries-after a.s.now false a.eres.now a.counts.eres p.0 x in
    let s = c.put_section-b.ensures in
    let b = section-after a.begin.now a.sections.begin s in
    let m = section-after a.main.now a.sections.main c.put_section-m.ensures in (
      p.9.room,
      p.9.few,
      omega (
        arith,
        e.0,
        coded-short first,
        u.0,
        coded-short users,
        n.1,
        ended,
        n.2,
        passed,
        p.7.few,
        b,
        p.8.few,
        m,
      ),
    )

pub returns : goal.returns
returns c =
    let a = c.args in
    let p = c.requires in
    let number = writes-by c.put_number-e.ensures in
    let count = c.specials.ensures in
    let same = ap (λ (n : ℕ). coded (a.counts.variables - n)) count in
    let second = c.put_number-u.ensures in
    let users = writes-same same (writes-by second) in
    let constants = c.put_entries-c.ensures in
    let eres = c.put_entries-r.ensures in
    let begin = c.put_section-b.ensures in
    let main = c.put_section-m.ensures in
    let end = c.put_section.ensures in
    writes-image a.edition.number (a.counts.variables - special_count a.edition.number) a.s.now
    a.constants.now a.counts.constants a.eres.now a.counts.eres a.begin.now a.sections.begin
    a.main.now a.sections.main a.end.now a.sections.end p.7.room p.8.room p.9.room
    (writes-both _ _ number (writes-both _ _ users (writes-both _ _ constants (writes-both _ _ eres
    (writes-both _ _ begin (writes-both _ _ main end))))))
