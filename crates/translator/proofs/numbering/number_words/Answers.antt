-- `number_words`: one table after the other.
use mathlib.Core.Path.{◌∙◌}
use mathlib.Core.Bool.{true, false}
use mathlib.Core.List.{[]}
use native.Mathlib.Omega.{arith}
use Rattle.program_entries.specs.Variables.{variables_of}
use Rattle.translator.proofs.Whole.{none-held, variables-hold}
use Rattle.translator.proofs.numbering.number_words.Goals as goal

pub enter_variables-v-requires : goal.enter_variables-v-requires
enter_variables-v-requires c =
    let p = c.requires in
    (p.0, omega (arith, p.5), p.1)

pub number-c-requires : goal.number-c-requires
number-c-requires c =
    let a = c.args in
    let p = c.requires in
    (p.0, p.2, p.3, p.4, omega (arith, p.6), ([], none-held a.s.now true a.constants.now), p.1)

pub number-e-requires : goal.number-e-requires
number-e-requires c =
    let a = c.args in
    let p = c.requires in
    let k = c.number-c.auto in (
      p.0,
      omega (arith, p.2, k.begin),
      omega (arith, p.3, k.main),
      omega (arith, p.4, k.end),
      omega (arith, p.7),
      ([], none-held a.s.now false a.eres.now),
      p.1,
    )

pub number-requires : goal.number-requires
number-requires c =
    let a = c.args in
    let p = c.requires in
    let v = c.enter_variables-v in
    let k = c.number-c.auto in
    let l = c.number-e.auto in (
      p.0,
      omega (arith, p.2, k.begin, l.begin),
      omega (arith, p.3, k.main, l.main),
      omega (arith, p.4, k.end, l.end),
      omega (arith, p.5, v.auto.table),
      (
        variables_of a.edition.number a.s.now,
        variables-hold a.s.now v.new.table v.result (variables_of a.edition.number a.s.now) v.ensures,
      ),
      p.1,
    )

pub returns : goal.returns
returns c =
    let a = c.args in
    let p = c.requires in
    let v = c.enter_variables-v in
    let x = c.number-c in
    let y = c.number-e in
    let z = c.number in
    record {
      begin1 = _;
      main1 = _;
      end1 = _;
      constants0 = a.constants.now;
      first = x.ensures [] (none-held a.s.now true a.constants.now);
      constants0_room = p.6;
      constants_room = x.auto.table ∙ p.6;
      begin2 = _;
      main2 = _;
      end2 = _;
      eres0 = a.eres.now;
      second = y.ensures [] (none-held a.s.now false a.eres.now);
      eres0_room = p.7;
      eres_room = y.auto.table ∙ p.7;
      variables = v.new.table;
      held = v.ensures;
      variables_room = v.auto.table ∙ p.5;
      variables' = z.new.table;
      after = z.result;
      third = z.ensures;
      variables'_room = z.auto.table ∙ (v.auto.table ∙ p.5);
    }
