use mathlib.Core.Path.{sym, ◌∙◌}
use Rattle.program_simple.proofs.Printing.{print-ready, print-listed, print-bare}
use Rattle.program_simple.proofs.simple.print.Goals as goal

pub starts_expression-requires : goal.starts_expression-requires
starts_expression-requires c =
    let a = c.args in
    (print-ready a.edition.number a.s.now a.levels a.t a.n a.section.now c.requires.0
    c.requires.2 _ c.operand_after-u.ensures).known

pub print_list-requires : goal.print_list-requires
print_list-requires c =
    let a = c.args in (
      print-ready a.edition.number a.s.now a.levels a.t a.n a.section.now c.requires.0
          c.requires.2 _ c.operand_after-u.ensures,
      c.requires.1,
    )

pub returns-then-starts_expression : goal.returns-then-starts_expression
returns-then-starts_expression c =
    let a = c.args in
    print-listed a.edition.number a.s.now a.levels a.t a.n a.section.now c.requires.0
    c.requires.2 _ c.operand_after-u.ensures _ _
    (sym c.starts_expression.ensures ∙ c.if-starts_expression.true) c.print_list.ensures

pub returns : goal.returns
returns c =
    let a = c.args in
    print-bare a.edition.number a.s.now a.levels a.t a.n a.section.now c.requires.0
    c.requires.2 _ c.operand_after-u.ensures _ _ _
    (sym c.starts_expression.ensures ∙ c.if-starts_expression.false)
    c.emit_print.ensures.0 c.emit_print.ensures.1 c.ok.ensures
