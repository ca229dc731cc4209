use mathlib.Core.Path.{sym, ◌∙◌}
use Rattle.program_newlines.proofs.Passing.{pass-start, pass-done, pass-nearer, pass-more}
use Rattle.program_newlines.proofs.newlines.past.Goals as goal

pub loop-edition-init : goal.loop-edition-init
loop-edition-init c = pass-start _ _ _ _ c.requires.0 c.requires.1

pub is_passed-requires : goal.is_passed-requires
is_passed-requires c = c.loop-edition.invariant.known

pub loop-edition-smaller : goal.loop-edition-smaller
loop-edition-smaller c =
    pass-nearer _ _ c.args.semicolons _ _
    c.loop-edition.invariant _
    (sym c.is_passed.ensures ∙ c.loop-edition-test.true) c.token_after-u.ensures

pub loop-edition-preserved : goal.loop-edition-preserved
loop-edition-preserved c =
    pass-more _ _ c.args.semicolons _ _
    c.loop-edition.invariant _
    (sym c.is_passed.ensures ∙ c.loop-edition-test.true) c.token_after-u.ensures

pub returns : goal.returns
returns c =
    pass-done _ _ c.args.semicolons _ _ c.loop-edition.invariant
    (sym c.is_passed.ensures ∙ c.loop-edition-test.false)
