-- `match_text`: the numbers of the search's answer, stored.
use mathlib.Core.Path.{subst⁻¹, ap, ◌∙◌}
use lib.IntN.{ℤ}
use mir.Syntax.{w64}
use mir.ValLaws.{to_z-of_z}
use Rattle.edition.specs.Limits.{first_edition}
use Rattle.ere.specs.Answer.{matching}
use Rattle.capi_numbers.specs.Match.{Within}
use Rattle.capi_numbers.proofs.Within.{search-within}
use Rattle.capi_texts.proofs.matching.match_text.Goals as goal

pub match_numbers-n-requires : goal.match_numbers-n-requires
match_numbers-n-requires c = subst⁻¹ Within c.search.ensures (search-within first_edition _ _)

pub returns : goal.returns
returns c =
    let n = c.match_numbers-n.result in
    ap (λ (z : ℤ). matching n.outcome n.rstart z)
    (to_z-of_z w64 n.rlength (record { sfits = c.struct_told-1.given.1.1.0.1 }))
    ∙ (c.match_numbers-n.ensures
    ∙ c.search.ensures)
