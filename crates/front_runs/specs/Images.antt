-- Internal: cited by private contracts only. What is made of a filter.
use Rattle.std.specs.Prelude.{◌≡◌, List, ℕ, Result, MatchResult}
use Rattle.edition.specs.Outcomes.{done}
use Rattle.translation.specs.Translation.{Translation}
use Rattle.front_choices.specs.Statuses.{status_of}

-- what a translation comes to, with the image room afterwards: its image, or the status of its outcome
abbrev pub TranslatedTo : Translation → List ℕ → Result ℕ ℕ → Type 0
TranslatedTo t room r =
    MatchResult r (λ n. t ≡ record { outcome = done; place = n; room = room }) (λ s. s ≡ status_of t.outcome)
