-- Internal: cited by private contracts only. Internal: cited by contracts between crates. Where the bytes that are
-- shown around a place stand in the text.
use Rattle.std.specs.Prelude.{◌≡◌, List, ℕ, ◌-◌, ◌≤◌, length}
use Rattle.buffer.specs.Parts.{part}
use Rattle.front_places.specs.Shown.{shown_before, shown_behind}
use Rattle.front_places.specs.declared.shown.Window.{Window}

pub record Shows (text : List ℕ) (place : ℕ) (w : Window) : Type 0 where
  pub start : w.from ≤ place
  pub stop : place ≤ w.to
  pub inside : w.to ≤ length text
  pub before : part w.from (place - w.from) text ≡ shown_before text place
  pub behind : part place (w.to - place) text ≡ shown_behind text place
