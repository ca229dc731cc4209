-- What a slot has of a table: an automaton, or both, or nothing where there is no room.
use mathlib.Core.List.{List}
use Prim.Native.Nat.{ℕ, ◌≤◌, ◌<◌}
use native.Mathlib.Omega.{arith}
use Rattle.std.specs.Prelude.{Option, Some, None}
use Rattle.std.specs.Option.{unwrap_or}
use Rattle.edition.specs.Limits.{ere_count}
use Rattle.ere_derive.specs.Derived.{Derived, DerivedBoth}
use Rattle.run_automata.specs.Automata.{Made}

module _ (k : ℕ) (t d d' : List ℕ) where
  pub made-one : k < ere_count → (r : Option ℕ) → Derived t d r d' → Made k t d (unwrap_or r 0) d'
  made-one h None D = record { size = D.size; inside = omega arith; suits = λ long. absurd (omega arith) }
  made-one h (Some n) D = record {
    size = D.size;
    inside = D.made.0;
    suits = λ long. record { drives = λ g. D.made.1; seeks = λ far. absurd (omega arith) };
  }

  pub made-both : ere_count ≤ k → (r : Option ℕ) → DerivedBoth t d r d' → Made k t d (unwrap_or r 0) d'
  made-both h None D = record { size = D.size; inside = omega arith; suits = λ long. absurd (omega arith) }
  made-both h (Some n) D = record {
    size = D.size;
    inside = D.made.0;
    suits = λ long. record { drives = λ g. absurd (omega arith); seeks = λ far. D.made.1 };
  }
