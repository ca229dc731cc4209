-- Internal: cited by private contracts only. A tally before the first look for a frame, and after one more.
use Rattle.std.specs.Prelude.{ℕ, ◌+◌, ◌-◌, min, Bool, cond}
use Rattle.vectors_frames.specs.declared.tally.Tally.{Tally}
use Rattle.vectors_frames.specs.declared.tally.Verdict.{Verdict}
use Rattle.vectors_frames.specs.declared.tally.Verdict.TheVariants.{Passed, Failed, Cut, End}

-- no case yet, and a thousand million frames that may be looked for
abbrev pub begun : Tally
begun = record { passed = 0; total = 0; left = 1000000000 }

-- one more, and at most the greatest number of 64 bits
abbrev pub more : ℕ → ℕ
more n = min (n + 1) 18446744073709551615

abbrev pub verdict_of : Bool → Verdict
verdict_of b = cond b Passed Failed

-- a case counts; a cut frame counts as a case that did not pass; after a cut frame, and at the end, no frame is left
abbrev pub after : Tally → Verdict → Tally
after t Passed = record { passed = more t.passed; total = more t.total; left = t.left - 1 }
after t Failed = record { passed = t.passed; total = more t.total; left = t.left - 1 }
after t Cut = record { passed = t.passed; total = more t.total; left = 0 }
after t End = record { passed = t.passed; total = t.total; left = 0 }
