-- Document 01, "Outcomes": "Checker: 8, then 9."
use Rattle.std.specs.Prelude.{Result, Ok, Err, cond, List, ℕ}
use Rattle.std.proofs.Math.Option.{Option, some, none}
use Rattle.edition.specs.Outcomes.{done, image_malformed, image_fails_check}
use Rattle.image_format.specs.Image.{Image}
use Rattle.image_format.specs.Reading.{read_image, from_bytes}
use Rattle.semantics.specs.Check.{check}
use Rattle.image_check.specs.declared.checking.CheckError.{CheckError}
use Rattle.image_check.specs.declared.checking.CheckError.TheVariants.{Malformed, Rejected}

-- the number of each case
abbrev pub outcome_of : Result (Unit {0}) CheckError → ℕ
outcome_of (Ok u) = done
outcome_of (Err Malformed) = image_malformed
outcome_of (Err Rejected) = image_fails_check

abbrev pub judged : Option Image → ℕ
judged none = image_malformed
judged (some i) = cond (check i) done image_fails_check

unfoldable pub check_of : List ℕ → ℕ
check_of image = judged (read_image from_bytes image)
