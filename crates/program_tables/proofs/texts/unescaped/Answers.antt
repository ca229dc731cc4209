-- `unescaped`: the byte that is spelled, or the byte itself.
use mathlib.Core.Path.{◌≡◌, refl, ap, ◌∙◌}
use Prim.Native.Nat.{ℕ}
use Rattle.std.specs.Prelude.{Option, Some, None}
use Rattle.std.specs.Option.{unwrap_or}
use Rattle.lists.specs.Answers.{option_of}
use Rattle.program_tables.specs.Texts.{byte_or}
use Rattle.program_tables.proofs.texts.unescaped.Goals as goal

told : (b : ℕ) (o : Option ℕ) → unwrap_or o b ≡ byte_or b (option_of o)
unfolding byte_or
told b None = refl
told b (Some v) = refl

pub returns : goal.returns
returns c =
    let b = c.args.b in
    c.unwrap_or.ensures ∙ told b c.string_escape_of.result ∙ ap (byte_or b) c.string_escape_of.ensures
