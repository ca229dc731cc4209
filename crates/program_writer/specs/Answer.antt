-- What the translator's answer stands for, with the image room afterwards.
use Rattle.std.specs.Prelude.{List, ℕ}
use Rattle.translation.specs.Translation.{Translation}
use Rattle.program_writer.specs.declared.writing.Translation.{Translation as Answer}

abbrev pub translation_of : Answer → List ℕ → Translation
translation_of r room = record { outcome = r.outcome; place = r.place; room = room }
