-- Document 01, "Outcomes": "Then other sizes (6)": "user names 25; constants 64; EREs 16; instructions per section
-- 1,024; operand depth 32"; "any text value 512".
use Rattle.std.specs.Prelude.{Bool, ◌&&◌, List, length, leb}
use Rattle.lists.specs.Elements.{all}
use Rattle.edition.specs.Limits.{instruction_count, operand_depth}
use Rattle.image_format.specs.Image.{Instruction, Image}
use Rattle.semantics.specs.Check.{sizes}

abbrev pub section_fits : List Instruction → Bool
section_fits l = leb (length l) instruction_count && all (λ i. leb i.depth operand_depth) l

unfoldable pub fits : Image → Bool
fits i = sizes i && (section_fits i.begin && (section_fits i.main && section_fits i.end))
