-- `write_whole`: the bytes that are taken are some of those that are left, and the writer holds those before them.
use Rattle.std.proofs.Common.{◌≤◌, length, take}
use Rattle.std.specs.Io.KnownBytes.{Appends}
use Rattle.front_files.proofs.writing.write_whole.Given as goal

abbrev pub invariant-loop : goal.invariant-loop
invariant-loop g l = (l.at ≤ length l.bytes) × Appends (g.W.Write.contents l.initial.file) (g.W.Write.contents l.file) (take l.at l.bytes)
