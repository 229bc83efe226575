use Rattle.std.proofs.Common.{◌≡◌, ◌++◌, drop}
use Rattle.iso_places.specs.LineStarts.{line_starts, starts_from}
use Rattle.iso_places.proofs.lines.LineTable.new.Given as goal

abbrev pub invariant-bytes : goal.invariant-bytes
invariant-bytes l = line_starts l.bytes ≡ l.starts.items ++ starts_from l.at (drop l.at l.bytes)
