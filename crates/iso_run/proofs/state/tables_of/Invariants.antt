use Rattle.std.proofs.Common.{◌≡◌, map, take}
use Rattle.iso_places.specs.LineStarts.{line_starts}
use Rattle.iso_run.proofs.state.tables_of.Given as goal

abbrev pub invariant-loop-script : goal.invariant-loop-script
invariant-loop-script l = l.tables.items ≡ map line_starts (map (λ v. v.items) (take l.script-index l.scripts))
