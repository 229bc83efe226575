use Rattle.std.proofs.Common.{◌≡◌, [], drop}
use Rattle.iso_selection.specs.Patterns.{is_match}
use Rattle.iso_selection.proofs.pattern.is_match_of_nothing.Given as goal

abbrev pub invariant-bytes : goal.invariant-bytes
invariant-bytes l = is_match (drop l.byte-index l.pattern) [] ≡ is_match l.pattern []
