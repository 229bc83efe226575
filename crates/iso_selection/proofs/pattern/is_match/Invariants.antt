use Rattle.std.proofs.Common.{◌≡◌, ◌≤◌, drop, length}
use Rattle.iso_selection.specs.Patterns.{is_match}
use Rattle.iso_selection.proofs.pattern.is_match.Given as goal

abbrev pub invariant-bytes : goal.invariant-bytes
invariant-bytes l = record {
  within : l.at ≤ length l.text;
  same : is_match (drop l.at l.pattern) (drop l.at l.text) ≡ is_match l.pattern l.text;
}
