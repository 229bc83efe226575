use Rattle.std.proofs.Common.{◌≡◌, ◌+◌, ◌-◌, ◌≤◌, drop, length}
use Rattle.iso_hints.specs.Positions.{line_start}
use Rattle.iso_hints.proofs.position.line_start.Given as goal

abbrev pub invariant-lines : goal.invariant-lines
invariant-lines l = record {
  within : l.start ≤ length l.text;
  same : line_start l.lines l.text ≡ l.start + line_start (l.lines - l._line) (drop l.start l.text);
}
