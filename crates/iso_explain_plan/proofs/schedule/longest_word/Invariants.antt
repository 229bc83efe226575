use Rattle.std.proofs.Common.{◌≡◌, ◌≤◌, drop}
use Rattle.iso_explain_plan.specs.Schedules.{longest_from}
use Rattle.iso_explain_plan.proofs.schedule.longest_word.Given as goal

abbrev pub invariant-loop-byte : goal.invariant-loop-byte
invariant-loop-byte l = record {
  same : longest_from l.longest l.run (drop l.byte-index l.line) ≡ longest_from 0 0 l.line;
  few : l.run ≤ l.byte-index;
}
