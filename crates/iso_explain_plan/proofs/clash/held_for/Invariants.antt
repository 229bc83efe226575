use Rattle.std.proofs.Common.{◌≡◌, drop}
use Rattle.iso_explain_plan.specs.Clashes.{held_for}
use Rattle.iso_explain_plan.proofs.clash.held_for.Given as goal

abbrev pub invariant-loop-other : goal.invariant-loop-other
invariant-loop-other l = held_for l.lock (drop l.other-index l.others) ≡ held_for l.lock l.others
