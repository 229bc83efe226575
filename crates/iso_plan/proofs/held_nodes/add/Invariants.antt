use Rattle.std.proofs.Common.{◌≡◌, drop}
use Rattle.iso_plan.specs.HeldNodes.{CanAdd, added}
use Rattle.iso_plan.proofs.held_nodes.add.Given as goal

abbrev pub invariant-loop-lock : goal.invariant-loop-lock
invariant-loop-lock l = record {
  can : CanAdd (drop l.lock-index l.locks) l.uses.items;
  left : added (drop l.lock-index l.locks) l.uses.items ≡ added l.locks l.initial.uses.items;
}
