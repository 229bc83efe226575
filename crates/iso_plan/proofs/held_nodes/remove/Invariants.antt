use Rattle.std.proofs.Common.{◌≡◌, drop}
use Rattle.iso_plan.specs.HeldNodes.{CanRemove, removed}
use Rattle.iso_plan.proofs.held_nodes.remove.Given as goal

abbrev pub invariant-loop-lock : goal.invariant-loop-lock
invariant-loop-lock l = record {
  can : CanRemove (drop l.lock-index l.locks) l.uses.items;
  left : removed (drop l.lock-index l.locks) l.uses.items ≡ removed l.locks l.initial.uses.items;
}
