use Rattle.std.proofs.Common.{◌≡◌, drop}
use Rattle.iso_plan.specs.HeldNodes.{any_excluded}
use Rattle.iso_plan.proofs.held_nodes.any_excluded.Given as goal

abbrev pub invariant-loop-lock : goal.invariant-loop-lock
invariant-loop-lock l = any_excluded l.uses (drop l.lock-index l.locks) ≡ any_excluded l.uses l.locks
