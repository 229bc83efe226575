use Rattle.std.proofs.Common.{◌≡◌, drop}
use Rattle.iso_explain_plan.specs.Clashes.{first_clash}
use Rattle.iso_explain_plan.proofs.clash.first_clash.Given as goal

abbrev pub invariant-loop-lock : goal.invariant-loop-lock
invariant-loop-lock l = first_clash (drop l.lock-index l.locks) l.others ≡ first_clash l.locks l.others
