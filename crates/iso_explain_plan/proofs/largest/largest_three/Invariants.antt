use Rattle.std.proofs.Common.{◌≡◌, take}
use Rattle.iso_explain_plan.specs.Largest.{by_size}
use Rattle.iso_explain_plan.proofs.largest.largest_three.Given as goal

abbrev pub invariant-loop-size : goal.invariant-loop-size
invariant-loop-size l = l.largest.items ≡ take 3 (by_size (take l.size-index l.sizes))
