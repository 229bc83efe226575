use Rattle.std.proofs.Common.{◌≡◌, map, take}
use Rattle.std.specs.Arc.{arc_value}
use Rattle.iso_model.specs.ScriptView.{class_head_of}
use Rattle.iso_plan.proofs.chains.shared.Given as goal

abbrev pub invariant-heads : goal.invariant-heads
invariant-heads l = map (λ c. class_head_of (arc_value c)) l.chain.items ≡ map (λ c. class_head_of (arc_value c)) (take l.head-index l.heads)
