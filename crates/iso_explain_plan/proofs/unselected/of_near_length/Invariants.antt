use Rattle.std.proofs.Common.{◌≡◌, filter, map, take}
use Rattle.iso_explain_plan.specs.Unselected.{has_near_length}
use Rattle.iso_explain_plan.proofs.unselected.of_near_length.Given as goal

abbrev pub invariant-loop-text : goal.invariant-loop-text
invariant-loop-text l = map (λ p. p.now) l.near.items ≡ filter (has_near_length l.word) (take l.text-index l.paths)
