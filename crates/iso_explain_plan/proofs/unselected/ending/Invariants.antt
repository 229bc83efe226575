use Rattle.std.proofs.Common.{◌≡◌, filter, map, take}
use Rattle.iso_explain_plan.specs.Unselected.{has_end}
use Rattle.iso_explain_plan.proofs.unselected.ending.Given as goal

abbrev pub invariant-loop-text : goal.invariant-loop-text
invariant-loop-text l = map (λ p. p.now) l.ending.items ≡ filter (has_end l.end) (take l.text-index l.paths)
