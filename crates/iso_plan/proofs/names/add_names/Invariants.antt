use Rattle.std.proofs.Common.{◌≡◌, ◌++◌, drop, map}
use Rattle.iso_model.specs.ScriptView.{class_of}
use Rattle.iso_plan.specs.Faults.{team_names}
use Rattle.iso_plan.proofs.names.add_names.Given as goal

abbrev pub invariant-classes : goal.invariant-classes
invariant-classes l = l.names.items ++ team_names l.team (map class_of (drop l.class-index l.classes)) ≡ l.fn.names.items ++ team_names l.team (map class_of l.classes)
