use Rattle.std.proofs.Common.{◌≡◌, drop, map}
use Rattle.iso_model.specs.ScriptView.{script_of}
use Rattle.iso_explain_plan.specs.Unselected.{first_of_team}
use Rattle.iso_explain_plan.proofs.unselected.first_of_team.Given as goal

abbrev pub invariant-loop-script : goal.invariant-loop-script
invariant-loop-script l = first_of_team l.team (map script_of (drop l.script-index l.scripts)) ≡ first_of_team l.team (map script_of l.scripts)
