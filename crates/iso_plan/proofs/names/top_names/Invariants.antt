use Rattle.std.proofs.Common.{◌≡◌, ◌++◌, drop, map}
use Rattle.iso_model.specs.ScriptView.{script_of}
use Rattle.iso_plan.specs.Faults.{top_names}
use Rattle.iso_plan.proofs.names.top_names.Given as goal

abbrev pub invariant-scripts : goal.invariant-scripts
invariant-scripts l = l.names.items ++ top_names (map script_of (drop l.script-index l.scripts)) ≡ top_names (map script_of l.scripts)
