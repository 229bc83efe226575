use Rattle.std.proofs.Common.{map}
use Rattle.iso_model.specs.ScriptView.{script_of}
use Rattle.iso_plan.proofs.BoundLemmas.{none-left-out}
use Rattle.iso_plan.specs.KeptNodes.{texts_of}
use Rattle.iso_plan.proofs.laws.no_mark_is_left_out.Goals as goal

pub returns : goal.returns
returns c = none-left-out (map script_of c.args.scripts.now) (texts_of c.args.only.now)
