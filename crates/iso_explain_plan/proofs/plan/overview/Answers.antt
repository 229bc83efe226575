use Rattle.std.proofs.Common.{ap, length, map, sym, ◌∙◌}
use Rattle.iso_model.specs.ScriptView.{script_of}
use Rattle.iso_plan.proofs.ColumnLemmas.{length-column}
use Rattle.iso_plan.specs.PathTexts.{path_text}
use Rattle.iso_plan.specs.TopClasses.{top_class}
use Rattle.iso_plan.specs.Tree.{tree}
use Rattle.iso_explain_plan.proofs.plan.overview.Goals as goal

pub returns-in-Ok-clause-each : goal.returns-in-Ok-clause-each
returns-in-Ok-clause-each c =
    let nodes = tree (map script_of c.args.scripts.now) in
    ap length c.in-Ok.ensures.paths ∙ length-column (path_text nodes) (length nodes)
    ∙ sym (ap length c.in-Ok.ensures.classes ∙ length-column (top_class nodes) (length nodes))

pub returns-in-Err-Fault-clause-each : goal.returns-in-Err-Fault-clause-each
returns-in-Err-Fault-clause-each c = ap length c.no_nodes.ensures.paths ∙ sym (ap length c.no_nodes.ensures.classes)
