use Rattle.std.proofs.Common.{◌≢◌, arith}
use Rattle.iso_plan.specs.PathTexts.{path_text}
use Rattle.iso_plan.specs.RowView.{tree_of}
use Rattle.iso_tap.proofs.PrinterLemmas.{prints_as, prints_stopped, prints_then}
use Rattle.iso_why.proofs.GiverLemmas.{marked-other}
use Rattle.iso_why.proofs.lines.marked_on.Goals as goal

pub returns-in_err-bytes : goal.returns-in_err-bytes
returns-in_err-bytes g c =
    let tree = tree_of c.args.plan.now in
    prints_as (prints_stopped (path_text tree c.args.marked) _ c.from_residual.ensures.0 c.in_err-bytes.ensures) _
    (marked-other tree c.args.node c.args.marked c.if-marked-node.false)

pub returns : goal.returns
returns g c =
    let tree = tree_of c.args.plan.now in
    prints_as (prints_then c.path.result c.in_ok-bytes.ensures c.path.ensures) _ (marked-other tree c.args.node c.args.marked c.if-marked-node.false)
