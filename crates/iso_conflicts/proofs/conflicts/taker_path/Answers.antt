use Rattle.std.proofs.Common.{◌++◌, [], Bool, cond, codes, sym, ap}
use Rattle.iso_plan.specs.PathTexts.{path_text}
use Rattle.iso_plan.specs.RowView.{tree_of}
use Rattle.iso_tap.proofs.PrinterLemmas.{prints_as, prints_then}
use Rattle.iso_conflicts.proofs.conflicts.taker_path.Goals as goal

pub returns : goal.returns
returns g c =
    let text = codes " " ++ path_text (tree_of c.args.plan.now) c.args.node in
    prints_as (prints_then c.path.result c.in_ok-bytes.ensures c.path.ensures) _ (ap (λ (t : Bool). cond t text []) c.if-not-takes.ensures)
