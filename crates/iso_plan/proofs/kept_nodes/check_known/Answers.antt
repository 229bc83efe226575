use Rattle.std.proofs.Common.{map, ap, sym, ◌∙◌, arith}
use Rattle.iso_plan.proofs.KeptLemmas.{unknown-here, unknown-later}
use Rattle.iso_plan.specs.Faults.{not_selected}
use Rattle.iso_plan.specs.RowView.{row_of}
use Rattle.iso_plan.specs.KeptNodes.{node_paths}
use Rattle.iso_plan.proofs.kept_nodes.check_known.Goals as goal

pub returns-then-not-contains-clause-err : goal.returns-then-not-contains-clause-err
returns-then-not-contains-clause-err c =
    let paths = node_paths (map row_of c.args.rows.now) in
    let named = c.contains.ensures ∙ c.in_ok-known.ensures _ in
    ap not_selected (sym c.only.invariant ∙ unknown-here paths c.args.only.now c.only.index _ (omega arith) (sym named ∙ c.if-not-contains.true))

pub only-preserved : goal.only-preserved
only-preserved c =
    let paths = node_paths (map row_of c.args.rows.now) in
    let named = c.contains.ensures ∙ c.in_ok-known.ensures _ in
    unknown-later paths c.args.only.now c.only.index _ (omega arith) (sym named ∙ c.if-not-contains.false) ∙ c.only.invariant
