use Rattle.std.proofs.Common.{ap, codes}
use Rattle.std.specs.Fmt.{decimal}
use Rattle.iso_placed_plan.specs.PlacedPlan.{script_name}
use Rattle.iso_placed_plan.proofs.PlacedLemmas.{place-pieces}
use Rattle.iso_plan.specs.KeptNodes.{texts_of}
use Rattle.iso_summary.specs.Names.{planned_name}
use Rattle.iso_tap.proofs.PrinterLemmas.{prints_as, prints_cut, prints_stopped, prints_then}
use Rattle.iso_placed_plan.proofs.place.place.Goals as goal

pub returns-in_err-planned_name : goal.returns-in_err-planned_name
returns-in_err-planned_name g c =
    let at = c.args.site.place.name in
    let name = script_name (texts_of c.args.names.now) c.args.site.script in
    let file = prints_as c.in_err-planned_name.ensures (planned_name name) (ap planned_name c.script_name.ensures) in
    prints_stopped (decimal at.column) _ c.from_residual.ensures.0
    (prints_cut (codes ":") _ _ (prints_cut (decimal at.line) _ _ (prints_cut (codes ":") _ _ file)))

pub returns : goal.returns
returns g c =
    let name = script_name (texts_of c.args.names.now) c.args.site.script in
    let file = prints_as c.in_ok-planned_name.ensures (planned_name name) (ap planned_name c.script_name.ensures) in
    prints_as (prints_then _ file c.pieces.ensures) _ (place-pieces _ c.from.ensures c.from-2.ensures)
