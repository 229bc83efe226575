use Rattle.std.proofs.Common.{Ok, codes}
use Rattle.iso_placed_plan.specs.PlacedPlan.{place_field}
use Rattle.iso_places.specs.Sites.{site_at}
use Rattle.iso_plan.specs.KeptNodes.{texts_of}
use Rattle.iso_tap.proofs.PrinterLemmas.{prints_cut, prints_stopped, prints_then}
use Rattle.iso_placed_plan.proofs.plan.line.Goals as goal

pub returns-in_err-node_fields : goal.returns-in_err-node_fields
returns-in_err-node_fields g c =
    let field = place_field (texts_of c.args.names.now) (site_at c.args.sites.now c.args.node) in
    prints_stopped (codes "\n") _ c.from_residual.ensures.0 (prints_cut field _ _ c.in_err-node_fields.ensures)

pub returns-in_err-place_field : goal.returns-in_err-place_field
returns-in_err-place_field g c =
    prints_stopped (codes "\n") _ c.from_residual-in_err-place_field.ensures.0 (prints_then _ c.in_ok-node_fields.ensures c.in_err-place_field.ensures)

pub returns : goal.returns
returns g c = prints_then _ (prints_then (Ok tt) c.in_ok-node_fields.ensures c.in_ok-place_field.ensures) c.bytes.ensures
