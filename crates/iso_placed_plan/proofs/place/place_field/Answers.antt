use Rattle.std.proofs.Common.{sym, ap, ◌∙◌}
use Rattle.iso_placed_plan.specs.PlacedPlan.{place_field}
use Rattle.iso_plan.specs.KeptNodes.{texts_of}
use Rattle.iso_tap.proofs.PrinterLemmas.{prints_as, prints_then}
use Rattle.iso_placed_plan.proofs.place.place_field.Goals as goal

pub returns-in_ok-bytes-in-Some : goal.returns-in_ok-bytes-in-Some
returns-in_ok-bytes-in-Some g c =
    let field = ap (place_field (texts_of c.args.names.now)) (sym c.in-Some.is ∙ c.site.ensures) in
    prints_as (prints_then _ c.in_ok-bytes-in-Some.ensures c.place.ensures) _ field
