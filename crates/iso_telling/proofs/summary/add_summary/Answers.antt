use Rattle.std.proofs.Common.{List, ℕ, map, refl, subst, ap, ap₂, ◌∙◌}
use Rattle.iso_lifecycle.specs.ResultViews.{outcome_in}
use Rattle.iso_plan.specs.RowView.{tree_of}
use Rattle.iso_summary.specs.Summaries.{summary_text}
use Rattle.iso_summary.specs.Views.{again_of, located_of}
use Rattle.iso_tap.specs.Sinks.{Wrote}
use Rattle.iso_telling.proofs.PlaceLemmas.{places-of-nodes}
use Rattle.iso_telling.specs.ToldPlaces.{located_told, told, told_of}
use Rattle.iso_telling.specs.ToldNodes.{told_nodes}
use Rattle.iso_telling.specs.Written.{lent}
use Rattle.iso_telling.proofs.summary.add_summary.Goals as goal

pub returns-in-Ok : goal.returns-in-Ok
returns-in-Ok c =
    let tree = tree_of c.args.plan.now in
    let outcome = outcome_in c.args.results.now in
    let asked = c.args.summary.now in
    let line = told asked.explain tree c.args.sites.now outcome in
    let place = located_told (lent c.args.names.now) (lent c.args.texts.now) in
    let nodes = told_nodes tree outcome asked.skipped in
    let these = c.deref.ensures.value ∙ c.in_ok-nodes.ensures.told in
    let at = ap (map told_of) c.deref-2.ensures.value ∙ c.in_ok-lines.ensures in
    let are = ap (map located_of) c.deref-4.ensures.value ∙ c.in_ok-places.ensures in
    let places = places-of-nodes line place nodes c.deref.result.now (map told_of c.deref-2.result.now) (map located_of c.deref-4.result.now) these at are in
    let text = ap₂ (summary_text tree outcome (again_of asked.again)) (c.deref-3.ensures.value ∙ c.in_ok-nodes.ensures.told) places in
    (refl, subst (λ (t : List ℕ). Wrote asked.text c.write_summary.new.sink t) text c.in-Ok.ensures.wrote)
