use Rattle.std.proofs.Common.{◌<◌, length, sym, ap, arith, ◌∙◌}
use Rattle.std.proofs.lemmas.List.{get_or_read}
use Rattle.iso_lifecycle.proofs.Getting.{closed-result, combined}
use Rattle.iso_lifecycle.specs.ResultViews.{ResultsView, outcome_of_view}
use Rattle.iso_lifecycle.specs.declared.done.Opened as Openings
use Rattle.iso_lifecycle.specs.declared.entry.Entry.TheVariants.{Empty}
use Rattle.iso_lifecycle.proofs.results.Results.get.Goals as goal

pub returns-in-Closed : goal.returns-in-Closed
returns-in-Closed c =
    let es = c.self.inside.entries.items in
    let within : c.args.node < length es = omega (arith, c.requires, c.self.invariant.fits, ap (λ (v : ResultsView). length v.plan.rows) c.self.view_is) in
    let here = sym (get_or_read es c.args.node c.index.result.now within c.index.ensures Empty) ∙ c.in-Closed.is in
    closed-result c.args.self.now c.self.inside.plan.now c.self.inside.start.value es c.args.node c.in-Closed.opening c.in-Closed.closed (outcome_of_view c.of_class.result) c.self.view_is
    c.self.invariant here (c.of_class.ensures ∙ ap (λ (o : Openings.Opened). combined o c.in-Closed.closed) c.opened.ensures)
