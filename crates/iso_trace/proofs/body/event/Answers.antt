use Rattle.std.proofs.Common.{List, ℕ, ap, sym, ◌∙◌}
use Rattle.iso_plan.specs.RowView.{tree_of}
use Rattle.iso_tap.proofs.PrinterLemmas.{prints_as}
use Rattle.iso_trace.specs.TraceText.{body_event, timed_event}
use Rattle.iso_trace.proofs.body.event.Goals as goal

pub returns-in-Some : goal.returns-in-Some
returns-in-Some g c =
    let tree = tree_of c.args.run.now.plan.now in
    let results = c.args.run.now.results.now in
    let n = c.args.node in
    let kind = c.args.kind.now in
    let critical = c.args.critical in
    let time = c.in-Some.time in
    prints_as c.timed.ensures (body_event tree results n kind critical c.args.time)
    (ap (λ (word : List ℕ). timed_event tree word n kind critical time) c.word.ensures ∙ ap (body_event tree results n kind critical) (sym c.in-Some.is))
