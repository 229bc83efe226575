use Rattle.std.proofs.Common.{ℕ, List, Option, Bool, codes, ap, ap₂, ◌∙◌}
use Rattle.std.proofs.lemmas.Result.{err_from_is_err_and}
use Rattle.iso_critical.specs.Critical.{is_among}
use Rattle.iso_lifecycle.specs.declared.kind.BodyKind.TheVariants.{BeforeAll, AfterAll}
use Rattle.iso_plan.specs.RowView.{tree_of}
use Rattle.iso_tap.proofs.PrinterLemmas.{prints_as, prints_cut, prints_then}
use Rattle.iso_times.specs.declared.times.BodyTime.{BodyTime}
use Rattle.iso_trace.specs.TraceText.{body_event, first_kind}
use Rattle.iso_waits.specs.Stays.{body_time}
use Rattle.iso_trace.proofs.body.node_events.Goals as goal

pub returns-in_err-event : goal.returns-in_err-event
returns-in_err-event g c =
    let tree = tree_of c.args.run.now.plan.now in
    let results = c.args.run.now.results.now in
    let bodies = c.args.run.now.times.now in
    let n = c.args.node in
    let critical = c.args.run.now.critical.now in
    let one =
    ap₂ (λ (kind : List ℕ) (t : Option BodyTime). body_event tree results n kind c.has-opens.result t) c.first_kind.ensures c.body-first.ensures
    ∙ ap (λ (b : Bool). body_event tree results n (first_kind tree n) b (body_time bodies n BeforeAll)) c.has-opens.ensures in
    let p = err_from_is_err_and c.from_residual.result c.from_residual.ensures.1 in
    let first = body_event tree results n (first_kind tree n) (is_among critical n BeforeAll) (body_time bodies n BeforeAll) in
    let second = body_event tree results n (codes " after_all") (is_among critical n AfterAll) (body_time bodies n AfterAll) in
    rw p.1 (prints_cut second _ p.0 (prints_as c.in_err-event.ensures first one))

pub returns : goal.returns
returns g c =
    let tree = tree_of c.args.run.now.plan.now in
    let results = c.args.run.now.results.now in
    let bodies = c.args.run.now.times.now in
    let n = c.args.node in
    let critical = c.args.run.now.critical.now in
    let one =
    ap₂ (λ (kind : List ℕ) (t : Option BodyTime). body_event tree results n kind c.has-opens.result t) c.first_kind.ensures c.body-first.ensures
    ∙ ap (λ (b : Bool). body_event tree results n (first_kind tree n) b (body_time bodies n BeforeAll)) c.has-opens.ensures in
    let two =
    ap (body_event tree results n (codes " after_all") c.has-closes.result) c.body-last.ensures
    ∙ ap (λ (b : Bool). body_event tree results n (codes " after_all") b (body_time bodies n AfterAll)) c.has-closes.ensures in
    let first = body_event tree results n (first_kind tree n) (is_among critical n BeforeAll) (body_time bodies n BeforeAll) in
    let second = body_event tree results n (codes " after_all") (is_among critical n AfterAll) (body_time bodies n AfterAll) in
    prints_then c.event-2.result (prints_as c.in_ok-event.ensures first one) (prints_as c.event-2.ensures second two)
