use Rattle.std.proofs.Common.{[], true, refl}
use Rattle.std.proofs.lemmas.Result.{err_from_is_err_and}
use Rattle.iso_plan.specs.KeptNodes.{texts_of}
use Rattle.iso_run.specs.Commands.{ArePlaces}
use Rattle.iso_run.specs.Runs.{suite_why}
use Rattle.iso_run.specs.Suites.{suite_of}
use Rattle.iso_run.specs.declared.way.Way.TheVariants.{Serial}
use Rattle.iso_run.proofs.Lending.{out-of-memory}
use Rattle.iso_run.proofs.Printing.{are-places}
use Rattle.iso_run.proofs.Reporting.{cut-off}
use Rattle.iso_run.proofs.Unread.{unread-early, unread-unwritten}
use Rattle.iso_run.proofs.plan.show_why.Goals as goal

pub returns-in_err-suite : goal.returns-in_err-suite
returns-in_err-suite g c =
    let p = err_from_is_err_and c.from_residual.result c.from_residual.ensures.1 in
    let inputs = c.args.inputs in
    rw (p.1, p.2) (
      [],
      unread-early inputs (ArePlaces c.args.places inputs []) c.in_err-suite.field-0.0 c.in_err-suite.ensures,
      unread-unwritten (λ _. true) (suite_why c.args.tests (texts_of c.args.names.now) []) inputs Serial (g.W.Sink.account c.args.sink.now) c.in_err-suite.field-0.0 c.in_err-suite.ensures,
    )

pub returns-in_err-sites : goal.returns-in_err-sites
returns-in_err-sites g c =
    let p = err_from_is_err_and c.from_residual-in_err-sites.result c.from_residual-in_err-sites.ensures.1 in
    rw (p.1, p.2, c.in_err-sites.ensures.fault) ([], tt, out-of-memory (λ _. true) (suite_why c.args.tests (texts_of c.args.names.now) []) c.args.inputs Serial (g.W.Sink.account c.args.sink.now))

pub returns-in_err-ends : goal.returns-in_err-ends
returns-in_err-ends g c =
    let p = err_from_is_err_and c.from_residual-in_err-ends.result c.from_residual-in_err-ends.ensures.1 in
    rw (p.1, p.2) ([], tt, out-of-memory (λ _. true) (suite_why c.args.tests (texts_of c.args.names.now) []) c.args.inputs Serial (g.W.Sink.account c.args.sink.now))

pub returns-in-Ok : goal.returns-in-Ok
returns-in-Ok g c =
    let inputs = c.args.inputs in
    let suite = c.in_ok-suite.suite in
    let is = c.in_ok-suite.ensures in
    let sites = c.in_ok-sites.sites in
    let wrote = rw is.planned_as at c.in-Ok.ensures.wrote in (
      sites,
      are-places c.args.places inputs suite sites is c.in_ok-sites.ensures.found c.in_ok-sites.ensures.none,
      record { cause = tt; leaves = (refl, (suite_of inputs suite, is.is_suite, (wrote, refl))) },
    )

pub returns : goal.returns
returns g c =
    let inputs = c.args.inputs in
    let suite = c.in_ok-suite.suite in
    let is = c.in_ok-suite.ensures in
    let sites = c.in_ok-sites.sites in
    let took = rw is.planned_as at c.in-Err.ensures.took in
    let cut = rw is.planned_as at c.in-Err.ensures.cut in (
      sites,
      are-places c.args.places inputs suite sites is c.in_ok-sites.ensures.found c.in_ok-sites.ensures.none,
      cut-off (λ _. true) (suite_why c.args.tests (texts_of c.args.names.now) sites) inputs Serial (suite_of inputs suite) is.is_suite refl (g.W.Sink.account c.args.sink.now)
          (g.W.Sink.account c.write_why.new.sink) _
          (record { written = c.in-Err.fault.written; is = refl; took = took; within = cut; failed = c.in-Err.ensures.failed }),
    )
