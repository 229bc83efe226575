use Rattle.std.proofs.Common.{[], map, true, refl}
use Rattle.std.proofs.lemmas.Result.{err_from_is_err_and}
use Rattle.iso_model.specs.ScriptView.{script_of}
use Rattle.iso_places.specs.Sites.{places_in}
use Rattle.iso_plan.specs.KeptNodes.{texts_of}
use Rattle.iso_run.specs.Runs.{AreSitesOf, suite_places}
use Rattle.iso_run.specs.Suites.{OfSuite, suite_of}
use Rattle.iso_run.specs.declared.way.Way.TheVariants.{Serial}
use Rattle.iso_run.proofs.Lending.{out-of-memory}
use Rattle.iso_run.proofs.Reporting.{cut-off}
use Rattle.iso_run.proofs.Unread.{unread-early, unread-unwritten}
use Rattle.iso_run.proofs.plan.show_places.Goals as goal

pub returns-in_err-suite : goal.returns-in_err-suite
returns-in_err-suite g c =
    let p = err_from_is_err_and c.from_residual.result c.from_residual.ensures.1 in
    let inputs = c.args.inputs in
    rw (p.1, p.2) (
      [],
      unread-early inputs (OfSuite inputs (λ suite. AreSitesOf inputs suite [])) c.in_err-suite.field-0.0 c.in_err-suite.ensures,
      unread-unwritten (λ _. true) (suite_places c.args.tests (texts_of c.args.names.now) []) inputs Serial (g.W.Sink.account c.args.sink.now) c.in_err-suite.field-0.0 c.in_err-suite.ensures,
    )

pub returns-in_err-sites : goal.returns-in_err-sites
returns-in_err-sites g c =
    let p = err_from_is_err_and c.from_residual-in_err-sites.result c.from_residual-in_err-sites.ensures.1 in
    rw (p.1, p.2, c.in_err-sites.ensures.fault) ([], tt, out-of-memory (λ _. true) (suite_places c.args.tests (texts_of c.args.names.now) []) c.args.inputs Serial (g.W.Sink.account c.args.sink.now))

pub returns-in-Ok : goal.returns-in-Ok
returns-in-Ok g c =
    let inputs = c.args.inputs in
    let suite = c.in_ok-suite.suite in
    let is = c.in_ok-suite.ensures in
    let wrote = rw is.planned_as at c.in-Ok.ensures.wrote in (
      c.in_ok-sites.sites,
      (
        suite_of inputs suite,
        is.is_suite,
        record {
          scripts = map script_of suite.scripts.items;
          places = places_in suite.places.items;
          placed = is.placed refl;
          are = rw is.planned_as at c.in_ok-sites.ensures.found;
        },
      ),
      record { cause = tt; leaves = (refl, (suite_of inputs suite, is.is_suite, (wrote, refl))) },
    )

pub returns : goal.returns
returns g c =
    let inputs = c.args.inputs in
    let suite = c.in_ok-suite.suite in
    let is = c.in_ok-suite.ensures in
    let took = rw is.planned_as at c.in-Err.ensures.took in
    let cut = rw is.planned_as at c.in-Err.ensures.cut in (
      c.in_ok-sites.sites,
      (
        suite_of inputs suite,
        is.is_suite,
        record {
          scripts = map script_of suite.scripts.items;
          places = places_in suite.places.items;
          placed = is.placed refl;
          are = rw is.planned_as at c.in_ok-sites.ensures.found;
        },
      ),
      cut-off (λ _. true) (suite_places c.args.tests (texts_of c.args.names.now) c.in_ok-sites.sites) inputs Serial (suite_of inputs suite) is.is_suite refl (g.W.Sink.account c.args.sink.now)
          (g.W.Sink.account c.write_places.new.sink) _
          (record { written = c.in-Err.fault.written; is = refl; took = took; within = cut; failed = c.in-Err.ensures.failed }),
    )
