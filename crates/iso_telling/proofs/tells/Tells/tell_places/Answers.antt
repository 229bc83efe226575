use Rattle.std.proofs.Common.{List, map, option_map, refl, ap, subst, ◌∙◌}
use Rattle.std.proofs.lemmas.Result.{on_ok_weaker}
use Rattle.iso_github.specs.Errors.{errors_text}
use Rattle.iso_junit.specs.Documents.{junit_text}
use Rattle.iso_junit.specs.Runs.{PlacedView, placed_of}
use Rattle.iso_lifecycle.specs.ResultViews.{outcome_in}
use Rattle.iso_plan.specs.RowView.{tree_of}
use Rattle.iso_telling.specs.Excerpts.{excerpts}
use Rattle.iso_telling.specs.Pages.{IsPaged, page_of, watched_of}
use Rattle.iso_telling.specs.Telling.{IsTold}
use Rattle.iso_telling.specs.Written.{lent}
use Rattle.iso_telling.proofs.tells.Tells.tell_places.Goals as goal

pub returns : goal.returns
returns c =
    let tree = tree_of c.args.plan.now in
    let outcome = outcome_in c.args.results.now in
    let times = c.args.times.now in
    let first = ap (map placed_of) c.deref.ensures.value ∙ c.in_ok-places.ensures.places in
    let second = ap (map placed_of) c.deref-3.ensures.value ∙ c.in_ok-places.ensures.places in
    let junit = subst (λ (ps : List PlacedView). IsTold (junit_text (record { tree = tree; outcome = outcome; places = ps; times = times }))
    c.args.self.now.junit c.tell_junit.new.asked) first c.in_ok-tell_junit.ensures in
    let third = ap (map placed_of) c.deref-2.ensures.value ∙ c.in_ok-places.ensures.places in
    let shown = excerpts (lent c.args.written.now.texts.now) tree c.args.sites.now outcome in
    let html = subst (λ (ps : List PlacedView). IsPaged (page_of (record { tree = tree; outcome = outcome; places = ps; times = times }) c.args.plan.now.settings shown
    (option_map watched_of c.args.watched)) c.args.self.now.html c.tell_page.new.asked) third c.in_ok-tell_page.ensures in
    on_ok_weaker c.tell_errors.result
    (λ told. record {
      names = refl;
      failed = refl;
      durations = refl;
      summary = c.in_ok-tell_summary.ensures;
      junit = junit;
      html = html;
      github = subst (λ (ps : List PlacedView). IsTold (errors_text tree outcome ps) c.args.self.now.github c.tell_errors.new.asked) second told;
    })
    c.tell_errors.ensures
