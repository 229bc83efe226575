use Rattle.std.proofs.Common.{◌<◌, get_or, length, ap, arith}
use Rattle.std.proofs.lemmas.Result.{err_from_is_err_and}
use Rattle.iso_failures.specs.Counting.{counts}
use Rattle.iso_lifecycle.specs.ResultViews.{outcome_in}
use Rattle.iso_plan.specs.RowView.{tree_of}
use Rattle.iso_summary.specs.Summaries.{counts_line, entry_text}
use Rattle.iso_summary.specs.Views.{again_of, located_of}
use Rattle.iso_summary.specs.declared.located.Located.{Located}
use Rattle.iso_summary.proofs.SummaryLemmas.{rest-end, rest-next}
use Rattle.iso_tap.proofs.PrinterLemmas.{left_cut, left_last, left_next, prints_as}
use Rattle.iso_summary.proofs.summary.summary.Goals as goal

pub returns-in_err-entry : goal.returns-in_err-entry
returns-in_err-entry g c =
    let tree = tree_of c.args.plan.now in
    let outcome = outcome_in c.args.results.now in
    let again = again_of c.args.again.now in
    let last = counts_line (counts tree outcome) in
    let i = c.nodes.i in
    let there : i < length c.args.places.now = omega arith in
    let p = err_from_is_err_and c.from_residual.result c.from_residual.ensures.1 in
    let at = c.index-places-i.result in
    let node = get_or c.args.nodes.now i 0 in
    let same = ap (λ (l : Located). entry_text tree outcome again node (located_of l)) c.index-places-i.is in
    let one = prints_as c.in_err-entry.ensures (entry_text tree outcome again node (located_of (get_or c.args.places.now i at))) same in
    rw p.1 (left_cut _ _ p.0 (rest-next tree outcome again c.args.nodes.now c.args.places.now last i 0 at c.nodes-test.true there) c.nodes.invariant one)

pub nodes-preserved : goal.nodes-preserved
nodes-preserved g c =
    let tree = tree_of c.args.plan.now in
    let outcome = outcome_in c.args.results.now in
    let again = again_of c.args.again.now in
    let last = counts_line (counts tree outcome) in
    let i = c.nodes.i in
    let there : i < length c.args.places.now = omega arith in
    let at = c.index-places-i.result in
    let node = get_or c.args.nodes.now i 0 in
    let same = ap (λ (l : Located). entry_text tree outcome again node (located_of l)) c.index-places-i.is in
    let one = prints_as c.in_ok-entry.ensures (entry_text tree outcome again node (located_of (get_or c.args.places.now i at))) same in
    left_next (rest-next tree outcome again c.args.nodes.now c.args.places.now last i 0 at c.nodes-test.true there) c.nodes.invariant one

pub returns : goal.returns
returns g c =
    let tree = tree_of c.args.plan.now in
    let outcome = outcome_in c.args.results.now in
    let last = counts_line (counts tree outcome) in
    let left = rw (rest-end tree outcome (again_of c.args.again.now) c.args.nodes.now c.args.places.now last c.nodes.i c.nodes-test.false) at c.nodes.invariant in
    left_last c.counts.result left (prints_as c.counts.ensures last (ap counts_line c.count.ensures))
