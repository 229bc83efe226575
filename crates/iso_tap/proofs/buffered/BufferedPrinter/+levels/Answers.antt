use Rattle.std.proofs.Common.{◌≡◌, ◌<◌, ◌+◌, List, ℕ, false, true, drop, length, get_or, sym, ap, ◌∙◌, arith}
use Rattle.std.proofs.lemmas.Result.{err_from_is_err_and}
use Rattle.iso_lifecycle.specs.ResultViews.{outcome_in, outcome_of_view}
use Rattle.iso_plan.specs.Paths.{children, is_test, row_at}
use Rattle.iso_plan.specs.RowView.{tree_of}
use Rattle.iso_tap.specs.ReportBlocks.{point}
use Rattle.iso_tap.specs.ReportLines.{plan_line, subtest_line}
use Rattle.iso_tap.specs.Reports.{is_ok, level, numbered, reported}
use Rattle.iso_tap.proofs.BufferLemmas.{buffers_as, buffers_failed, buffers_nothing, buffers_stopped, buffers_then, left_cut, left_next}
use Rattle.iso_tap.proofs.PrinterLemmas.{drop_next, only-err}
use Rattle.iso_tap.proofs.ReportLemmas.{all-next, child-at, ok-known, point-same, text-down}
use Rattle.iso_tap.proofs.Within.{IsChild, all-of-test}
use Rattle.iso_tap.proofs.buffered.BufferedPrinter.+levels.Goals as goal

pub level-reported-requires : goal.level-reported-requires
level-reported-requires g t c κs known =
    let tree = tree_of c.args.plan.now in
    let child = get_or c.children-children.result.now c.children.i 0 in
    let all = c.children-children.ensures in
    let here : c.children.i < length (children tree c.args.node) = rw (sym all) c.children-test.true in
    let is : IsChild tree c.args.node child = rw all (child-at tree c.args.node c.children.i 0 c.nodes_are_a_tree.ensures here) in
    let within : child < length c.args.plan.now.rows = is.2 in
    let after = is.1 in
    let measure = c.decreases in
    let indent = c.requires.indent in
    (omega arith, (known, (c.requires.plan, (c.requires.complete, (is.0, (within, omega arith))))))

pub level-returns-in_err-plan_line-clause-prints : goal.level-returns-in_err-plan_line-clause-prints
level-returns-in_err-plan_line-clause-prints g t c =
    let tree = tree_of c.args.plan.now in
    let text = reported tree (outcome_in c.args.results.now) c.args.indent in
    buffers_stopped (numbered text 1 (children tree c.args.node)) _ (only-err _ c.from_residual.ensures.0)
    (buffers_as c.in_err-plan_line.ensures _ (ap (λ (ns : List ℕ). plan_line c.args.indent (length ns)) c.children-children.ensures))

pub level-returns-in_err-ok-clause-prints : goal.level-returns-in_err-ok-clause-prints
level-returns-in_err-ok-clause-prints g t c =
    let text = reported (tree_of c.args.plan.now) (outcome_in c.args.results.now) c.args.indent in
    let nodes = c.children-children.result.now in
    let p = err_from_is_err_and c.from_residual-in_err-ok.result c.from_residual-in_err-ok.ensures.1 in
    let next = ap (numbered text (c.children.i + 1)) (drop_next nodes c.children.i 0 c.children-test.true) in
    rw p.1 (buffers_as (left_cut _ _ p.0 next c.children.invariant.printed c.in_err-ok.ensures.prints) _ (ap (level c.args.indent text) c.children-children.ensures))

pub level-children-preserved : goal.level-children-preserved
level-children-preserved g t c =
    let text = reported (tree_of c.args.plan.now) (outcome_in c.args.results.now) c.args.indent in
    let oks = is_ok (tree_of c.args.plan.now) (outcome_in c.args.results.now) in
    let nodes = c.children-children.result.now in
    let rest = drop_next nodes c.children.i 0 c.children-test.true in
    let next = ap (numbered text (c.children.i + 1)) rest in
    record {
      printed = left_next next c.children.invariant.printed c.in_ok-ok.ensures.prints;
      ok = all-next oks nodes (drop c.children.i nodes) (drop (c.children.i + 1) nodes) (get_or nodes c.children.i 0) c.children.all_ok c.in_ok-ok.ok rest c.in_ok-ok.ensures.ok
          c.children.invariant.ok;
    }

pub reported-returns-in_err-children_ok-clause-prints : goal.reported-returns-in_err-children_ok-clause-prints
reported-returns-in_err-children_ok-clause-prints g t c =
    let plan = c.args.plan.now in
    let tree = tree_of plan in
    let outcome = outcome_in c.args.results.now in
    let n = c.args.node in
    let within : n < length tree = c.requires.within in
    let last = point c.args.indent c.args.number (is_ok tree outcome n) (row_at tree n).title (outcome n) in
    buffers_as (buffers_stopped last _ (only-err _ c.from_residual.ensures.0) c.in_err-children_ok.ensures.prints) _
    (sym (text-down tree outcome c.nodes_are_a_tree.ensures c.args.indent c.args.number n c.requires.above within))

pub reported-returns-in_err-point-clause-prints : goal.reported-returns-in_err-point-clause-prints
reported-returns-in_err-point-clause-prints g t c =
    let plan = c.args.plan.now in
    let tree = tree_of plan in
    let outcome = outcome_in c.args.results.now in
    let n = c.args.node in
    let within : n < length tree = c.requires.within in
    let ok = ok-known tree outcome c.nodes_are_a_tree.ensures n (outcome_of_view c.outcome-outcome.result) c.is_ok_verdict.result c.in_ok-children_ok.children_ok
    c.outcome-outcome.ensures c.is_ok_verdict.ensures c.in_ok-children_ok.ensures.ok c.requires.above within in
    let last = buffers_as c.in_err-point.ensures _ (point-same c.args.indent c.args.number ok c.title.ensures c.outcome-outcome.ensures) in
    buffers_as (buffers_then _ c.in_ok-children_ok.ensures.prints (buffers_failed _ (only-err _ c.from_residual-in_err-point.ensures.0) last)) _
    (sym (text-down tree outcome c.nodes_are_a_tree.ensures c.args.indent c.args.number n c.requires.above within))

pub reported-returns : goal.reported-returns
reported-returns g t c =
    let plan = c.args.plan.now in
    let tree = tree_of plan in
    let outcome = outcome_in c.args.results.now in
    let n = c.args.node in
    let within : n < length tree = c.requires.within in
    let ok = ok-known tree outcome c.nodes_are_a_tree.ensures n (outcome_of_view c.outcome-outcome.result) c.is_ok_verdict.result c.in_ok-children_ok.children_ok
    c.outcome-outcome.ensures c.is_ok_verdict.ensures c.in_ok-children_ok.ensures.ok c.requires.above within in
    let last = buffers_as c.in_ok-point.ensures _ (point-same c.args.indent c.args.number ok c.title.ensures c.outcome-outcome.ensures) in
    record {
      prints = buffers_as (buffers_then _ c.in_ok-children_ok.ensures.prints last) _
          (sym (text-down tree outcome c.nodes_are_a_tree.ensures c.args.indent c.args.number n c.requires.above within));
      ok = ok;
    }

pub subtest-returns : goal.subtest-returns
subtest-returns g t c =
    let class : is_test (row_at (tree_of c.args.plan.now) c.args.node).kind ≡ false = sym c.is_test.ensures ∙ c.if-is_test.false in
    record {
      prints = rw class (buffers_then _ (buffers_as c.in_ok-subtest_line.ensures _ (ap (subtest_line c.args.indent) c.title.ensures)) c.level.ensures.prints);
      ok = c.level.ensures.ok;
    }

pub subtest-returns-then-is_test : goal.subtest-returns-then-is_test
subtest-returns-then-is_test g t c =
    let tree = tree_of c.args.plan.now in
    let test : is_test (row_at tree c.args.node).kind ≡ true = sym c.is_test.ensures ∙ c.if-is_test.true in
    record {
      prints = rw test (buffers_nothing c.args.self.now);
      ok = sym (all-of-test tree c.nodes_are_a_tree.ensures (is_ok tree (outcome_in c.args.results.now)) c.args.node test);
    }

pub subtest-returns-in_err-subtest_line-clause-prints : goal.subtest-returns-in_err-subtest_line-clause-prints
subtest-returns-in_err-subtest_line-clause-prints g t c =
    let tree = tree_of c.args.plan.now in
    let indent = c.args.indent in
    let class : is_test (row_at tree c.args.node).kind ≡ false = sym c.is_test.ensures ∙ c.if-is_test.false in
    rw class
    (buffers_stopped (level (indent + 4) (reported tree (outcome_in c.args.results.now) (indent + 4)) (children tree c.args.node)) _ (only-err _ c.from_residual.ensures.0)
    (buffers_as c.in_err-subtest_line.ensures _ (ap (subtest_line indent) c.title.ensures)))
