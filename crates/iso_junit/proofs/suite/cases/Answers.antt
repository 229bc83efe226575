use Rattle.std.proofs.Common.{List, ℕ, [], ◌++◌, cond, filter, flat_map, sym, ap, ◌∙◌}
use Rattle.std.proofs.lemmas.List.{at_drop_all}
use Rattle.std.proofs.lemmas.Result.{err_from_is_err_and}
use Rattle.iso_junit.proofs.SuiteLemmas.{cases-apart, child-within, texts-next}
use Rattle.iso_junit.specs.Cases.{cases, failed_itself, is_a_test}
use Rattle.iso_junit.specs.Documents.{case_text}
use Rattle.iso_junit.specs.Runs.{run_of}
use Rattle.iso_plan.specs.Paths.{children}
use Rattle.iso_tap.proofs.PrinterLemmas.{left_cut, left_end, left_next, left_whole, prints_as, prints_stopped}
use Rattle.iso_junit.proofs.suite.cases.Goals as goal

pub returns-in_err-own_case : goal.returns-in_err-own_case
returns-in_err-own_case g c =
    let r = run_of c.args.run.now in
    let class = c.args.class in
    let tests = flat_map (case_text r class) (filter (is_a_test r) (children r.tree class)) in
    prints_as (prints_stopped tests _ c.from_residual.ensures.0 c.in_err-own_case.ensures) _ (sym (cases-apart r class))

pub children-init : goal.children-init
children-init g c =
    let r = run_of c.args.run.now in
    let class = c.args.class in
    let own = cond (failed_itself r class) (case_text r class class) [] in
    let items = ap (λ (ns : List ℕ). own ++ flat_map (case_text r class) (filter (is_a_test r) ns)) (sym c.children-child-items.ensures) in
    left_next (cases-apart r class ∙ items) (left_whole c.args.printer.now (flat_map (case_text r class) (cases r class))) c.in_ok-own_case.ensures

pub returns-in_err-test_case : goal.returns-in_err-test_case
returns-in_err-test_case g c =
    let r = run_of c.args.run.now in
    let p = err_from_is_err_and c.from_residual-in_err-test_case.result c.from_residual-in_err-test_case.ensures.1 in
    let next = texts-next (case_text r c.args.class) (is_a_test r) c.children-child-items.result.now c.children.child-index 0 c.children-test.true in
    rw p.1 (left_cut _ _ p.0 next c.children.invariant c.in_err-test_case.ensures)

pub children-preserved : goal.children-preserved
children-preserved g c =
    let r = run_of c.args.run.now in
    let next = texts-next (case_text r c.args.class) (is_a_test r) c.children-child-items.result.now c.children.child-index 0 c.children-test.true in
    left_next next c.children.invariant c.in_ok-test_case.ensures

pub returns : goal.returns
returns g c =
    let r = run_of c.args.run.now in
    let all = at_drop_all (λ (ns : List ℕ). flat_map (case_text r c.args.class) (filter (is_a_test r) ns)) c.children-child-items.result.now c.children.child-index c.children-test.false in
    left_end (rw all at c.children.invariant)

pub test_case-requires-clause-above : goal.test_case-requires-clause-above
test_case-requires-clause-above g c =
    let r = run_of c.args.run.now in
    let is = child-within r.tree c.args.class c.children.child-index c.children-child-items.result.now c.nodes_are_a_tree.ensures c.children-child-items.ensures c.children-test.true in
    is.0

pub test_case-requires-clause-within : goal.test_case-requires-clause-within
test_case-requires-clause-within g c =
    let r = run_of c.args.run.now in
    let is = child-within r.tree c.args.class c.children.child-index c.children-child-items.result.now c.nodes_are_a_tree.ensures c.children-child-items.ensures c.children-test.true in
    is.1
