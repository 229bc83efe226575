use Rattle.std.proofs.Common.{◌≡◌, ◌<◌, List, ℕ, Ok, false, ◌++◌, codes, flat_map, length, get_or, sym, ap, ◌∙◌, append_assoc, arith}
use Rattle.std.proofs.lemmas.List.{at_drop_all}
use Rattle.std.proofs.lemmas.Result.{err_from_is_err_and}
use Rattle.iso_html.proofs.TreeLemmas.{text-down, texts-next}
use Rattle.iso_html.specs.Trees.{inside_text, list_text, node_text}
use Rattle.iso_junit.specs.Runs.{run_of}
use Rattle.iso_plan.specs.Paths.{children, is_test, row_at}
use Rattle.iso_plan.specs.RowView.{tree_of}
use Rattle.iso_tap.proofs.PrinterLemmas.{left_cut, left_last, left_next, left_whole, prints_as, prints_cut, prints_stopped, prints_then}
use Rattle.iso_tap.proofs.ReportLemmas.{child-at}
use Rattle.iso_tap.proofs.Within.{IsChild}
use Rattle.iso_html.proofs.tree.+lists.Goals as goal

pub list-tree_node-requires : goal.list-tree_node-requires
list-tree_node-requires g t c κs known =
    let tree = tree_of c.args.run.now.plan.now in
    let child = get_or c.children-child-items.result.now c.children.child-index 0 in
    let all = c.children-child-items.ensures in
    let here : c.children.child-index < length (children tree c.args.node) = rw (sym all) c.children-test.true in
    let is : IsChild tree c.args.node child = rw all (child-at tree c.args.node c.children.child-index 0 c.nodes_are_a_tree.ensures here) in
    let within : child < length c.args.run.now.plan.now.rows = is.2 in
    let after = is.1 in
    let measure = c.decreases in
    (omega arith, (known, (c.requires.complete, (is.0, within))))

pub list-returns-in_err-bytes : goal.list-returns-in_err-bytes
list-returns-in_err-bytes g t c =
    let r = run_of c.args.run.now in
    let s = c.args.run.now.plan.now.settings in
    prints_stopped (codes "</ul>\n") _ c.from_residual.ensures.0 (prints_cut (flat_map (node_text r s) (children r.tree c.args.node)) _ _ c.in_err-bytes.ensures)

pub list-children-init : goal.list-children-init
list-children-init g t c =
    let r = run_of c.args.run.now in
    let s = c.args.run.now.plan.now.settings in
    let ns = children r.tree c.args.node in
    let text = flat_map (node_text r s) in
    let items = ap (λ (ns : List ℕ). codes "<ul>\n" ++ (text ns ++ codes "</ul>\n")) (sym c.children-child-items.ensures) in
    left_next (append_assoc (codes "<ul>\n") (text ns) (codes "</ul>\n") ∙ items) (left_whole c.args.printer.now (list_text (node_text r s) ns)) c.in_ok-bytes.ensures

pub list-returns-in_err-tree_node : goal.list-returns-in_err-tree_node
list-returns-in_err-tree_node g t c =
    let r = run_of c.args.run.now in
    let s = c.args.run.now.plan.now.settings in
    let p = err_from_is_err_and c.from_residual-in_err-tree_node.result c.from_residual-in_err-tree_node.ensures.1 in
    let next = texts-next (node_text r s) (codes "</ul>\n") c.children-child-items.result.now c.children.child-index 0 c.children-test.true in
    rw p.1 (left_cut _ _ p.0 next c.children.invariant c.in_err-tree_node.ensures)

pub list-children-preserved : goal.list-children-preserved
list-children-preserved g t c =
    let r = run_of c.args.run.now in
    let s = c.args.run.now.plan.now.settings in
    let next = texts-next (node_text r s) (codes "</ul>\n") c.children-child-items.result.now c.children.child-index 0 c.children-test.true in
    left_next next c.children.invariant c.in_ok-tree_node.ensures

pub list-returns : goal.list-returns
list-returns g t c =
    let r = run_of c.args.run.now in
    let s = c.args.run.now.plan.now.settings in
    let all = at_drop_all (λ (ns : List ℕ). flat_map (node_text r s) ns ++ codes "</ul>\n") c.children-child-items.result.now c.children.child-index c.children-test.false in
    left_last c.bytes-2.result (rw all at c.children.invariant) c.bytes-2.ensures

pub tree_node-returns-in_err-opening : goal.tree_node-returns-in_err-opening
tree_node-returns-in_err-opening g t c =
    let r = run_of c.args.run.now in
    let s = c.args.run.now.plan.now.settings in
    let n = c.args.node in
    let within : n < length r.tree = c.requires.within in
    prints_as (prints_stopped (codes "</details></li>\n") _ c.from_residual.ensures.0 (prints_cut (inside_text r (node_text r s) n) _ _ c.in_err-opening.ensures)) _
    (sym (text-down r s c.nodes_are_a_tree.ensures n c.requires.above within))

pub tree_node-returns-in_err-inside : goal.tree_node-returns-in_err-inside
tree_node-returns-in_err-inside g t c =
    let r = run_of c.args.run.now in
    let s = c.args.run.now.plan.now.settings in
    let n = c.args.node in
    let within : n < length r.tree = c.requires.within in
    prints_as (prints_stopped (codes "</details></li>\n") _ c.from_residual-in_err-inside.ensures.0 (prints_then _ c.in_ok-opening.ensures c.in_err-inside.ensures)) _
    (sym (text-down r s c.nodes_are_a_tree.ensures n c.requires.above within))

pub tree_node-returns : goal.tree_node-returns
tree_node-returns g t c =
    let r = run_of c.args.run.now in
    let s = c.args.run.now.plan.now.settings in
    let n = c.args.node in
    let within : n < length r.tree = c.requires.within in
    prints_as (prints_then _ (prints_then (Ok tt) c.in_ok-opening.ensures c.in_ok-inside.ensures) c.bytes.ensures) _
    (sym (text-down r s c.nodes_are_a_tree.ensures n c.requires.above within))

pub inside-returns : goal.inside-returns
inside-returns g t c =
    let class : is_test (row_at (tree_of c.args.run.now.plan.now) c.args.node).kind ≡ false = sym c.is_test.ensures ∙ c.if-is_test.false in
    rw class c.list.ensures
