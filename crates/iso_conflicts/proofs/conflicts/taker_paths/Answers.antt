use Rattle.std.proofs.Common.{◌<◌, ◌+◌, ◌-◌, ◌++◌, ℕ, List, codes, filter, length, ap, ◌∙◌, arith}
use Rattle.std.proofs.lemmas.Result.{err_from_is_err_and}
use Rattle.std.specs.List.{flat_map, range_with_len}
use Rattle.iso_conflicts.proofs.RangeLemmas.{range-next, texts-next}
use Rattle.iso_conflicts.specs.Takers.{takes}
use Rattle.iso_plan.specs.PathTexts.{path_text}
use Rattle.iso_plan.specs.RowView.{tree_of}
use Rattle.iso_tap.proofs.PrinterLemmas.{left_cut, left_next}
use Rattle.iso_conflicts.proofs.conflicts.taker_paths.Goals as goal

pub returns-in_err-taker_path : goal.returns-in_err-taker_path
returns-in_err-taker_path g c =
    let plan = c.args.plan.now in
    let tree = tree_of plan in
    let here : c.nodes.node < length plan.rows = omega arith in
    let p = takes tree c.args.access c.args.key in
    let text : ℕ → List ℕ = λ n. codes " " ++ path_text tree n in
    let next = ap (λ ns. flat_map text (filter p ns)) (range-next (length plan.rows) c.nodes.node here)
    ∙ texts-next p text c.nodes.node (range_with_len (c.nodes.node + 1) (length plan.rows - (c.nodes.node + 1))) in
    let e = err_from_is_err_and c.from_residual.result c.from_residual.ensures.1 in
    rw e.1 (left_cut _ _ e.0 next c.nodes.invariant c.in_err-taker_path.ensures)

pub nodes-preserved : goal.nodes-preserved
nodes-preserved g c =
    let plan = c.args.plan.now in
    let tree = tree_of plan in
    let here : c.nodes.node < length plan.rows = omega arith in
    let p = takes tree c.args.access c.args.key in
    let text : ℕ → List ℕ = λ n. codes " " ++ path_text tree n in
    let next = ap (λ ns. flat_map text (filter p ns)) (range-next (length plan.rows) c.nodes.node here)
    ∙ texts-next p text c.nodes.node (range_with_len (c.nodes.node + 1) (length plan.rows - (c.nodes.node + 1))) in
    left_next next c.nodes.invariant c.in_ok-taker_path.ensures
