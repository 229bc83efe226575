use Rattle.std.proofs.Common.{◌≡◌, ◌<◌, ◌≤◌, ◌+◌, ◌++◌, [], ◌∷◌, Ok, List, ℕ, codes, length, sym, ap, ◌∙◌, arith}
use Rattle.std.proofs.lemmas.Result.{err_from_is_err_and}
use Rattle.iso_plan.specs.PathTexts.{path_text}
use Rattle.iso_plan.specs.RowView.{tree_of}
use Rattle.iso_tap.proofs.PrinterLemmas.{left_cut, left_end, left_next, prints_cut, prints_nothing, prints_then}
use Rattle.iso_why.proofs.GiverLemmas.{givers-are, is_giver, paths-separated, separated}
use Rattle.iso_why.specs.Givers.{givers}
use Rattle.iso_why.specs.Next.{passing}
use Rattle.iso_why.proofs.lines.givers.Goals as goal

pub givers-init : goal.givers-init
givers-init g c =
    let plan = c.args.plan.now in
    let tree = tree_of plan in
    let n = c.args.node in
    let inside : n ≤ length plan.rows = let h = c.requires.within in omega arith in
    let e = c.end_of-end.ensures in
    let are = givers-are tree c.parents_come_first.ensures n c.args.lock c.end_of-end.result inside e.within e.past in
    record {
      above = c.requires.above;
      left = record { done = []; split = paths-separated tree (givers tree n c.args.lock) ∙ ap (separated tree []) are; printed = prints_nothing c.args.printer.now };
    }

pub givers-preserved : goal.givers-preserved
givers-preserved g c =
    let tree = tree_of c.args.plan.now in
    let next = ap (separated tree c.givers.separator.now) c.in-Some.ensures.2 in
    record {
      above = omega arith;
      left = left_next next c.givers.invariant.left (prints_then (Ok tt) c.in_ok-bytes.ensures c.in_ok-path.ensures);
    }

pub returns-in_err-bytes : goal.returns-in_err-bytes
returns-in_err-bytes g c =
    let tree = tree_of c.args.plan.now in
    let next = ap (separated tree c.givers.separator.now) c.in-Some.ensures.2 in
    let p = err_from_is_err_and c.from_residual.result c.from_residual.ensures.1 in
    rw p.1 (left_cut _ _ p.0 next c.givers.invariant.left (prints_cut (path_text tree c.in-Some.giver) _ _ c.in_err-bytes.ensures))

pub returns-in_err-path : goal.returns-in_err-path
returns-in_err-path g c =
    let tree = tree_of c.args.plan.now in
    let next = ap (separated tree c.givers.separator.now) c.in-Some.ensures.2 in
    let p = err_from_is_err_and c.from_residual-in_err-path.result c.from_residual-in_err-path.ensures.1 in
    rw p.1 (left_cut _ _ p.0 next c.givers.invariant.left (prints_then _ c.in_ok-bytes.ensures c.in_err-path.ensures))

pub returns : goal.returns
returns g c =
    let none = ap (separated (tree_of c.args.plan.now) c.givers.separator.now) c.in_default.ensures in
    left_end (rw none at c.givers.invariant.left)
