use Rattle.std.proofs.Common.{◌++◌, List, ℕ, codes, sym, ap, ◌∙◌, append-nil}
use Rattle.std.proofs.lemmas.Result.{err_from_is_err_and}
use Rattle.iso_plan.specs.Paths.{row_at}
use Rattle.iso_plan.specs.RowView.{tree_of}
use Rattle.iso_tap.proofs.PlanLemmas.{parent-is, path-inside}
use Rattle.iso_tap.proofs.PrinterLemmas.{prints_as, prints_then, prints_cut}
use Rattle.iso_tap.proofs.printer.Printer.+path.Goals as goal

pub returns-in_err-path-in-Some : goal.returns-in_err-path-in-Some
returns-in_err-path-in-Some g t c =
    let tree = tree_of c.args.plan.now in
    let n = c.args.node in
    let class = c.in-Some.class in
    let is = parent-is tree n class c.requires.above c.in-Some.ensures in
    let text = path-inside tree c.parents_come_first.ensures n class c.requires.above is c.if-class-gt0.true in
    let p = err_from_is_err_and c.from_residual.result c.from_residual.ensures.1 in
    rw p.1 (prints_as (prints_cut (codes "." ++ (row_at tree n).name) _ p.0 c.in_err-path-in-Some.ensures) _ (sym text))

pub returns-in_ok-path-in-Some : goal.returns-in_ok-path-in-Some
returns-in_ok-path-in-Some g t c =
    let tree = tree_of c.args.plan.now in
    let n = c.args.node in
    let class = c.in-Some.class in
    let is = parent-is tree n class c.requires.above c.in-Some.ensures in
    let text = path-inside tree c.parents_come_first.ensures n class c.requires.above is c.if-class-gt0.true in
    let name = ap (λ (t : List ℕ). codes "." ++ t) (append-nil c.as_bytes-name.result.now ∙ c.as_bytes-name.ensures.value ∙ c.name.ensures) in
    let last = prints_as c.pieces.ensures (codes "." ++ (row_at tree n).name) name in
    prints_as (prints_then c.pieces.result c.in_ok-path-in-Some.ensures last) _ (sym text)
