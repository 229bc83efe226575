use Rattle.std.proofs.Common.{◌++◌, codes, sym, ap, ◌∙◌}
use Rattle.std.proofs.lemmas.Result.{err_from_is_err_and}
use Rattle.iso_junit.proofs.PathLemmas.{escaped-inside}
use Rattle.iso_junit.specs.Escapes.{escaped}
use Rattle.iso_plan.specs.Paths.{row_at}
use Rattle.iso_plan.specs.RowView.{tree_of}
use Rattle.iso_tap.proofs.PlanLemmas.{parent-is}
use Rattle.iso_tap.proofs.PrinterLemmas.{prints_as, prints_cut, prints_then}
use Rattle.iso_junit.proofs.path.+path.Goals as goal

pub returns-in_err-path-in-Some : goal.returns-in_err-path-in-Some
returns-in_err-path-in-Some g t c =
    let tree = tree_of c.args.plan.now in
    let n = c.args.node in
    let class = c.in-Some.class in
    let is = parent-is tree n class c.requires.above c.in-Some.ensures in
    let text = escaped-inside tree c.parents_come_first.ensures n class c.requires.above is c.if-class-gt0.true in
    let p = err_from_is_err_and c.from_residual.result c.from_residual.ensures.1 in
    rw p.1 (prints_as (prints_cut (codes "." ++ escaped (row_at tree n).name) _ p.0 c.in_err-path-in-Some.ensures) _ (sym text))

pub returns-in_err-bytes-in-Some : goal.returns-in_err-bytes-in-Some
returns-in_err-bytes-in-Some g t c =
    let tree = tree_of c.args.plan.now in
    let n = c.args.node in
    let class = c.in-Some.class in
    let is = parent-is tree n class c.requires.above c.in-Some.ensures in
    let text = escaped-inside tree c.parents_come_first.ensures n class c.requires.above is c.if-class-gt0.true in
    let r = c.from_residual-in_err-bytes-in-Some in
    let p = err_from_is_err_and r.result r.ensures.1 in
    rw p.1
    (prints_as (prints_then _ c.in_ok-path-in-Some.ensures (prints_cut (escaped (row_at tree n).name) _ p.0 c.in_err-bytes-in-Some.ensures)) _ (sym text))

pub returns-in_ok-bytes-in-Some : goal.returns-in_ok-bytes-in-Some
returns-in_ok-bytes-in-Some g t c =
    let tree = tree_of c.args.plan.now in
    let n = c.args.node in
    let class = c.in-Some.class in
    let is = parent-is tree n class c.requires.above c.in-Some.ensures in
    let text = escaped-inside tree c.parents_come_first.ensures n class c.requires.above is c.if-class-gt0.true in
    let name = prints_as c.escaped.ensures (escaped (row_at tree n).name) (ap escaped (c.as_bytes-name.ensures.value ∙ c.name.ensures)) in
    prints_as (prints_then _ c.in_ok-path-in-Some.ensures (prints_then _ c.in_ok-bytes-in-Some.ensures name)) _ (sym text)
