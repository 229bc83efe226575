use Rattle.std.proofs.Common.{◌<◌, ◌+◌, drop, get_or, length, ap, ◌∙◌}
use Rattle.std.proofs.lemmas.Result.{err_from_is_err_and}
use Rattle.std.specs.List.{flat_map}
use Rattle.iso_model.specs.declared.access.Access.TheVariants.{Read}
use Rattle.iso_plan.specs.Locks.{locks}
use Rattle.iso_plan.specs.RowView.{tree_of}
use Rattle.iso_plan.specs.declared.lock.Lock.{Lock}
use Rattle.iso_tap.proofs.PlanLemmas.{lock-within}
use Rattle.iso_tap.proofs.PrinterLemmas.{drop_next, left_cut, left_next, prints_as}
use Rattle.iso_why.specs.WhyText.{lock_line}
use Rattle.iso_why.proofs.lines.lock_lines.Goals as goal

abbrev none : Lock
none = record { key = 0; access = Read }

pub lock_line-requires-clause-key : goal.lock_line-requires-clause-key
lock_line-requires-clause-key g c =
    let tree = tree_of c.args.plan.now in
    let here : c.locks.lock-index < length (locks tree c.args.node) = rw c.locks-lock-items.ensures.locks at c.locks-test.true in
    rw c.locks-lock-items.ensures.locks (lock-within tree c.args.node c.locks.lock-index none here)

pub returns-in_err-lock_line : goal.returns-in_err-lock_line
returns-in_err-lock_line g c =
    let tree = tree_of c.args.plan.now in
    let ls = locks tree c.args.node in
    let i = c.locks.lock-index in
    let line = lock_line tree c.args.node in
    let here : i < length ls = rw c.locks-lock-items.ensures.locks at c.locks-test.true in
    let next = ap (flat_map line) (drop_next ls i none here) in
    let told = prints_as c.in_err-lock_line.ensures (line (get_or ls i none)) (ap (λ xs. line (get_or xs i none)) c.locks-lock-items.ensures.locks) in
    let p = err_from_is_err_and c.from_residual.result c.from_residual.ensures.1 in
    rw p.1 (left_cut _ _ p.0 next c.locks.invariant told)

pub locks-preserved : goal.locks-preserved
locks-preserved g c =
    let tree = tree_of c.args.plan.now in
    let ls = locks tree c.args.node in
    let i = c.locks.lock-index in
    let line = lock_line tree c.args.node in
    let here : i < length ls = rw c.locks-lock-items.ensures.locks at c.locks-test.true in
    let next = ap (flat_map line) (drop_next ls i none here) in
    let told = prints_as c.in_ok-lock_line.ensures (line (get_or ls i none)) (ap (λ xs. line (get_or xs i none)) c.locks-lock-items.ensures.locks) in
    left_next next c.locks.invariant told
