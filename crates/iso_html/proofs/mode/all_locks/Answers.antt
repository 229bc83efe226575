use Rattle.std.proofs.Common.{List, ap, flat_map}
use Rattle.std.proofs.lemmas.Result.{err_from_is_err_and}
use Rattle.iso_html.specs.Modes.{lock_text}
use Rattle.iso_plan.specs.RowView.{tree_of}
use Rattle.iso_plan.specs.declared.lock.Lock.{Lock}
use Rattle.iso_tap.proofs.PrinterLemmas.{drop_next, left_cut, left_next}
use Rattle.iso_html.proofs.mode.all_locks.Goals as goal

pub returns-in_err-write_lock : goal.returns-in_err-write_lock
returns-in_err-write_lock g c =
    let p = err_from_is_err_and c.from_residual.result c.from_residual.ensures.1 in
    let next = ap (λ (ls : List Lock). flat_map (lock_text (tree_of c.args.plan.now)) ls) (drop_next c.args.locks.now c.loop-lock.lock-index _ c.loop-lock-test.true) in
    rw p.1 (left_cut _ _ p.0 next c.loop-lock.invariant c.in_err-write_lock.ensures)

pub loop-lock-preserved : goal.loop-lock-preserved
loop-lock-preserved g c =
    let next = ap (λ (ls : List Lock). flat_map (lock_text (tree_of c.args.plan.now)) ls) (drop_next c.args.locks.now c.loop-lock.lock-index _ c.loop-lock-test.true) in
    left_next next c.loop-lock.invariant c.in_ok-write_lock.ensures
