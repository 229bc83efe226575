use Rattle.std.proofs.Common.{◌≡◌, ◌<◌, ◌-◌, suc, length, arith, sym}
use Rattle.iso_floor.proofs.Begun.{begun_enter, begun_shut}
use Rattle.iso_floor.proofs.audit.last_begun_by.Goals as goal

pub returns-in-Enter : goal.returns-in-Enter
returns-in-Enter c =
    let lt : c.loop-end.end - 1 < length c.args.events.now = omega arith in
    let e : suc (c.loop-end.end - 1) ≡ c.loop-end.end = omega arith in
    sym (begun_enter c.args.worker c.in-Enter.w c.in-Enter.node (c.loop-end.end - 1) c.args.events.now _ lt c.in-Enter.is c.if-w-worker.true (rw e c.loop-end.invariant.none_after))

pub returns-in-Shut : goal.returns-in-Shut
returns-in-Shut c =
    let lt : c.loop-end.end - 1 < length c.args.events.now = omega arith in
    let e : suc (c.loop-end.end - 1) ≡ c.loop-end.end = omega arith in
    sym (begun_shut c.args.worker c.in-Shut.w c.in-Shut.node (c.loop-end.end - 1) c.args.events.now _ lt c.in-Shut.is c.if-w-worker-2.true (rw e c.loop-end.invariant.none_after))
