use Rattle.std.proofs.Common.{◌≡◌, ap, sym, ◌∙◌, subst}
use Rattle.iso_book.specs.Leaves.{after_leave}
use Rattle.iso_lifecycle.specs.DoneViews.{DoneView}
use Rattle.iso_locks.specs.Trays.{GoesOn, TrayView}
use Rattle.iso_serial.proofs.NodeLemmas.{on-one}
use Rattle.iso_floor.proofs.NodeTrays.{brings-opening, opened, opening-can}
use Rattle.iso_floor.specs.Workers.{IsInside}
use Rattle.iso_floor.proofs.worker.Worker.open.Goals as goal

pub perform-requires : goal.perform-requires
perform-requires g c = opening-can g.G.Ground.plan g.G.Ground.start c.args.class c.args.seat.now.tray c.requires.entry c.requires.class

pub leave-requires : goal.leave-requires
leave-requires g c =
    let after = c.in_ok-done.ensures.after in
    let h = c.requires.entry.tray.holds in
    brings-opening g.G.Ground.plan g.G.Ground.start c.args.class c.in_ok-done.done c.perform.new.seat.tray c.in_ok-done.ensures.done (after.plan_is ∙ h.plan_is) (after.world_is ∙ h.world_is)

pub returns-clause-inside : goal.returns-clause-inside
returns-clause-inside g c =
    let plan = g.G.Ground.plan in
    let start = g.G.Ground.start in
    let t = c.perform.new.seat.tray in
    on-one c.leave.result c.leave.ensures (λ (e : c.leave.new.seat.tray ≡ after_leave c.in_ok-done.done.kind c.in_ok-done.done.subject.node t).
    let same : c.leave.new.seat.tray ≡ t = e ∙ ap (λ (d : DoneView). after_leave d.kind d.subject.node t) c.in_ok-done.ensures.done in
    subst (λ (x : TrayView). IsInside plan start c.args.class x) (sym same) (opened plan start c.args.class c.args.seat.now.tray t c.requires.entry c.requires.class c.in_ok-done.ensures.after))

pub returns-clause-further : goal.returns-clause-further
returns-clause-further g c =
    let t = c.perform.new.seat.tray in
    on-one c.leave.result c.leave.ensures (λ (e : c.leave.new.seat.tray ≡ after_leave c.in_ok-done.done.kind c.in_ok-done.done.subject.node t).
    let same : c.leave.new.seat.tray ≡ t = e ∙ ap (λ (d : DoneView). after_leave d.kind d.subject.node t) c.in_ok-done.ensures.done in
    subst (λ (x : TrayView). GoesOn c.args.seat.now.tray x) (sym same) c.in_ok-done.ensures.after.onward)
