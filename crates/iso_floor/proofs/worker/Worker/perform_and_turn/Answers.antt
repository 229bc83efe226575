use Rattle.std.proofs.Common.{◌≡◌, ap, sym, ◌∙◌, subst}
use Rattle.iso_lifecycle.specs.DoneViews.{DoneView}
use Rattle.iso_floor.proofs.FreeTrays.{brings-nothing, left-free, still-free}
use Rattle.iso_floor.proofs.Outcomes.{if-ok}
use Rattle.iso_floor.specs.Workers.{IsFree}
use Rattle.iso_floor.proofs.worker.Worker.perform_and_turn.Goals as goal

pub leave_and_turn-requires : goal.leave_and_turn-requires
leave_and_turn-requires g c =
    let d = c.in_ok-done.done in
    let u = c.perform.new.seat.tray in
    let ground = c.tray-tray.ensures.ground in
    let after = c.in_ok-done.ensures.after in
    brings-nothing d u
    (ap (λ (x : DoneView). x.subject.plan) c.in_ok-done.ensures.done ∙ sym (after.plan_is ∙ ground.plan_is))
    (ap (λ (x : DoneView). x.subject.start) c.in_ok-done.ensures.done ∙ sym (after.world_is ∙ ground.world_is)) (still-free c.args.seat.now.tray u c.requires.free after.onward)

pub returns : goal.returns
returns g c =
    let d = c.in_ok-done.done in
    let u = c.perform.new.seat.tray in
    let free = still-free c.args.seat.now.tray u c.requires.free c.in_ok-done.ensures.after.onward in
    if-ok c.leave_and_turn.result c.leave_and_turn.ensures
    (λ next n. record { before = n.left; free = subst IsFree (sym n.tray) (left-free d.kind d.subject.node u free); found = n.found })
