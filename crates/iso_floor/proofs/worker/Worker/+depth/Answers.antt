use Rattle.std.proofs.Common.{◌≡◌, ℕ, ◌<◌, length, get_or, ap, sym, ◌∙◌, subst, arith}
use Rattle.iso_book.specs.Turns.{IsEntered, handed}
use Rattle.iso_locks.specs.Onward.{on-further, on-still}
use Rattle.iso_locks.specs.Trays.{GoesOn}
use Rattle.iso_plan.specs.Paths.{children, parent}
use Rattle.iso_plan.specs.Planned.{Planned}
use Rattle.iso_plan.specs.RowView.{tree_of}
use Rattle.iso_serial.proofs.NodeLemmas.{child-at, on-one}
use Rattle.iso_floor.proofs.NodeTrays.{entry-of, further-handed, left, left-further, may-bring, may-undo, stands-handed}
use Rattle.iso_floor.specs.Seats.{SeatView}
use Rattle.iso_floor.specs.Workers.{IsInside}
use Rattle.iso_settings.specs.Worlds.{Start}
use Rattle.iso_floor.proofs.worker.Worker.+depth.Goals as goal

pub children-node-requires : goal.children-node-requires
children-node-requires g t c κs inside =
    let plan : Planned = g.G.Ground.plan in
    let start : Start = g.G.Ground.start in
    let listed = c.children-child-items.ensures ∙ ap (λ (p : Planned). children (tree_of p) c.args.class) c.plan.ensures in
    let child = child-at plan start c.args.class c.children.child-index c.children-child-items.result.now listed c.children-test.true in
    let n = get_or c.children-child-items.result.now c.children.child-index 0 in
    let within : n < length plan.rows = child.within in
    let below : parent (tree_of plan) n < n = c.requires.tree.below n child.positive in
    let less : c.args.class < n = subst (λ (j : ℕ). j < n) child.parent_is below in (
      omega (arith, c.decreases, less, within),
      (
        inside.0,
        (
          inside.1.0,
          (
            inside.1.1,
            (child.positive, (within, subst (λ (j : ℕ). IsInside plan start j c.children.seat.tray) (sym child.parent_is) c.children.invariant.inside)),
          ),
        ),
      ),
    )

pub children-children-preserved : goal.children-children-preserved
children-children-preserved g t c =
    let plan : Planned = g.G.Ground.plan in
    let start : Start = g.G.Ground.start in
    let listed = c.children-child-items.ensures ∙ ap (λ (p : Planned). children (tree_of p) c.args.class) c.plan.ensures in
    let child = child-at plan start c.args.class c.children.child-index c.children-child-items.result.now listed c.children-test.true in
    record {
      inside = subst (λ (j : ℕ). IsInside plan start j c.node.new.seat.tray) child.parent_is c.in_ok-node.ensures.inside;
      further = on-further c.args.seat.now.tray c.children.seat.tray c.node.new.seat.tray c.children.invariant.further c.in_ok-node.ensures.further;
    }

pub class-returns-clause-further : goal.class-returns-clause-further
class-returns-clause-further g t c =
    on-one c.close.result c.close.ensures.further
    (λ last. on-further c.args.seat.now.tray c.open.new.seat.tray c.close.new.seat.tray c.in_ok-open.ensures.further
    (on-further c.open.new.seat.tray c.children.new.seat.tray c.close.new.seat.tray c.in_ok-children.ensures.further last))

pub finish-undo-requires : goal.finish-undo-requires
finish-undo-requires g t c =
    may-undo g.G.Ground.plan g.G.Ground.start c.args.node c.args.seat.now.tray c.bodies.new.seat.tray c.requires c.in_ok-last.ensures.apart c.in_ok-last.ensures.further c.in_ok-mark.mark
    c.in_ok-mark.ensures

pub finish-leave-requires : goal.finish-leave-requires
finish-leave-requires g t c =
    may-bring g.G.Ground.plan g.G.Ground.start c.args.node c.args.seat.now.tray c.bodies.new.seat.tray c.requires c.in_ok-last.ensures.apart c.in_ok-last.ensures.further
    c.in_ok-mark.mark c.undo.new.self.tray c.in_ok-last.last c.in_ok-mark.ensures (ap (λ (s : SeatView). s.tray) c.undo.ensures) c.in_ok-last.ensures.last

pub finish-returns-clause-inside : goal.finish-returns-clause-inside
finish-returns-clause-inside g t c =
    on-one c.leave.result c.leave.ensures (λ e. left g.G.Ground.plan g.G.Ground.start c.args.node c.args.seat.now.tray c.bodies.new.seat.tray c.requires c.in_ok-last.ensures.apart
    c.in_ok-last.ensures.further
    c.in_ok-mark.mark c.undo.new.self.tray c.leave.new.seat.tray c.in_ok-last.last c.in_ok-mark.ensures (ap (λ (s : SeatView). s.tray) c.undo.ensures) c.in_ok-last.ensures.last e)

pub finish-returns-clause-further : goal.finish-returns-clause-further
finish-returns-clause-further g t c =
    on-one c.leave.result c.leave.ensures (λ e. left-further g.G.Ground.plan g.G.Ground.start c.args.node c.args.seat.now.tray c.bodies.new.seat.tray c.requires c.in_ok-last.ensures.apart
    c.in_ok-last.ensures.further
    c.in_ok-mark.mark c.undo.new.self.tray c.leave.new.seat.tray c.in_ok-last.last c.in_ok-mark.ensures (ap (λ (s : SeatView). s.tray) c.undo.ensures) c.in_ok-last.ensures.last e)

pub node-finish-requires : goal.node-finish-requires
node-finish-requires g t c κs inside =
    let i = c.requires.inside in
    let e : IsEntered c.args.node c.args.seat.now.tray c.enter.new.seat.tray = c.in-Ok.ensures.entered in (
      omega (arith, c.decreases),
      (inside.0, (inside.1.0, (inside.1.1, entry-of g.G.Ground.plan g.G.Ground.start c.args.node c.args.seat.now.tray c.enter.new.seat.tray i.tree c.requires.positive c.requires.within i.tray e))),
    )

pub node-returns-in-Ok-clause-further : goal.node-returns-in-Ok-clause-further
node-returns-in-Ok-clause-further g t c =
    let plan : Planned = g.G.Ground.plan in
    let p = parent (tree_of plan) c.args.node in
    let old = c.args.seat.now.tray in
    let new = c.finish.new.seat.tray in
    let e : IsEntered c.args.node old c.enter.new.seat.tray = c.in-Ok.ensures.entered in
    let fs = (handed old (parent (tree_of old.plan) c.args.node)).frames in
    on-one c.finish.result c.finish.ensures.further
    (λ further. further-handed old new fs (further (record old { frames = fs }) (stands-handed plan g.G.Ground.start p p old fs c.requires.inside.tray) e.lent))

pub node-returns-in-Over-clause-further : goal.node-returns-in-Over-clause-further
node-returns-in-Over-clause-further g t c =
    let same : c.enter.new.seat ≡ c.args.seat.now = c.in-Err-Refused.ensures.same in
    subst (λ (s : SeatView). GoesOn c.args.seat.now.tray s.tray) (sym same) (on-still c.args.seat.now.tray)
