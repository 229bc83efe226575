use Rattle.std.proofs.Common.{◌≡◌, ap, ap₂, ◌∙◌}
use Rattle.iso_lifecycle.proofs.WholeBodies.{stands-first}
use Rattle.iso_lifecycle.specs.BodyViews.{stage_of_body}
use Rattle.iso_lifecycle.specs.Subjects.{Subject, begun, subject}
use Rattle.iso_lifecycle.specs.declared.kind.BodyKind.{BodyKind}
use Rattle.iso_locks.specs.Trays.{content}
use Rattle.iso_plan.specs.Planned.{Planned}
use Rattle.iso_settings.specs.Worlds.{Start}
use Rattle.iso_floor.proofs.worker.Worker.perform.Goals as goal

stages : (k : BodyKind) (s t : Subject) → s ≡ t → (begun k s).stage ≡ (begun k t).stage
stages k s t e = ap (λ (u : Subject). (begun k u).stage) e

pub run-requires-clause-stands : goal.run-requires-clause-stands
run-requires-clause-stands g c =
    let n = c.args.node in
    let k = c.args.kind in
    let b = c.in_ok-body.body in
    let s : Subject = subject g.G.Ground.plan g.G.Ground.start n in
    let started : subject c.plan.result.now c.of-start.result.value n ≡ s = ap₂ (λ (p : Planned) (w : Start). subject p w n) c.plan.ensures (c.of-start.ensures ∙ c.world.ensures) in
    let stage : stage_of_body b ≡ (begun k s).stage = c.in_ok-body.ensures.begun ∙ stages k (subject c.plan.result.now c.of-start.result.value n) s started in
    stands-first b k s (content c.args.seat.now.tray) (c.in_ok-body.ensures.subject ∙ started) c.in_ok-body.ensures.kind stage c.requires.ready.stands
