use Rattle.std.proofs.Common.{List, sym, subst, ◌∙◌}
use Rattle.iso_lifecycle.specs.Subjects.{Subject, subject}
use Rattle.iso_lifecycle.specs.WholeBodies.{CanBegin}
use Rattle.iso_lifecycle.specs.declared.kind.BodyKind.TheVariants.{BeforeAll}
use Rattle.iso_locks.specs.Trays.{TrayView}
use Rattle.iso_plan.specs.Planned.{Planned}
use Rattle.iso_settings.specs.Worlds.{Start}
use Rattle.iso_floor_tests.proofs.by_hand.opening.Goals as goal

pub begin-requires : goal.begin-requires
begin-requires g c =
    let t : TrayView = c.args.tray.now in
    let n = c.args.class in
    let F : List Subject → Type 0 = λ fs. CanBegin (subject t.plan t.world n) BeforeAll fs in
    let W : Start → Type 0 = λ w. CanBegin (subject t.plan w n) BeforeAll c.frames-frames.result.now in
    let P : Planned → Type 0 = λ p. CanBegin (subject p c.of-start.result.value n) BeforeAll c.frames-frames.result.now in
    subst P (sym c.plan-plan.ensures) (subst W (sym (c.of-start.ensures ∙ c.world.ensures)) (subst F (sym c.frames-frames.ensures) c.requires))
