use Rattle.std.proofs.Common.{◌≡◌, true, sym, ap, ◌∙◌, subst}
use Rattle.iso_core.proofs.CoreValues.{flat-first, flat-last}
use Rattle.iso_standing.specs.UnderWay.{is_after_all}
use Rattle.iso_isolation.proofs.Statuses.{body_held}
use Rattle.iso_lifecycle.specs.Subjects.{is_kind_of}
use Rattle.iso_lifecycle.specs.declared.kind.BodyKind.{BodyKind}
use Rattle.iso_plan.specs.Paths.{row_at}
use Rattle.iso_plan.specs.RowView.{tree_of}
use Rattle.iso_core.proofs.machine.leave_values.Goals as goal

pub returns-in-BeforeAll-clause-state : goal.returns-in-BeforeAll-clause-state
returns-in-BeforeAll-clause-state c = λ s b is here same.
    let v = c.args.flat.now in
    let n = c.args.node in
    flat-first v.tray.plan v.tray.world v n s b (subst (λ (k : BodyKind). is_kind_of k (row_at (tree_of v.tray.plan) n).kind ≡ true) c.in-BeforeAll.is c.requires.fits) is
    (body_held (s.status n) b here) (s.status n) here (ap is_after_all (sym c.in-BeforeAll.is) ∙ same)

pub returns-in-Test-clause-state : goal.returns-in-Test-clause-state
returns-in-Test-clause-state c = λ s b is here same.
    let v = c.args.flat.now in
    let n = c.args.node in
    flat-last v.tray.plan v.tray.world c.leave.new.self n s c.args.kind b (λ e. let t = c.in-Test.is in cc) c.requires.fits (λ r. c.leave.ensures.state s r is) (s.status n) here same

pub returns-in-AfterAll-clause-state : goal.returns-in-AfterAll-clause-state
returns-in-AfterAll-clause-state c = λ s b is here same.
    let v = c.args.flat.now in
    let n = c.args.node in
    flat-last v.tray.plan v.tray.world c.leave-in-AfterAll.new.self n s c.args.kind b (λ e. let t = c.in-AfterAll.is in cc) c.requires.fits (λ r. c.leave-in-AfterAll.ensures.state s r is)
    (s.status n) here same
