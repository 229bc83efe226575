use Rattle.std.proofs.Common.{◌≡◌, true, ap, sym, ◌∙◌, subst}
use Rattle.iso_standing.proofs.Passing.{passed-still}
use Rattle.iso_standing.specs.Passed.{ArePassed}
use Rattle.iso_standing.specs.Phases.{bare}
use Rattle.iso_standing.specs.Standings.{phase_at, with_phase}
use Rattle.iso_standing.specs.declared.phase.Phase.{Phase}
use Rattle.iso_isolation.specs.States.{is_finished}
use Rattle.iso_standing.proofs.standing.Standing.still_passed.Goals as goal
use Rattle.iso_standing.proofs.standing.Standing.still_passed.Goals.{else-is_finished-via-then-is_finished+else-not-is_finished, else-is_finished-via-else-is_finished}

pub returns : goal.returns
returns c =
    let v = c.args.self.now in
    let n = c.args.node in
    let before : is_finished (bare (phase_at v n)) ≡ c.is_finished.result = ap (λ (p : Phase). is_finished (bare p)) (sym c.phase.ensures) ∙ sym c.is_finished.ensures in
    let stays : is_finished (bare (phase_at v n)) ≡ true → is_finished (bare c.args.phase) ≡ true = elim c.else-is_finished.branch [
      | else-is_finished-via-then-is_finished+else-not-is_finished w ↦ λ e. sym w.is_finished-then-is_finished.ensures ∙ w.if-not-is_finished.false
      | else-is_finished-via-else-is_finished w ↦ λ e. absurd (cc (sym w.if-is_finished.false ∙ sym before ∙ e))
    ] in
    subst (λ m. ArePassed v.plan (with_phase v n c.args.phase).phases m c.passed.result) (c.parent.ensures.parent c.requires.inner)
    (passed-still v.plan v.phases n c.args.phase c.parent.result c.passed.result stays c.passed.ensures)
