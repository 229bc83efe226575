use Rattle.std.proofs.Common.{◌≡◌, ap, sym, ◌∙◌, arith}
use Rattle.iso_lifecycle.specs.ResultViews.{outcome_in}
use Rattle.iso_plan.specs.RowView.{tree_of}
use Rattle.iso_failures.specs.Failures.{is_failure}
use Rattle.iso_failures.proofs.BlockedLemmas.{blocked-by-failure, blocked-by-other}
use Rattle.iso_failures.proofs.blocked.blocked_by.Goals as goal
use Rattle.iso_failures.proofs.blocked.blocked_by.Goals.{else-class-gt0-via-else-class-gt0, else-class-gt0-via-then-class-gt0+else-is_failure}

pub returns-then-is_failure : goal.returns-then-is_failure
returns-then-is_failure c =
    c.blocked_within.ensures
    ∙ sym (blocked-by-failure (tree_of c.args.plan.now) (outcome_in c.args.results.now) c.args.class (sym c.is_failure.ensures ∙ c.if-is_failure.true))

pub returns-else-class-gt0 : goal.returns-else-class-gt0
returns-else-class-gt0 c =
    let none = blocked-by-other (tree_of c.args.plan.now) (outcome_in c.args.results.now) c.args.class in
    elim c.else-class-gt0.branch [
      | else-class-gt0-via-then-class-gt0+else-is_failure w ↦ sym (none (sym w.is_failure.ensures ∙ w.if-is_failure.false))
      | else-class-gt0-via-else-class-gt0 w ↦ let root : c.args.class ≡ 0 = omega (arith, w.if-class-gt0.false) in sym (none (ap (is_failure (outcome_in c.args.results.now)) root))
    ]
