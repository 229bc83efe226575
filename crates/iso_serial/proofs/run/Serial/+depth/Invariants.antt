use Rattle.std.proofs.Common.{◌≡◌, ℕ, ◌+◌, ◌-◌, ◌*◌, ◌<◌, length, slice_index_or, true}
use Rattle.iso_lifecycle.specs.ResultViews.{has_result}
use Rattle.iso_plan.specs.Paths.{children}
use Rattle.iso_plan.specs.RowView.{tree_of}
use Rattle.iso_serial.specs.Walks.{BetweenNodes, GoesFurther}
use Rattle.iso_serial.proofs.run.Serial.+depth.Given as goal

abbrev pub invariant-children-children : goal.invariant-children-children
invariant-children-children g l = record {
  between : BetweenNodes l.self.plan.now l.self.world.now l.class l.walk;
  done : (i : ℕ) → i < l.child-index → has_result l.walk.results (slice_index_or (children (tree_of l.self.plan.now) l.class) i 0) ≡ true;
  further : GoesFurther l.fn.walk l.walk;
}

abbrev pub decreases-children : goal.decreases-children
decreases-children g l = 4 * (length l.self.now.plan.now.rows - l.class)

abbrev pub decreases-class : goal.decreases-class
decreases-class g l = 4 * (length l.self.now.plan.now.rows - l.node) + 1

abbrev pub decreases-bodies : goal.decreases-bodies
decreases-bodies g l = 4 * (length l.self.now.plan.now.rows - l.node) + 2

abbrev pub decreases-node : goal.decreases-node
decreases-node g l = 4 * (length l.self.now.plan.now.rows - l.node) + 3
