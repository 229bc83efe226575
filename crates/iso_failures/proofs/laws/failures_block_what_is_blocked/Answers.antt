use Rattle.std.proofs.Common.{◌≡◌, ℕ, sym, subst}
use Rattle.std.specs.List.{sum_by}
use Rattle.iso_lifecycle.specs.Subjects.{started}
use Rattle.iso_model.specs.declared.outcome.Outcome.{Outcome}
use Rattle.iso_plan.specs.RowView.{tree_of}
use Rattle.iso_failures.specs.Blocking.{blocked_by}
use Rattle.iso_failures.specs.Counting.{counts}
use Rattle.iso_failures.specs.Failures.{failures}
use Rattle.iso_failures.proofs.AddingUp.{blocked-sum}
use Rattle.iso_failures.proofs.RunOutcomes.{outcomes-are}
use Rattle.iso_failures.proofs.laws.failures_block_what_is_blocked.Goals as goal

pub returns : goal.returns
returns c =
    let tree = tree_of c.args.plan.now in
    subst (λ (o : ℕ → Outcome). sum_by (blocked_by tree o) (failures tree o) ≡ (counts tree o).blocked)
    (sym (outcomes-are c.args.results.now c.args.plan.now c.requires))
    (sym (blocked-sum tree c.nodes_are_a_tree.ensures (started c.args.results.now.start)))
