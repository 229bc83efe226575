use Rattle.std.proofs.Common.{◌≡◌}
use Rattle.iso_plan.specs.RowView.{tree_of}
use Rattle.iso_why.proofs.GiverLemmas.{is_giver}
use Rattle.iso_why.specs.Next.{passing}
use Rattle.iso_why.proofs.givers.next_giver.Given as goal

abbrev pub invariant-nodes : goal.invariant-nodes
invariant-nodes l = passing (is_giver (tree_of l.plan) l.node l.lock) l.giver l.end ≡ passing (is_giver (tree_of l.plan) l.node l.lock) l.from l.end
