use Rattle.std.proofs.Common.{◌≡◌, ◌-◌, length}
use Rattle.std.specs.List.{fold}
use Rattle.iso_conflicts.specs.Chains.{IsOf, class_chains, key_chains, longer, no_chain}
use Rattle.iso_plan.specs.KeyTable.{keys}
use Rattle.iso_plan.specs.RowView.{tree_of}
use Rattle.iso_conflicts.proofs.longest.longest_class.Given as goal

-- the longest so far and of those to come
abbrev pub invariant-nodes : goal.invariant-nodes
invariant-nodes l =
    record {
      so_far : fold longer l.best (class_chains (tree_of l.plan) l.plan.settings (length l.plan.rows - l.node) l.node) ≡ fold longer no_chain
          (class_chains (tree_of l.plan) l.plan.settings (length l.plan.rows) 0);
      known : IsOf (tree_of l.plan) l.best.shared;
    }
