use Rattle.std.proofs.Common.{◌≡◌, ◌-◌, length}
use Rattle.std.specs.List.{fold}
use Rattle.iso_conflicts.specs.Chains.{IsOf, class_chains, key_chains, longer, no_chain}
use Rattle.iso_plan.specs.KeyTable.{keys}
use Rattle.iso_plan.specs.RowView.{tree_of}
use Rattle.iso_conflicts.proofs.longest.longest_key.Given as goal

-- the longest so far and of those to come
abbrev pub invariant-keys : goal.invariant-keys
invariant-keys l =
    record {
      so_far : fold longer l.best (key_chains (tree_of l.plan) (length (keys (tree_of l.plan)) - l.key) l.key) ≡ fold longer l.fn.class
          (key_chains (tree_of l.plan) (length (keys (tree_of l.plan))) 0);
      known : IsOf (tree_of l.plan) l.best.shared;
    }
