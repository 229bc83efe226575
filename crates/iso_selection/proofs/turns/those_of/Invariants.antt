use Rattle.std.proofs.Common.{◌≡◌, ◌&&◌, ℕ, List, Some, Bool, length}
use Rattle.iso_plan.specs.Paths.{column}
use Rattle.iso_plan.specs.TopClasses.{all_top_classes}
use Rattle.iso_plan.specs.Tree.{Row}
use Rattle.iso_selection.specs.Shards.{is_in}
use Rattle.iso_selection.proofs.turns.those_of.Given as goal

abbrev pub invariant-nodes : goal.invariant-nodes
invariant-nodes l = (tree : List Row) (passes : ℕ → Bool) → l.classes ≡ all_top_classes tree → l.named ≡ column passes (length tree)
    → l.kept.items ≡ column (λ n. passes n && is_in tree passes (Some l.shard) n) l.n
