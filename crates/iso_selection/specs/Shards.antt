-- Shards: which of the top-level classes that hold a named node are kept.
--
-- shard: Top-level classes that hold a named node (`holds`) go to the shards in turn, in the order
-- in which they are written (`shard_of`); whether a node's is in one (`is_in`).
use Rattle.std.specs.Prelude.{ℕ, ◌+◌, ◌%◌, List, Option, None, Some, Bool, true, ◌&&◌, ◌==◌, length}
use Rattle.std.specs.List.{list_any, range_with_len}
use Rattle.iso_plan.specs.KeptNodes.{number_among}
use Rattle.iso_plan.specs.TopClasses.{top_class}
use Rattle.iso_plan.specs.Tree.{Row}
use Rattle.iso_selection.specs.declared.shard.Shard.{Shard}

-- whether a node that passes is a top-level class or a descendant of it
abbrev pub holds : List Row → (ℕ → Bool) → ℕ → Bool
holds tree passes class =
    list_any (λ n. passes n && (top_class tree n == class)) (range_with_len 0 (length tree))

-- the shard of a top-level class, of `count`, counted from 1: such classes go to the shards in
-- turn, in the order in which they are written
abbrev pub shard_of : List Row → (ℕ → Bool) → (count : ℕ) → (class : ℕ) → ℕ
shard_of tree passes count class = number_among (holds tree passes) class % count + 1

-- whether a node's top-level class goes to a shard. Where no shard is asked for, all do.
abbrev pub is_in : List Row → (ℕ → Bool) → Option Shard → ℕ → Bool
is_in tree passes None n = true
is_in tree passes (Some shard) n =
    shard_of tree passes shard.count (top_class tree n) == shard.index
