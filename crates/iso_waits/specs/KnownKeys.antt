-- Keys on which nodes conflict, kept for nodes that take the same keys.
use Rattle.std.specs.Prelude.{◌≡◌, ℕ, ◌<◌, List, Option, Some, None, ⊤, length, slice_index_or}
use Rattle.iso_plan.specs.Locks.{locks}
use Rattle.iso_plan.specs.Tree.{Row}
use Rattle.iso_waits.specs.ContendedKeys.{contended_key}
use Rattle.iso_waits.specs.declared.known_keys.KnownKey.{KnownKey}

-- node m is one of a tree, and takes the same keys in the same way as node n
pub record IsTwin (tree : List Row) (n m : ℕ) : Type 0 where
  pub within : m < length tree
  pub same : locks tree m ≡ locks tree n

-- these are, for each node of a tree, one that takes the same keys in the same way
pub record AreFirsts (tree : List Row) (firsts : List ℕ) : Type 0 where
  pub size : length firsts ≡ length tree
  pub each : (n : ℕ) → n < length tree → IsTwin tree n (slice_index_or firsts n 0)

-- what is known of node m, if something is, is the lowest key on which a node conflicts with it
abbrev pub IsKnown : List Row → ℕ → Option KnownKey → Type 0
IsKnown tree m None = ⊤
IsKnown tree m (Some known) = known.key ≡ contended_key tree known.of m

-- nodes that stand for those of a tree, and what is known of each node
pub record AreKnownKeys (tree : List Row) (firsts : List ℕ)
    (found : List (Option KnownKey)) : Type 0 where
  pub stand : AreFirsts tree firsts
  pub size : length found ≡ length tree
  pub known : (m : ℕ) → m < length tree → IsKnown tree m (slice_index_or found m None)
