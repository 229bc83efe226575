-- The key that a node waits for while another is in its way.
use Rattle.std.specs.Prelude.{ℕ, List, [], ◌∷◌, Option, Some, None, cond}
use Rattle.iso_plan.specs.Conflicts.{shares}
use Rattle.iso_plan.specs.Locks.{locks}
use Rattle.iso_plan.specs.Tree.{Row}
use Rattle.iso_plan.specs.declared.lock.Lock.{Lock}

-- the key of the first of some locks that one of others excludes
abbrev pub first_shared : List Lock → List Lock → Option ℕ
first_shared [] ms = None
first_shared (l ∷ ls) ms = cond (shares l ms) (Some l.key) (first_shared ls ms)

-- the lowest key on which two nodes conflict: locks stand in the order of their keys
abbrev pub contended_key : List Row → ℕ → ℕ → Option ℕ
contended_key tree n m = first_shared (locks tree n) (locks tree m)
