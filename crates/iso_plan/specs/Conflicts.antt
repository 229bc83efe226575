-- Locks that exclude each other, and the lowest held node that is in a node's way.
--
-- lowest node in the way: The lowest of the held nodes that conflict with a node
-- (`lowest_in_the_way`).
use Rattle.std.specs.Prelude.{ℕ, zero, suc, List, [], ◌∷◌, length, Option, Some, None, Bool, false, ◌||◌, ◌&&◌, ◌==◌, cond}
use Rattle.std.specs.Option.{option_or}
use Rattle.iso_plan.specs.Locks.{conflict, is_write}
use Rattle.iso_plan.specs.Tree.{Row}
use Rattle.iso_plan.specs.declared.lock.Lock.{Lock}

-- two locks are on one key, and one of them is for READ_WRITE
abbrev pub excludes : Lock → Lock → Bool
excludes l m = l.key == m.key && (is_write l || is_write m)

-- one of some locks excludes a lock
abbrev pub shares : Lock → List Lock → Bool
shares l [] = false
shares l (m ∷ ms) = excludes l m || shares l ms

-- one of some locks excludes one of others
abbrev pub conflicts : List Lock → List Lock → Bool
conflicts [] ms = false
conflicts (l ∷ ls) ms = shares l ms || conflicts ls ms

-- the lowest number below n that passes a test
abbrev pub lowest : (ℕ → Bool) → ℕ → Option ℕ
lowest test zero = None
lowest test (suc n) = option_or (lowest test n) (cond (test n) (Some n) None)

-- whether a node is held and conflicts with another one
abbrev pub is_in_the_way : List Row → (ℕ → Bool) → ℕ → ℕ → Bool
is_in_the_way tree held n m = held m && conflict tree m n

-- the lowest held node that conflicts with a node
abbrev pub lowest_in_the_way : List Row → (ℕ → Bool) → ℕ → Option ℕ
lowest_in_the_way tree held n = lowest (is_in_the_way tree held n) (length tree)
