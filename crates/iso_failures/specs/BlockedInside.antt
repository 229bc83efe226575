-- The blocked tests in a node, as they are counted child by child.
use Rattle.std.specs.Prelude.{ℕ, List, [], ◌∷◌, Bool, false, ◌&&◌, ◌||◌, ◌==◌, length, not}
use Rattle.iso_model.specs.declared.outcome.Outcome.{Outcome}
use Rattle.iso_plan.specs.Paths.{parent, path}
use Rattle.iso_plan.specs.Tree.{Row}
use Rattle.iso_failures.specs.Counting.{how_many}
use Rattle.iso_failures.specs.Failures.{is_failure}
use Rattle.iso_failures.specs.Nodes.{is_test_with, was_blocked}

-- whether the way up meets a class before another one that failed
abbrev pub is_met : (ℕ → Outcome) → (class : ℕ) → List ℕ → Bool
is_met outcome class [] = false
is_met outcome class (n ∷ ns) =
    n == class || (not (is_failure outcome n) && is_met outcome class ns)

-- whether a node is a descendant of another one, with no failed class between them
abbrev pub is_within : List Row → (ℕ → Outcome) → (m : ℕ) → ℕ → Bool
is_within tree outcome m n = is_met outcome m (path tree (parent tree n))

-- whether a node is another one, or its descendant, and neither that nor a class between failed
abbrev pub is_at : List Row → (ℕ → Outcome) → (m : ℕ) → ℕ → Bool
is_at tree outcome m n = n == m || (not (is_failure outcome m) && is_within tree outcome m n)

-- how many blocked tests stand so in a node, and how many at it
abbrev pub blocked_within : List Row → (ℕ → Outcome) → (m : ℕ) → ℕ
blocked_within tree outcome m = how_many
    (λ n. is_test_with tree outcome was_blocked n && is_within tree outcome m n) (length tree)

abbrev pub blocked_at : List Row → (ℕ → Outcome) → (m : ℕ) → ℕ
blocked_at tree outcome m =
    how_many (λ n. is_test_with tree outcome was_blocked n && is_at tree outcome m n) (length tree)
