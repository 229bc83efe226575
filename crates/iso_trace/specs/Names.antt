-- Keys as they stand in a trace: JSON strings.
use Rattle.std.specs.Prelude.{◌≡◌, ℕ, List, ◌++◌, codes, map}
use Rattle.json.specs.Print.{quoted}
use Rattle.iso_plan.specs.KeyTable.{keys}
use Rattle.iso_plan.specs.Tree.{Row}

-- each key of a tree behind a text, as a JSON string
abbrev pub key_names : List Row → List ℕ → List (List ℕ)
key_names tree before = map (λ k. quoted (before ++ k)) (keys tree)

-- these say what a lock on each key is called, and a wait for it
pub record AreNames (tree : List Row) (locks waits : List (List ℕ)) : Type 0 where
  pub locks_are : locks ≡ key_names tree (codes "lock ")
  pub waits_are : waits ≡ key_names tree (codes "wait ")
