-- Tests that repeat the node before them.
--
-- tests that repeat the one before them: Both are tests of one class, with the same marks written
-- on them (`Repeats`, `AreRepeats`). They take the same keys, so that the later one shares the
-- other's locks.
use Rattle.std.specs.Prelude.{◌≡◌, ℕ, ◌<◌, ◌-◌, Bool, List, false, length, slice_index_or, true}
use Rattle.iso_model.specs.Targets.{effective}
use Rattle.iso_model.specs.declared.heads.Mark.{Mark}
use Rattle.iso_plan.specs.Paths.{is_test, parent, row_at}
use Rattle.iso_plan.specs.Tree.{Row}

-- the effective marks of a node, by what is written on it and on its parent
abbrev pub effective_at : List Row → ℕ → List Mark
effective_at rows n = effective (row_at rows (parent rows n)).written (row_at rows n).written

-- the node and the one before it are tests of one class, with the same marks written on them
pub record Repeats (tree : List Row) (n : ℕ) : Type 0 where
  pub later : 1 < n
  pub first : is_test (row_at tree (n - 1)).kind ≡ true
  pub second : is_test (row_at tree n).kind ≡ true
  pub class : parent tree (n - 1) ≡ parent tree n
  pub written : (row_at tree (n - 1)).written ≡ (row_at tree n).written

-- each node that is marked repeats the one before it
pub record AreRepeats (tree : List Row) (marks : List Bool) : Type 0 where
  pub each : length marks ≡ length tree
  pub repeats : (n : ℕ) → n < length tree → slice_index_or marks n false ≡ true → Repeats tree n
