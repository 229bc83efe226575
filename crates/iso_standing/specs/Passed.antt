-- How many of each node's first children are passed: the search for a child that is due goes on
-- after them.
--
-- passed children: How many of a node's first children are passed (`ArePassed`, `KeepsPassed`):
-- none of them is SAME_THREAD and unfinished (`is_due`), so that a search for an unfinished sibling
-- begins after them.
use Rattle.std.specs.Prelude.{◌≡◌, ℕ, ◌<◌, ◌≤◌, List, Bool, false, ◌&&◌, not, length, slice_index_or}
use Rattle.iso_standing.specs.Phases.{bare}
use Rattle.iso_standing.specs.declared.phase.Phase.{Phase}
use Rattle.iso_standing.specs.declared.phase.Phase.TheVariants.{Waiting}
use Rattle.iso_isolation.specs.States.{is_finished}
use Rattle.iso_plan.specs.Modes.{mode}
use Rattle.iso_plan.specs.Paths.{children}
use Rattle.iso_plan.specs.Planned.{Planned}
use Rattle.iso_plan.specs.RowView.{tree_of}
use Rattle.iso_suites.specs.PlanSuites.{is_same_thread}

-- whether a node is SAME_THREAD and isn't finished
abbrev pub is_due : Planned → List Phase → ℕ → Bool
is_due p phases n = is_same_thread (mode (tree_of p) p.settings n)
    && not (is_finished (bare (slice_index_or phases n Waiting)))

-- a node has at least `count` children, and none of the first `count` is due
pub record ArePassed (p : Planned) (phases : List Phase) (n count : ℕ) : Type 0 where
  pub there : count ≤ length (children (tree_of p) n)
  pub none_due : (i : ℕ) → i < count → is_due p phases (slice_index_or (children (tree_of p) n) i 0)
      ≡ false

-- each node has a number of first children, of which none is due
pub record KeepsPassed (p : Planned) (phases : List Phase) (counts : List ℕ) : Type 0 where
  pub each : length counts ≡ length p.rows
  pub none_due : (n : ℕ) → n < length p.rows → ArePassed p phases n (slice_index_or counts n 0)
