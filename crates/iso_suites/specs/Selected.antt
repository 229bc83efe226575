-- What a node comes to in a run of a whole plan, and in one of the plan of what some paths keep of
-- it.
--
-- results of a selection: That a kept node has finished in some run of a whole plan and in some of
-- the selected one, on resources that start alike where its rights reach (`IsRunInBoth`), and has
-- one outcome in both (`KeepsResults`).
use Rattle.std.specs.Prelude.{◌≡◌, ℕ, ◌<◌, List, true, length}
use Rattle.iso_suites.specs.PlanSuites.{suite_of}
use Rattle.iso_suites.specs.ScriptLanguage.{scripts}
use Rattle.iso_isolation.specs.Isolation.{Gives}
use Rattle.iso_model.specs.ChainAgreement.{EqualAt}
use Rattle.iso_model.specs.Resources.{Resources}
use Rattle.iso_model.specs.declared.outcome.Outcome.{Outcome}
use Rattle.iso_plan.specs.NodeChains.{node_rights}
use Rattle.iso_plan.specs.Planned.{Planned}
use Rattle.iso_plan.specs.RowView.{tree_of}
use Rattle.iso_plan.specs.KeptNodes.{is_kept, number_among}

-- A node that these paths keep has the first outcome in some run of the whole plan and the second
-- in some of the selected one, each on any number of workers and in any order of events that
-- the locks allow. The resources start alike at the keys that the node may look at.
pub record IsRunInBoth (whole selected : Planned) (only : List (List ℕ)) (n : ℕ)
    (first second : Outcome) : Type 0 where
  pub within : n < length (tree_of whole)
  pub kept : is_kept (tree_of whole) only n ≡ true
  pub start : Resources
  pub other : Resources
  pub alike : EqualAt (node_rights (tree_of whole) n) start other
  pub in_whole : Gives scripts (suite_of (tree_of whole) whole.settings start) n first
  pub in_selected : Gives scripts (suite_of (tree_of selected) selected.settings other)
      (number_among (is_kept (tree_of whole) only) n) second

-- each node that these paths keep comes to the same in the selected plan as in the whole one
abbrev pub KeepsResults : (whole selected : Planned) → List (List ℕ) → Type 0
KeepsResults whole selected only = (n : ℕ) (first second : Outcome)
    → IsRunInBoth whole selected only n first second → first ≡ second
