-- What a node comes to in a run of all scripts, and in one of what some paths keep of them.
use Rattle.std.specs.Prelude.{◌≡◌, ℕ, ◌<◌, List, true, length}
use Rattle.iso_isolation.specs.Isolation.{Gives}
use Rattle.iso_model.specs.ChainAgreement.{EqualAt}
use Rattle.iso_model.specs.Resources.{Resources}
use Rattle.iso_model.specs.declared.outcome.Outcome.{Outcome}
use Rattle.iso_plan.specs.NodeChains.{node_rights}
use Rattle.iso_plan.specs.Planned.{Planned}
use Rattle.iso_plan.specs.RowView.{tree_of}
use Rattle.iso_plan.specs.KeptNodes.{is_kept_by, number_among}
use Rattle.iso_suites.specs.PlanSuites.{suite_of}
use Rattle.iso_suites.specs.ScriptLanguage.{scripts}

-- A node that these paths keep has the first outcome in some run of the whole plan and the second
-- in some of its part, each on any number of workers and in any order of events that the locks
-- allow. The resources start alike at the keys that the node may look at.
pub record IsRunInBoth (whole part : Planned) (paths : List (List ℕ)) (n : ℕ)
    (first second : Outcome) : Type 0 where
  pub within : n < length (tree_of whole)
  pub kept : is_kept_by (tree_of whole) paths n ≡ true
  pub start : Resources
  pub other : Resources
  pub alike : EqualAt (node_rights (tree_of whole) n) start other
  pub in_whole : Gives scripts (suite_of (tree_of whole) whole.settings start) n first
  pub in_part : Gives scripts (suite_of (tree_of part) part.settings other)
      (number_among (is_kept_by (tree_of whole) paths) n) second

-- each node that these paths keep comes to the same in the part as in the whole plan
abbrev pub KeepsResults : (whole part : Planned) → (paths : List (List ℕ)) → Type 0
KeepsResults whole part paths =
    (n : ℕ) (first second : Outcome) → IsRunInBoth whole part paths n first second → first ≡ second
