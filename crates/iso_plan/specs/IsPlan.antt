-- What holds of the lists that a plan keeps: they are those of its tree.
use Rattle.std.specs.Prelude.{◌≡◌, ℕ, ◌+◌, ◌<◌, ◌≤◌, List, MatchOption, Option, length}
use Rattle.iso_model.specs.Chains.{ClassHead}
use Rattle.iso_model.specs.Rights.{Rights}
use Rattle.iso_model.specs.declared.script.Mode.{Mode}
use Rattle.iso_model.specs.declared.limits.TheConstants.{NODES, KEYS}
use Rattle.iso_plan.specs.KeyGroups.{lead, lead_locks}
use Rattle.iso_plan.specs.KeyNumbers.{AreNumbers}
use Rattle.iso_plan.specs.KeyTable.{keys}
use Rattle.iso_plan.specs.Locks.{locking_node, locks}
use Rattle.iso_plan.specs.Modes.{mode}
use Rattle.iso_plan.specs.NodeChains.{chain_classes, depth, node_rights}
use Rattle.iso_plan.specs.Paths.{IsTree, children, column}
use Rattle.iso_plan.specs.Preorder.{IsPreorder}
use Rattle.iso_plan.specs.Tree.{Row}
use Rattle.iso_plan.specs.declared.lock.Lock.{Lock}
use Rattle.iso_settings.specs.declared.settings.Settings.{Settings}

pub record IsPlan (tree : List Row) (settings : Settings) (kids : List (List ℕ))
    (heads : List (List ClassHead)) (rights : List Rights) (table : List (List ℕ))
    (numbers : List (List ℕ × ℕ)) (lockers : List (Option ℕ)) (taken : List (List Lock))
    (modes : List Mode) (deepest : ℕ) (leads : List ℕ) (lead_taken : Option (List (List Lock)))
    : Type 0 where
  pub is_tree : IsTree tree
  pub in_order : IsPreorder tree
  pub fits : length tree ≤ NODES
  pub kids_are : kids ≡ column (children tree) (length tree)
  pub heads_are : heads ≡ column (chain_classes tree) (length tree)
  pub rights_are : rights ≡ column (node_rights tree) (length tree)
  pub table_is : table ≡ keys tree
  pub numbers_are : AreNumbers numbers (keys tree)
  pub few : length table ≤ KEYS + 1
  pub lockers_are : lockers ≡ column (locking_node tree) (length tree)
  pub taken_are : taken ≡ column (locks tree) (length tree)
  pub modes_are : modes ≡ column (mode tree settings) (length tree)
  pub deepest_is : deepest ≡ depth tree
  pub leads_are : leads ≡ column (lead tree) (length (keys tree))
  pub lead_locks_are : MatchOption lead_taken
      ((n : ℕ) → n < length tree → lead_locks tree n ≡ locks tree n)
      (λ taken_on_leads. taken_on_leads ≡ column (lead_locks tree) (length tree))
