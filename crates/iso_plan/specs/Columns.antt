-- The columns that are made of rows before a plan is: what its invariant asks for.
use Rattle.std.specs.Prelude.{◌≡◌, ℕ, List, length, map}
use Rattle.std.specs.declared.alloc.Global.{Global}
use Rattle.std.specs.declared.vec.Vec.{Vec}
use Rattle.iso_plan.specs.KeyNumbers.{AreNumbers}
use Rattle.iso_plan.specs.KeyTable.{keys}
use Rattle.iso_plan.specs.Locks.{locking_node, locks}
use Rattle.iso_plan.specs.Modes.{mode}
use Rattle.iso_plan.specs.NodeChains.{chain_classes, node_rights}
use Rattle.iso_plan.specs.Paths.{children, column}
use Rattle.iso_plan.specs.Repeated.{AreRepeats}
use Rattle.iso_plan.specs.RowView.{heads_in, nodes_in, rights_in}
use Rattle.iso_plan.specs.declared.columns.Chained.{Chained}
use Rattle.iso_plan.specs.declared.columns.Keyed.{Keyed}
use Rattle.iso_plan.specs.declared.columns.Locked.{Locked}
use Rattle.iso_plan.specs.declared.row.Row.{Row}
use Rattle.iso_settings.specs.declared.settings.Settings.{Settings}

-- the children, class chains and rights of all nodes
pub record IsChained (rows : List Row) (c : Chained) : Type 0 where
  pub children_are : map (λ (v : Vec ℕ Global). v.items) c.children.items
      ≡ column (children (nodes_in rows)) (length rows)
  pub chains_are : map heads_in c.chains.items
      ≡ column (chain_classes (nodes_in rows)) (length rows)
  pub rights_are : map rights_in c.rights.items ≡ column (node_rights (nodes_in rows)) (length rows)

-- their locking nodes and locks, and which of them repeat the one before them
pub record IsLocked (rows : List Row) (l : Locked) : Type 0 where
  pub locking_are : l.locking.items ≡ column (locking_node (nodes_in rows)) (length rows)
  pub locks_are : l.locks.items ≡ column (locks (nodes_in rows)) (length rows)
  pub repeats_are : AreRepeats (nodes_in rows) l.repeated.items

-- the keys, and the locks and modes of all nodes under settings
pub record IsKeyed (rows : List Row) (settings : Settings) (k : Keyed) : Type 0 where
  pub keys_are : k.keys.items ≡ keys (nodes_in rows)
  pub numbers_are : AreNumbers k.numbers (keys (nodes_in rows))
  pub locked : IsLocked rows k.locked
  pub modes_are : k.modes.items ≡ column (mode (nodes_in rows) settings) (length rows)
