-- A flat map: a tray that has every value of its plan.
--
-- flat map: A tray that has the value of each key that a node declares (`IsFlat`), and its
-- resources: the starting value at every other key (`flat`).
use Rattle.std.specs.Prelude.{◌≡◌, ℕ, List, cond, is_some}
use Rattle.std.specs.Option.{option_or}
use Rattle.iso_lifecycle.specs.Subjects.{started}
use Rattle.iso_locks.specs.Trays.{TrayView, content, has_value, number_of}
use Rattle.iso_model.specs.Resources.{Resources}
use Rattle.iso_model.specs.Rights.{is_writable}
use Rattle.iso_plan.specs.NodeChains.{node_rights}
use Rattle.iso_plan.specs.RowView.{tree_of}

-- a tray is flat: it has the value of each key that a node declares
abbrev pub IsFlat : TrayView → Type 0
IsFlat t = (k : List ℕ) → has_value t k ≡ is_some (number_of (tree_of t.plan) k)

-- the resources of a flat map: at each key the value that it has, and the starting value where it
-- has none
abbrev pub flat : TrayView → Resources
flat t k = option_or (content t k) (started t.world k)

-- resources where the keys that a node's rights let it change stand as they were saved, and all
-- others as they are
abbrev pub with_saved : TrayView → ℕ → (saved now : Resources) → Resources
with_saved t n saved now k = cond (is_writable (node_rights (tree_of t.plan) n k)) (saved k) (now k)
