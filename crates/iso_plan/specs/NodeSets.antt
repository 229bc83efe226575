-- How a set of nodes is kept: a mark for each node, and how many nodes are marked.
use Rattle.std.specs.Prelude.{◌≡◌, ◌≤◌, ℕ}
use Rattle.iso_desk.specs.Marking.{has, room}
use Rattle.iso_desk.specs.declared.marks.Marks.{Marks}
use Rattle.iso_plan.specs.HeldNodes.{count}

-- there is a mark for each node, and it is counted how many nodes are marked
pub record KeepsNodes (marks : Marks) (nodes held : ℕ) : Type 0 where
  pub within : nodes ≤ room marks
  pub counts : held ≡ count (has marks) nodes
