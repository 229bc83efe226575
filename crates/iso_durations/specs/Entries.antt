-- The entries of nodes that were measured.
use Rattle.std.specs.Prelude.{ℕ, ◌<◌, List, [], ◌∷◌, codes, length}
use Rattle.iso_plan.specs.PathTexts.{path_text}
use Rattle.iso_plan.specs.Planned.{Planned}
use Rattle.iso_plan.specs.Tree.{Row}
use Rattle.iso_durations.specs.Lines.{line}
use Rattle.iso_durations.specs.Seconds.{seconds}
use Rattle.iso_durations.specs.declared.durations.Timed.{Timed}

-- the entry of a node
abbrev pub entry : (micros : ℕ → ℕ) → ℕ → Timed
entry micros n = record { micros = micros n; node = n }

-- its node
abbrev pub node_of : Timed → ℕ
node_of t = t.node

-- it is that of a node of a plan, other than the root
pub record IsListed (plan : Planned) (t : Timed) : Type 0 where
  pub above : 0 < t.node
  pub within : t.node < length plan.rows

-- its line: how long the node's bodies took, and its path
abbrev pub entry_line : List Row → Timed → List ℕ
entry_line tree t = line (seconds t.micros ∷ codes " s  " ∷ path_text tree t.node ∷ [])
