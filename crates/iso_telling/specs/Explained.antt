-- What mends what ended a node.
use Rattle.std.specs.Prelude.{ℕ, List, [], Bool, true, false, reverse}
use Rattle.iso_explain_block.specs.BlockFaults.{hints}
use Rattle.iso_explain_block.specs.Views.{BlockFaultView}
use Rattle.iso_model.specs.declared.fault.FaultKind.{FaultKind}
use Rattle.iso_model.specs.declared.outcome.Outcome.{Outcome}
use Rattle.iso_model.specs.declared.outcome.Verdict.{Verdict}
use Rattle.iso_model.specs.declared.outcome.Verdict.TheVariants.{Pass, Fail, Fault, Skipped, Blocked}
use Rattle.iso_model.specs.declared.place.BlockName.{BlockName}
use Rattle.iso_model.specs.declared.place.Place.{Place}
use Rattle.iso_model.specs.declared.place.Place.TheVariants as P
use Rattle.iso_plan.specs.NodeChains.{chain_classes, chain_test}
use Rattle.iso_plan.specs.Paths.{row_at}
use Rattle.iso_plan.specs.Tree.{Row}

-- a fault that ended a block of a node, with the chain and the name of the node
abbrev pub block_fault : List Row → ℕ → FaultKind → (message : List ℕ) → BlockName → (row : ℕ)
    → BlockFaultView
block_fault tree n kind message block row =
    record {
      kind = kind;
      message = message;
      block = block;
      row = row;
      heads = reverse (chain_classes tree n);
      test = chain_test tree n;
      name = (row_at tree n).name;
    }

-- what mends a fault where it ended a block
abbrev pub hints_at : List Row → ℕ → FaultKind → (message : List ℕ) → Place → List (List ℕ)
hints_at tree n kind message (P.Row block row) = hints (block_fault tree n kind message block row)
hints_at tree n kind message P.Disabled = []

-- what mends what ended a node with a verdict: nothing but a fault is mended
abbrev pub hints_by : List Row → ℕ → Verdict → List (List ℕ)
hints_by tree n (Fault kind note) = hints_at tree n kind note.message note.place
hints_by tree n Pass = []
hints_by tree n (Fail note) = []
hints_by tree n (Skipped note) = []
hints_by tree n (Blocked note) = []

-- the same, where it is asked for
abbrev pub hints_told : (explain : Bool) → List Row → (ℕ → Outcome) → ℕ → List (List ℕ)
hints_told false tree outcome n = []
hints_told true tree outcome n = hints_by tree n (outcome n).verdict
