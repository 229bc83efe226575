-- The critical bodies of a run.
use Rattle.std.specs.Prelude.{ℕ, zero, suc, List, [], ◌∷◌, Option, Some, None, Bool, ◌==◌, find, length}
use Rattle.std.specs.List.{list_any}
use Rattle.std.specs.Option.{option_map}
use Rattle.iso_critical.specs.Bodies.{Run, latest_first, ran}
use Rattle.iso_critical.specs.Needs.{comes_before, last_holders, needs}
use Rattle.iso_critical.specs.Paths.{run_with}
use Rattle.iso_critical.specs.declared.body.Body.{Body}
use Rattle.iso_lifecycle.specs.declared.kind.BodyKind.{BodyKind}
use Rattle.iso_plan.specs.Planned.{Planned}
use Rattle.iso_plan.specs.RowView.{tree_of}
use Rattle.iso_times.specs.Tables.{slot_of}
use Rattle.iso_times.specs.declared.times.BodyTime.{BodyTime}
use Rattle.iso_waits.specs.declared.wait.NodeWait.{NodeWait}

-- the body before another: of those that had to end before it, the one that ended last. Before the
-- end of the run it is the one that ended last of all.
abbrev pub previous : Run → Option Body → Option Body
previous run b = find (comes_before run.tree (option_map (needs run) b))
    (latest_first run.bodies (length run.tree))

-- a body and those before it, one after another, at most `most` of them
abbrev pub back_from : Run → (most : ℕ) → Option Body → List Body
back_from run most None = []
back_from run zero (Some b) = []
back_from run (suc most) (Some b) = b ∷ back_from run most (previous run (Some b))

-- the critical bodies: the one that ended last, and from each critical one the body before it
abbrev pub critical : Run → List Body
critical run = back_from run (length (ran run.bodies (length run.tree))) (previous run None)

-- a run of a plan, whose bodies had these times and whose nodes these waits
abbrev pub run_of : Planned → List (Option BodyTime) → List NodeWait → Run
run_of plan bodies waits = run_with plan bodies (last_holders waits (length (tree_of plan)))

-- whether a node's body is among some
abbrev pub is_among : List Body → ℕ → BodyKind → Bool
is_among path node kind = list_any (λ b. b.place == slot_of node kind) path
