-- The way back from the end of a run, as it is walked.
use Rattle.std.specs.Prelude.{ℕ, List, Option}
use Rattle.iso_critical.specs.Bodies.{Run}
use Rattle.iso_plan.specs.Planned.{Planned}
use Rattle.iso_plan.specs.RowView.{tree_of}
use Rattle.iso_times.specs.declared.times.BodyTime.{BodyTime}

-- a run of a plan, whose bodies had these times, and whose nodes waited last for these
abbrev pub run_with : Planned → List (Option BodyTime) → (holders : List (Option ℕ)) → Run
run_with plan bodies holders =
    record { tree = tree_of plan; settings = plan.settings; bodies = bodies; holders = holders }
