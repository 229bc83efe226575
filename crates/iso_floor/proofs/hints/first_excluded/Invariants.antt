use Rattle.std.proofs.Common.{◌≡◌, drop}
use Rattle.std.specs.List.{list_any}
use Rattle.iso_floor.specs.KeyMarks.{is_excluded}
use Rattle.iso_plan.specs.RowView.{tree_of}
use Rattle.iso_floor.proofs.hints.first_excluded.Given as goal

abbrev pub invariant-locks : goal.invariant-locks
invariant-locks l =
    list_any (is_excluded (tree_of l.held.plan) l.held.held) (drop l.lock-index l.locks) ≡ list_any (is_excluded (tree_of l.held.plan) l.held.held) l.locks
