use Rattle.std.proofs.Common.{◌≡◌, ◌||◌, drop}
use Rattle.std.specs.List.{list_any}
use Rattle.iso_plan.specs.Locks.{is_isolated, marks_global}
use Rattle.iso_plan.specs.RowView.{kind_of, written_in}
use Rattle.iso_plan.proofs.isolated.any_isolates.Given as goal

abbrev pub invariant-rows : goal.invariant-rows
invariant-rows l = list_any (λ r. is_isolated (kind_of r.kind) || marks_global (written_in r.extras)) (drop l.row-index l.rows)
    ≡ list_any (λ r. is_isolated (kind_of r.kind) || marks_global (written_in r.extras)) l.rows
