use Rattle.std.proofs.Common.{map}
use Rattle.iso_plan.proofs.EffectiveLemmas.{IsPartly}
use Rattle.iso_plan.specs.RowView.{row_of}
use Rattle.iso_plan.proofs.children_marks.make_effective.Given as goal

abbrev pub invariant-nodes : goal.invariant-nodes
invariant-nodes l = IsPartly (map row_of l.fn.rows.items) (map row_of l.rows.items) l.n
