use Rattle.std.proofs.Common.{Bool, List, map, subst, sym}
use Rattle.iso_plan.specs.Repeated.{AreRepeats}
use Rattle.iso_plan.specs.RowView.{row_of}
use Rattle.iso_plan.proofs.columns.lock_all.Goals as goal

pub locks-requires-clause-repeated : goal.locks-requires-clause-repeated
locks-requires-clause-repeated c = subst (λ (marks : List Bool). AreRepeats (map row_of c.args.rows.now) marks) (sym c.deref-4.ensures.value) c.in_ok-repeated.ensures

pub returns : goal.returns
returns c = record { locking_are = c.in_ok-locking.ensures; locks_are = c.in_ok-locks.ensures; repeats_are = c.in_ok-repeated.ensures }
