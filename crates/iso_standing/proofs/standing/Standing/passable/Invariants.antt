use Rattle.std.proofs.Common.{◌-◌, length}
use Rattle.iso_standing.specs.Passed.{ArePassed}
use Rattle.iso_standing.proofs.standing.Standing.passable.Given as goal

abbrev pub invariant-children : goal.invariant-children
invariant-children l = ArePassed l.self.plan l.self.phases l.class l.next

abbrev pub decreases-children : goal.decreases-children
decreases-children l = length l.children - l.next
