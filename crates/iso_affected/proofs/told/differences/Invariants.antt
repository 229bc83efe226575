use Rattle.std.proofs.Common.{◌≡◌}
use Rattle.iso_affected.proofs.ReasonLemmas.{AreToldBelow}
use Rattle.iso_affected.specs.Fates.{suites}
use Rattle.iso_affected.proofs.told.differences.Given as goal

abbrev pub invariant-nodes : goal.invariant-nodes
invariant-nodes l = AreToldBelow (suites l.old l.before l.new l.after) l.fates l.told.items l.node × (l.starts ≡ record { before = l.before; after = l.after })
