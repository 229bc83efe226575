use Rattle.iso_lifecycle.proofs.Barring.{IsAbove}
use Rattle.iso_lifecycle.proofs.results.Results.barred_by.Given as goal

abbrev pub invariant-up : goal.invariant-up
invariant-up l = IsAbove l.self l.node l.at

abbrev pub decreases-up : goal.decreases-up
decreases-up l = l.at
