use Rattle.iso_book.proofs.Homes.{IsOnWay}
use Rattle.iso_book.proofs.home.holds_writers.Given as goal

abbrev pub invariant-up : goal.invariant-up
invariant-up l = IsOnWay l.tray l.node l.at

abbrev pub decreases-up : goal.decreases-up
decreases-up l = l.at
