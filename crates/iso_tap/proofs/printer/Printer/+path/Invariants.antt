use Rattle.iso_tap.proofs.printer.Printer.+path.Given as goal

abbrev pub decreases-path : goal.decreases-path
decreases-path g l = l.node
