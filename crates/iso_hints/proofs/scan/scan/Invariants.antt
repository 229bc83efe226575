use Rattle.std.proofs.Common.{◌-◌, length}
use Rattle.iso_hints.proofs.ScanLemmas.{IsPassed}
use Rattle.iso_hints.proofs.scan.scan.Given as goal

abbrev pub invariant-runs : goal.invariant-runs
invariant-runs l = IsPassed l.bytes l.seen

abbrev pub decreases-runs : goal.decreases-runs
decreases-runs l = length l.bytes - l.seen.passed
