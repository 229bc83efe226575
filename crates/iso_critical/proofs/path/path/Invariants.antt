use Rattle.std.proofs.Common.{◌≡◌, ◌++◌, drop}
use Rattle.iso_critical.specs.Critical.{critical}
use Rattle.iso_critical.specs.Paths.{run_with}
use Rattle.iso_critical.proofs.WalkLemmas.{walked}
use Rattle.iso_critical.proofs.path.path.Given as goal

abbrev pub invariant-loop-body : goal.invariant-loop-body
invariant-loop-body l =
    let run = run_with l.plan l.waits.bodies l.holders in
    l.path.items ++ walked run l.next (drop l.body-index l.bodies) ≡ critical run
