use Rattle.std.proofs.Common.{List, ℕ, codes, ap}
use Rattle.iso_junit.specs.Elements.{problem}
use Rattle.iso_junit.specs.Runs.{placed_of}
use Rattle.iso_tap.proofs.PrinterLemmas.{prints_as}
use Rattle.iso_junit.proofs.case.ended.Goals as goal

pub returns-in-Fail : goal.returns-in-Fail
returns-in-Fail g c =
    let same = ap (λ (m : List ℕ). problem (codes "failure") (codes "fail") (placed_of c.args.at.now) m) c.as_str.ensures in
    rw c.in-Fail.is (prints_as c.problem.ensures _ same)

pub returns-in-Fault : goal.returns-in-Fault
returns-in-Fault g c =
    let same = ap (λ (m : List ℕ). problem (codes "error") (codes "fault") (placed_of c.args.at.now) m) c.as_str-in-Fault.ensures in
    rw c.in-Fault.is (prints_as c.problem-in-Fault.ensures _ same)

pub returns-in-Blocked : goal.returns-in-Blocked
returns-in-Blocked g c =
    let same = ap (λ (m : List ℕ). problem (codes "error") (codes "blocked") (placed_of c.args.at.now) m) c.as_str-in-Blocked.ensures in
    rw c.in-Blocked.is (prints_as c.problem-in-Blocked.ensures _ same)
