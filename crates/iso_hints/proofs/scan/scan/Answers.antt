use Rattle.std.proofs.Common.{List, ℕ, ap, subst, arith}
use Rattle.iso_hints.specs.Scans.{IsBehind}
use Rattle.iso_hints.specs.declared.scan.Seen.{Seen}
use Rattle.iso_hints.proofs.PositionLemmas.{slice-rest}
use Rattle.iso_hints.proofs.ScanLemmas.{IsPassed, behind-grows, passed-all, passed-behind, passed-next, passed-ordered, scan-is-ordered, scan-is-within}
use Rattle.iso_hints.proofs.scan.scan.Goals as goal

pub behind_run-seen-requires-clause-order : goal.behind_run-seen-requires-clause-order
behind_run-seen-requires-clause-order c =
    rw c.step-next.ensures (passed-ordered c.args.bytes.now _ (passed-next c.args.bytes.now 0 c.runs.seen c.runs-test.true c.runs.invariant)).0

pub behind_run-seen-requires-clause-within : goal.behind_run-seen-requires-clause-within
behind_run-seen-requires-clause-within c =
    rw c.step-next.ensures (passed-ordered c.args.bytes.now _ (passed-next c.args.bytes.now 0 c.runs.seen c.runs-test.true c.runs.invariant)).1

pub runs-smaller : goal.runs-smaller
runs-smaller c =
    let one = ap (λ (s : Seen). s.passed) c.step-next.ensures in
    let more = behind-grows c.step-next.result c.behind_run-seen.result _ c.behind_run-seen.ensures in
    let here = c.runs-test.true in
    omega (arith, one, more, here)

pub runs-preserved : goal.runs-preserved
runs-preserved c =
    let bytes = c.args.bytes.now in
    let next : IsPassed bytes c.step-next.result = rw c.step-next.ensures (passed-next bytes 0 c.runs.seen c.runs-test.true c.runs.invariant) in
    let behind =
    subst (λ (rest : List ℕ). IsBehind c.step-next.result rest c.behind_run-seen.result) (slice-rest c.step-next.result.passed bytes) c.behind_run-seen.ensures in
    passed-behind bytes c.step-next.result c.behind_run-seen.result next behind

pub returns-clause-order : goal.returns-clause-order
returns-clause-order c =
    scan-is-ordered c.args.bytes.now c.runs.seen (passed-all c.args.bytes.now c.runs.seen c.runs-test.false c.runs.invariant)

pub returns-clause-within : goal.returns-clause-within
returns-clause-within c =
    scan-is-within c.args.bytes.now c.runs.seen (passed-all c.args.bytes.now c.runs.seen c.runs-test.false c.runs.invariant)
