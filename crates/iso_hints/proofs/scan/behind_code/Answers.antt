use Rattle.std.proofs.Common.{ap, take, arith}
use Rattle.std.proofs.lemmas.List.{length-take-le}
use Rattle.iso_hints.specs.declared.scan.Seen.{Seen}
use Rattle.iso_hints.proofs.ScanLemmas.{fold_passed}
use Rattle.iso_hints.proofs.scan.behind_code.Goals as goal

pub step_in_code-next-requires-clause-room : goal.step_in_code-next-requires-clause-room
step_in_code-next-requires-clause-room c =
    let bytes = c.args.bytes.now in
    let i = c.loop-byte.byte-index in
    let passed = ap (λ (s : Seen). s.passed) c.loop-byte.invariant.is in
    let more = fold_passed c.args.seen (take i bytes) in
    let taken = length-take-le i bytes (omega arith) in
    let room = c.requires.room in
    let here = c.loop-byte-test.true in
    omega (arith, passed, more, taken, room, here)
