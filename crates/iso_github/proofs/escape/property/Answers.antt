use Rattle.std.proofs.Common.{ap}
use Rattle.std.proofs.lemmas.Result.{err_from_is_err_and}
use Rattle.iso_github.specs.Commands.{in_property}
use Rattle.iso_tap.proofs.PrinterLemmas.{drop_next, left_cut, left_next}
use Rattle.iso_github.proofs.escape.property.Goals as goal

pub returns-in_err-property_byte : goal.returns-in_err-property_byte
returns-in_err-property_byte g c =
    let p = err_from_is_err_and c.from_residual.result c.from_residual.ensures.1 in
    rw p.1 (left_cut _ _ p.0 (ap in_property (drop_next c.args.text.now c.loop-byte.byte-index 0 c.loop-byte-test.true)) c.loop-byte.invariant c.in_err-property_byte.ensures)

pub loop-byte-preserved : goal.loop-byte-preserved
loop-byte-preserved g c =
    left_next (ap in_property (drop_next c.args.text.now c.loop-byte.byte-index 0 c.loop-byte-test.true)) c.loop-byte.invariant c.in_ok-property_byte.ensures
