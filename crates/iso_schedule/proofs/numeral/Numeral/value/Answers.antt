use Rattle.std.proofs.Common.{arith}
use Rattle.iso_schedule.proofs.Numerals.{next}
use Rattle.iso_schedule.proofs.numeral.Numeral.value.Goals as goal

pub overflow_mul-value : goal.overflow_mul-value
overflow_mul-value c = let n = next c.args.self.digits.now c.loop-digit.digit-index c.args.self.numeral (omega arith) (omega arith) in omega arith

pub overflow_sub-digit : goal.overflow_sub-digit
overflow_sub-digit c = let n = next c.args.self.digits.now c.loop-digit.digit-index c.args.self.numeral (omega arith) (omega arith) in omega arith

pub overflow_add-value : goal.overflow_add-value
overflow_add-value c = let n = next c.args.self.digits.now c.loop-digit.digit-index c.args.self.numeral (omega arith) (omega arith) in omega (arith, c.from.ensures)

pub loop-digit-preserved : goal.loop-digit-preserved
loop-digit-preserved c = let n = next c.args.self.digits.now c.loop-digit.digit-index c.args.self.numeral (omega arith) (omega arith) in omega (arith, c.from.ensures)
