use Rattle.std.proofs.Common.{◌∙◌, arith}
use Rattle.iso_script_lexer.proofs.Numbers.{after_digit, one_digit}
use Rattle.iso_script_lexer.proofs.scan.digits_at.Goals as goal

pub digits-preserved : goal.digits-preserved
digits-preserved c = record {
  told = one_digit 18446744073709551615 c.digits.value c.saturating_add-value.result c.digits.rest.now (omega arith) (omega arith) (omega arith)
      (omega (arith, c.saturating_mul.ensures, c.from.ensures, c.saturating_add-value.ensures))
      ∙ c.digits.invariant.told;
  back = after_digit c.digits.rest.now (omega arith) (omega arith) (omega arith) ∙ c.digits.invariant.back;
  fits = omega (arith, c.saturating_add-value.ensures);
  shorter = omega arith;
}
