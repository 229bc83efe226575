use Rattle.std.proofs.Common.{None, Some, sym, ap, ◌∙◌}
use Rattle.iso_affected_text.proofs.RowLemmas.{chosen, other}
use Rattle.iso_affected_text.proofs.parts.of_class.Goals as goal

pub returns-then-is_test : goal.returns-then-is_test
returns-then-is_test c = sym (chosen _ None _ (sym c.is_test.ensures ∙ c.if-is_test.true))

pub returns : goal.returns
returns c = ap Some c.path_at.ensures ∙ sym (other _ None _ (sym c.is_test.ensures ∙ c.if-is_test.false))
