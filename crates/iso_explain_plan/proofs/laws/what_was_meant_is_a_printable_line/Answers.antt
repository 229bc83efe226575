use Rattle.iso_explain_plan.proofs.FewLemmas.{meant-is-line}
use Rattle.iso_explain_plan.proofs.laws.what_was_meant_is_a_printable_line.Goals as goal

pub returns : goal.returns
returns c word scripts paths = meant-is-line word scripts paths
