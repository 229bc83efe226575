use Rattle.iso_explain_plan.proofs.FewLemmas.{keys-are-few, nodes-are-few}
use Rattle.iso_explain_plan.proofs.laws.counts_are_few_printable_lines.Goals as goal

pub returns-clause-nodes : goal.returns-clause-nodes
returns-clause-nodes c count sizes h k = nodes-are-few count sizes h k

pub returns-clause-keys : goal.returns-clause-keys
returns-clause-keys c count sizes h k = keys-are-few count sizes h k
