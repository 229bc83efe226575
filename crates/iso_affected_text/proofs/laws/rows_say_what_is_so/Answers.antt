use Rattle.iso_affected_text.proofs.MeaningLemmas.{rows-say}
use Rattle.iso_affected_text.proofs.laws.rows_say_what_is_so.Goals as goal

pub returns : goal.returns
returns c = λ before after fates is. rows-say c.args.change.now before after c.nodes_are_a_tree-2.ensures fates is
