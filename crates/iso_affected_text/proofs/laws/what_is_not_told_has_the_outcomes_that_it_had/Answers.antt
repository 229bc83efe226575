use Rattle.iso_affected_text.proofs.MeaningLemmas.{quiet-same}
use Rattle.iso_affected_text.proofs.laws.what_is_not_told_has_the_outcomes_that_it_had.Goals as goal

pub returns : goal.returns
returns c =
    λ before after n m p q fates inside listed is quiet g h.
    c.same_nodes_have_the_outcomes_that_they_had.ensures before after n m p q (quiet-same c.args.change.now before after n m inside listed is quiet fates) g h
