use Rattle.iso_affected.proofs.laws.same_nodes_have_the_outcomes_that_they_had.Goals as goal

pub returns : goal.returns
returns c = λ before after n m p q fate g h. c.nodes_that_agree_have_equal_outcomes.ensures before after m n p q fate.0.within fate.1 g h
