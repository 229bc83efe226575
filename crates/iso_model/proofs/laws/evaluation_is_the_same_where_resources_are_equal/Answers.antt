use Rattle.iso_model.proofs.ChainAgreement.{evaluated-agree}
use Rattle.iso_model.proofs.laws.evaluation_is_the_same_where_resources_are_equal.Goals as goal

pub returns : goal.returns
returns c = λ r names m n e same. evaluated-agree names r m n same e
