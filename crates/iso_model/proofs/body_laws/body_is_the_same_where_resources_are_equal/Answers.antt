use Rattle.iso_model.proofs.BodyKeys.{body-step-alike, body-steps-alike, body-finish-alike}
use Rattle.iso_model.proofs.body_laws.body_is_the_same_where_resources_are_equal.Goals as goal

pub returns-clause-step : goal.returns-clause-step
returns-clause-step c = body-step-alike

pub returns-clause-steps : goal.returns-clause-steps
returns-clause-steps c = body-steps-alike

pub returns-clause-finish : goal.returns-clause-finish
returns-clause-finish c = body-finish-alike
