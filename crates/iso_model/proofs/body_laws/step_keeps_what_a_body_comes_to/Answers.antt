use Rattle.iso_model.proofs.BodyRuns.{body-step-finish, body-steps-finish, from-finish}
use Rattle.iso_model.proofs.body_laws.step_keeps_what_a_body_comes_to.Goals as goal

pub returns-clause-step : goal.returns-clause-step
returns-clause-step c = body-step-finish

pub returns-clause-steps : goal.returns-clause-steps
returns-clause-steps c = body-steps-finish

pub returns-clause-jobs : goal.returns-clause-jobs
returns-clause-jobs c = from-finish
