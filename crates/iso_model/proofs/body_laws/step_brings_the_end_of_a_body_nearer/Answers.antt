use Rattle.iso_model.proofs.BodyRuns.{body-step-distance, body-step-ready, from-distance, from-ready}
use Rattle.iso_model.proofs.body_laws.step_brings_the_end_of_a_body_nearer.Goals as goal

pub returns-clause-nearer : goal.returns-clause-nearer
returns-clause-nearer c = body-step-distance

pub returns-clause-ready : goal.returns-clause-ready
returns-clause-ready c = body-step-ready

pub returns-clause-begins_ready : goal.returns-clause-begins_ready
returns-clause-begins_ready c = from-ready

pub returns-clause-within : goal.returns-clause-within
returns-clause-within c = from-distance
