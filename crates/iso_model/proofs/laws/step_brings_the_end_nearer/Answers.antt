use Rattle.iso_model.proofs.Ends.{step-distance, step-ready}
use Rattle.iso_model.proofs.LawLemmas.{first-ready}
use Rattle.iso_model.proofs.laws.step_brings_the_end_nearer.Goals as goal

pub returns-clause-nearer : goal.returns-clause-nearer
returns-clause-nearer c = step-distance

pub returns-clause-ready : goal.returns-clause-ready
returns-clause-ready c = step-ready

pub returns-clause-begins_ready : goal.returns-clause-begins_ready
returns-clause-begins_ready c = first-ready
