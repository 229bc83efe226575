use Rattle.iso_plan.proofs.BoundLemmas.{all-kept, keys-written}
use Rattle.iso_plan.proofs.laws.fewer_marks_are_all_kept.Goals as goal

pub returns-clause-all : goal.returns-clause-all
returns-clause-all c = all-kept c.args.marks.now

pub returns-clause-written : goal.returns-clause-written
returns-clause-written c = keys-written c.args.marks.now
