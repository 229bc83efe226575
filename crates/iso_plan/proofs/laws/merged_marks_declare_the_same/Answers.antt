use Rattle.iso_plan.proofs.SameMarks.{merged-firsts, merged-rights}
use Rattle.iso_plan.proofs.laws.merged_marks_declare_the_same.Goals as goal

pub returns-clause-rights : goal.returns-clause-rights
returns-clause-rights c = merged-rights c.args.marks.now

pub returns-clause-keys : goal.returns-clause-keys
returns-clause-keys c = merged-firsts c.args.marks.now
