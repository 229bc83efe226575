use Rattle.iso_record.proofs.RecordLemmas.{all_left, has_left, has_stepped, may_leave, same_on, same_suite}
use Rattle.iso_record.specs.Recordings.{history_in}
use Rattle.iso_record.proofs.recording.Recording.leave.Goals as goal

pub steps-init : goal.steps-init
steps-init c = record {
  same = same_suite c.args.self.now;
  left = all_left c.args.self.now (history_in c.args.self.now) c.args.worker c.requires.taken;
}

pub leave_or_step-requires : goal.leave_or_step-requires
leave_or_step-requires c =
    may_leave c.args.self.now c.steps.self c.steps.self c.args.worker c.steps.invariant.same c.requires.goes_on c.steps.invariant.left

pub returns-then-branch-clause-gone_on : goal.returns-then-branch-clause-gone_on
returns-then-branch-clause-gone_on c =
    has_left c.args.self.now c.steps.self c.leave_or_step.new.self c.args.worker c.steps.invariant.same c.requires.goes_on c.steps.invariant.left
    (c.in_ok-leave_or_step.ensures.left c.if-branch.true)

pub steps-preserved : goal.steps-preserved
steps-preserved c = record {
  same = same_on c.args.self.now c.steps.self c.leave_or_step.new.self c.steps.invariant.same c.leave_or_step.ensures.same;
  left = has_stepped c.args.self.now c.steps.self c.leave_or_step.new.self c.args.worker c.steps.invariant.same c.requires.goes_on c.steps.invariant.left
      (c.in_ok-leave_or_step.ensures.stepped c.if-branch.false);
}
