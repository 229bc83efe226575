use Rattle.std.proofs.Common.{ap, subst, sym, ◌∙◌}
use Rattle.iso_desk.specs.declared.line.Line.TheVariants.{Key}
use Rattle.iso_floor.specs.Schedulers.{SchedulerView}
use Rattle.iso_floor.specs.Parties.{StandRightly}
use Rattle.iso_desk.specs.Places.{StandsIn, place_of}
use Rattle.iso_floor.proofs.RemainderLemmas.{left-is}
use Rattle.iso_floor.proofs.SuccessionLemmas.{turns-is}
use Rattle.iso_floor.proofs.scheduler.Scheduler.leave.Goals as goal

pub returns-in-BeforeAll-clause-lines : goal.returns-in-BeforeAll-clause-lines
returns-in-BeforeAll-clause-lines c = λ n l st. subst (λ (s : SchedulerView). StandsIn s.table.places (Key l) n) c.leave_open.ensures st

pub returns-in-BeforeAll-clause-stands : goal.returns-in-BeforeAll-clause-stands
returns-in-BeforeAll-clause-stands c = λ right. subst (λ (s : SchedulerView). StandRightly c.args.plan.now s.owners s.table.places) (sym c.leave_open.ensures) right

pub returns-in-BeforeAll-clause-closes : goal.returns-in-BeforeAll-clause-closes
returns-in-BeforeAll-clause-closes c = λ n e. ap (λ (s : SchedulerView). place_of s.table.places n) (sym c.leave_open.ensures) ∙ e

pub returns-in-BeforeAll-clause-turns : goal.returns-in-BeforeAll-clause-turns
returns-in-BeforeAll-clause-turns c = λ turn. turns-is c.args.plan.now c.args.self.now c.leave_open.new.self c.leave_open.ensures turn

pub returns-in-BeforeAll-clause-left : goal.returns-in-BeforeAll-clause-left
returns-in-BeforeAll-clause-left c = λ turn have. left-is c.args.plan.now c.args.self.now c.leave_open.new.self c.leave_open.ensures have
