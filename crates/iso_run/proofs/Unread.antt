-- Inputs that are no suite.
use Rattle.std.proofs.Common.{◌≡◌, Bool, Err, refl}
use Rattle.iso_run.specs.ExitStatuses.{BreaksOff, GivesUp, IfLate, IsEarly, LacksFile, Refuses, run_end}
use Rattle.iso_run.specs.Runs.{Product, Writes}
use Rattle.iso_run.specs.Suites.{NoSuite, Suite}
use Rattle.iso_run.specs.declared.run_fault.RunFault.{RunFault}
use Rattle.iso_run.specs.declared.run_fault.RunFault.TheVariants as F
use Rattle.iso_run.specs.declared.inputs.Inputs.{Inputs}
use Rattle.iso_run.specs.declared.way.Way.{Way}
use Rattle.iso_tap.specs.Sinks.{Account}

refuses-early : IsEarly Refuses
refuses-early = ((λ (e : Refuses ≡ BreaksOff). cc), (λ (e : Refuses ≡ LacksFile). cc))

pub gives-up-early : IsEarly GivesUp
gives-up-early = ((λ (e : GivesUp ≡ BreaksOff). cc), (λ (e : GivesUp ≡ LacksFile). cc))

-- in no way anything is written of them, and the sink is asked nothing
pub unread-unwritten : {A : Type 0} (ok_of : A → Bool) (product : Suite → Product) (inputs : Inputs) (way : Way) (a : Account) (fault : RunFault)
    → NoSuite inputs fault → Writes ok_of product inputs way a a (Err fault)
unread-unwritten ok_of product inputs way a (F.Settings fault) h = record { cause = h; leaves = refl }
unread-unwritten ok_of product inputs way a (F.World fault) h = record { cause = h; leaves = refl }
unread-unwritten ok_of product inputs way a (F.Script index fault) h = record { cause = h; leaves = refl }
unread-unwritten ok_of product inputs way a (F.Plan fault) h = record { cause = h; leaves = refl }
unread-unwritten ok_of product inputs way a (F.Schedule fault) h = absurd h
unread-unwritten ok_of product inputs way a (F.Refused index why) h = absurd h
unread-unwritten ok_of product inputs way a F.Unfinished h = absurd h
unread-unwritten ok_of product inputs way a F.Start h = absurd h
unread-unwritten ok_of product inputs way a F.Lost h = absurd h
unread-unwritten ok_of product inputs way a F.Memory h = record { cause = h; leaves = refl }
unread-unwritten ok_of product inputs way a (F.Write written) h = absurd h

-- the end is early
pub unread-ends-early : (inputs : Inputs) (fault : RunFault) → NoSuite inputs fault → IsEarly (run_end fault)
unread-ends-early inputs (F.Settings fault) h = refuses-early
unread-ends-early inputs (F.World fault) h = refuses-early
unread-ends-early inputs (F.Script index fault) h = refuses-early
unread-ends-early inputs (F.Plan fault) h = refuses-early
unread-ends-early inputs (F.Schedule fault) h = absurd h
unread-ends-early inputs (F.Refused index why) h = absurd h
unread-ends-early inputs F.Unfinished h = absurd h
unread-ends-early inputs F.Start h = absurd h
unread-ends-early inputs F.Lost h = absurd h
unread-ends-early inputs F.Memory h = gives-up-early
unread-ends-early inputs (F.Write written) h = absurd h

-- nothing that comes after the inputs is told of them
pub unread-early : (inputs : Inputs) (X : Type 0) (fault : RunFault) → NoSuite inputs fault → IfLate (run_end fault) X
unread-early inputs X (F.Settings fault) h = tt
unread-early inputs X (F.World fault) h = tt
unread-early inputs X (F.Script index fault) h = tt
unread-early inputs X (F.Plan fault) h = tt
unread-early inputs X (F.Schedule fault) h = absurd h
unread-early inputs X (F.Refused index why) h = absurd h
unread-early inputs X F.Unfinished h = absurd h
unread-early inputs X F.Start h = absurd h
unread-early inputs X F.Lost h = absurd h
unread-early inputs X F.Memory h = tt
unread-early inputs X (F.Write written) h = absurd h
