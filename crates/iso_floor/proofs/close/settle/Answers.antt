use Rattle.iso_floor.proofs.close.settle.Goals as goal

pub returns-in-Some-clause-fault : goal.returns-in-Some-clause-fault
returns-in-Some-clause-fault g c = rw (← c.history.ensures.events) c.in-Some.ensures
