use Rattle.iso_interp.proofs.run.BlockRun.perform_two.Goals as goal

pub returns-in-SetProp-clause-done : goal.returns-in-SetProp-clause-done
returns-in-SetProp-clause-done g c = rw c.in-SetProp.is c.set_prop.ensures.done
