use Rattle.iso_interp.proofs.run.BlockRun.perform_one.Goals as goal

pub returns-in-ClearProp-clause-done : goal.returns-in-ClearProp-clause-done
returns-in-ClearProp-clause-done g c = rw c.in-ClearProp.is c.clear_prop.ensures.done

pub returns-in-SetLocale-clause-done : goal.returns-in-SetLocale-clause-done
returns-in-SetLocale-clause-done g c = rw c.in-SetLocale.is c.set_locale.ensures.done
