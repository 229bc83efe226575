use Rattle.iso_locks.proofs.MoveLemmas.{none-away, none-here}
use Rattle.iso_locks.proofs.moves.move_values.Goals as goal

pub returns-in-Nothing-clause-here : goal.returns-in-Nothing-clause-here
returns-in-Nothing-clause-here c = none-here c.args.locks.now c.args.there.now c.args.here.now (c.requires.nothing c.in-Nothing.is)

pub returns-in-Nothing-clause-there : goal.returns-in-Nothing-clause-there
returns-in-Nothing-clause-there c = none-away c.args.locks.now c.args.there.now (c.requires.nothing c.in-Nothing.is)
