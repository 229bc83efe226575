use Rattle.iso_floor.proofs.HintLemmas.{takes-at}
use Rattle.iso_floor.proofs.hints.first_excluded.Goals as goal

pub returns-then-excludes-clause-own : goal.returns-then-excludes-clause-own
returns-then-excludes-clause-own c = takes-at c.args.locks.now c.locks.lock-index _ c.locks-test.true
