use Rattle.iso_plan.proofs.KeyLemmas.{number-is, guessed-is}
use Rattle.iso_plan.proofs.locks.number_of.Goals as goal

pub returns-then-eq-clause-exact : goal.returns-then-eq-clause-exact
returns-then-eq-clause-exact c = λ i h.
    guessed-is c.as_slice-known.result.now c.args.keys.now.keys c.args.key.now c.args.guess _ c.as_slice-known.ensures.keys c.if-guess-known.true c.if-eq.ensures c.requires i h

pub returns-clause-exact : goal.returns-clause-exact
returns-clause-exact c = λ i h. number-is c.args.keys.now.keys c.args.key.now c.get_index_of.result c.get_index_of.ensures.index c.requires i h
