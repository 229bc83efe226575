use Rattle.iso_locks.proofs.KeySetLemmas.{lowest-from, none-from}
use Rattle.iso_locks.proofs.key_set.lowest_from.Goals as goal

pub returns-then-rest-eq0 : goal.returns-then-rest-eq0
returns-then-rest-eq0 c = none-from c.args.word c.args.from c.if-rest-eq0.true

pub returns : goal.returns
returns c =
    let low = lowest-from c.args.word c.args.from c.ranges.word.fits c.if-rest-eq0.false in
    (low.from, low.within, low.is, low.none)
