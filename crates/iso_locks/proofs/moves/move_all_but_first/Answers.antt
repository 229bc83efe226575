use Rattle.std.proofs.Common.{◌<◌, length, arith, ◌∙◌}
use Rattle.iso_locks.proofs.MoveLemmas.{all-away, all-here}
use Rattle.iso_locks.proofs.moves.move_all_but_first.Goals as goal

pub returns-then-has_none_from-clause-here : goal.returns-then-has_none_from-clause-here
returns-then-has_none_from-clause-here c =
    c.swap_but_first.ensures.here ∙ all-here c.args.locks.now c.args.there.now c.args.here.now c.requires.fits (c.has_none_from.ensures.0 c.if-has_none_from.true) c.requires.all

pub returns-then-has_none_from-clause-there : goal.returns-then-has_none_from-clause-there
returns-then-has_none_from-clause-there c =
    c.swap_but_first.ensures.there ∙ all-away c.args.locks.now c.args.there.now c.args.here.now c.requires.fits (c.has_none_from.ensures.0 c.if-has_none_from.true) c.requires.all

pub swap_but_first-requires-clause-there : goal.swap_but_first-requires-clause-there
swap_but_first-requires-clause-there c = c.requires.all.some

pub swap_but_first-requires-clause-here : goal.swap_but_first-requires-clause-here
swap_but_first-requires-clause-here c =
    let some : 0 < length c.args.there.now = c.requires.all.some in
    let same = c.requires.fits in
    omega (arith, some, same)
