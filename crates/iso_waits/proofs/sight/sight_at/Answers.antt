use Rattle.std.proofs.Common.{ap, sym, ◌∙◌, arith}
use Rattle.iso_waits.proofs.MomentLemmas.{lowest-later}
use Rattle.iso_waits.specs.Moments.{lower_of}
use Rattle.iso_waits.specs.declared.stay.Stay.{Stay}
use Rattle.iso_waits.proofs.sight.sight_at.Goals as goal

pub returns-then-at-stay-clause-same : goal.returns-then-at-stay-clause-same
returns-then-at-stay-clause-same c t from until =
    let d : Stay = record { node = 0; begin = 0; end = 0 } in
    let none = lowest-later t c.args.stays.now c.loop-stay.stay-index d c.requires.order c.loop-stay-test.true (omega arith) in
    sym (c.loop-stay.invariant.same t from (omega arith)) ∙ ap (lower_of c.loop-stay.holder) none
