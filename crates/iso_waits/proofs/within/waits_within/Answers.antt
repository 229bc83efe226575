use Rattle.std.proofs.Common.{◌∙◌, sym, arith}
use Rattle.iso_waits.proofs.WaitedLemmas.{waited-next}
use Rattle.iso_waits.specs.Moments.{lowest_at}
use Rattle.iso_waits.proofs.within.waits_within.Goals as goal

pub moments-preserved : goal.moments-preserved
moments-preserved c =
    let ss = c.args.stays.now in
    let at = c.moments.at in
    let next = c.sight_at-sight.result.until in
    record {
      begun = omega (arith, c.sight_at-sight.ensures.later);
      within = omega (arith, c.sight_at-sight.ensures.within);
      told =
          waited-next (λ t. lowest_at t ss) c.args.from at next c.sight_at-sight.result.holder c.moments.told c.goes_on.new.self c.moments.invariant.begun c.sight_at-sight.ensures.later
          (λ s a b. sym (c.moments.invariant.same s a) ∙ sym (c.unfinished-left.ensures.same s a) ∙ c.sight_at-sight.ensures.same s a b)
          c.moments.invariant.told c.in_ok-goes_on.ensures;
      order = c.unfinished-left.ensures.order;
      same = λ t a. c.unfinished-left.ensures.same t (omega (arith, c.sight_at-sight.ensures.later)) ∙ c.moments.invariant.same t (omega (arith, c.sight_at-sight.ensures.later));
    }
