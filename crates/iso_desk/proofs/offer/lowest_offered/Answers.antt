use Rattle.std.proofs.Common.{ℕ, ◌∙◌, ap, sym}
use Rattle.iso_desk.specs.Marking.{bit}
use Rattle.iso_desk.proofs.BitLemmas.{bit_none, lowest_offer, offers-is}
use Rattle.iso_desk.proofs.offer.lowest_offered.Goals as goal

pub returns-then-open-eq0 : goal.returns-then-open-eq0
returns-then-open-eq0 c =
    λ t h. sym (offers-is c.args.reading c.args.written c.args.writing c.args.held t c.ranges.written.fits c.ranges.held.fits h) ∙ ap (λ (k : ℕ). bit k t) c.if-open-eq0.true ∙ bit_none t

pub returns : goal.returns
returns c = lowest_offer c.args.reading c.args.written c.args.writing c.args.held c.ranges.reading.fits c.ranges.written.fits c.ranges.writing.fits c.ranges.held.fits c.if-open-eq0.false
