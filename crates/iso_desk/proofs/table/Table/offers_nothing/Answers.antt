use Rattle.std.proofs.Common.{is_some}
use Rattle.iso_desk.specs.Offers.{NothingOffered}
use Rattle.iso_desk.proofs.CrewLemmas.{nothing_by, of_not}
use Rattle.iso_desk.proofs.table.Table.offers_nothing.Goals as goal

pub returns : goal.returns
returns c =
    of_not (NothingOffered c.args.self.now.places c.args.held.now c.args.written.now c.args.party) c.is_none.result (is_some c.on_offer.result) c.is_none.ensures
    (nothing_by c.args.self.now.places c.args.held.now c.args.written.now c.args.party c.on_offer.result c.on_offer.ensures.offer)
