use Rattle.std.proofs.Common.{◌≡◌, ◌<◌, ◌≤◌, ℕ, MatchOption, ap, arith, false, subst, true}
use Rattle.iso_desk.specs.Lines.{party_number}
use Rattle.iso_desk.specs.Offers.{IsLowestOffer, NothingOffered, offers_key}
use Rattle.iso_desk.specs.Places.{TableView}
use Rattle.iso_desk.proofs.OfferLemmas.{below_by, offer_from}
use Rattle.iso_desk.proofs.table.Table.on_offer.Goals as goal

pub lowest_key-requires : goal.lowest_key-requires
lowest_key-requires c =
    let same : c.self.inside.workers ≡ c.args.self.now.workers = ap (λ (v : TableView). v.workers) c.self.view_is in
    let party : party_number c.args.party ≤ c.args.self.now.workers = c.requires.party in
    let lines = c.self.invariant.linked.lines in
    let size = c.filled.ensures.room in
    record { filled = omega (arith, c.number.ensures); held = c.requires.held; written = c.requires.written }

pub returns-clause-offer : goal.returns-clause-offer
returns-clause-offer c =
    let same : c.self.inside.workers ≡ c.args.self.now.workers = ap (λ (v : TableView). v.workers) c.self.view_is in
    let party : party_number c.args.party ≤ c.args.self.now.workers = c.requires.party in
    let ours : party_number c.args.party ≤ c.self.inside.workers = omega arith in
    let f = c.filled.result.now in
    let h = c.args.held.now in
    let w = c.args.written.now in
    subst (λ (v : TableView). MatchOption c.lowest_key.result (NothingOffered v.places h w c.args.party) (λ k. IsLowestOffer v.places h w c.args.party k)) c.self.view_is
    (offer_from c.self.inside.workers c.self.inside.places.items c.self.inside.next.items c.self.inside.ends f c.self.inside.clock c.self.inside.front c.self.invariant c.filled.ensures c.args.party h w
    c.lowest_key.result ours
    (subst
    (λ (p : ℕ).
    MatchOption c.lowest_key.result ((k : ℕ) → k < 256 → offers_key f p h w k ≡ false)
    (λ k. (k < 256) × (offers_key f p h w k ≡ true) × ((j : ℕ) → j < k → offers_key f p h w j ≡ false)))
    c.number.ensures c.lowest_key.ensures))

pub returns-clause-key : goal.returns-clause-key
returns-clause-key c = below_by 256 c.lowest_key.result _ _ _ c.lowest_key.ensures
