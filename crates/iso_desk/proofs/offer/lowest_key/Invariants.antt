use Rattle.std.proofs.Common.{◌≡◌, ℕ, ◌*◌, ◌<◌, false}
use Rattle.iso_desk.specs.Offers.{offers_key}
use Rattle.iso_desk.proofs.offer.lowest_key.Given as goal

abbrev pub invariant-words : goal.invariant-words
invariant-words l = (k : ℕ) → k < 64 * l.at → offers_key l.filled l.party l.held l.written k ≡ false
