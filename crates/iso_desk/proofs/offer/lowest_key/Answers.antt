use Rattle.iso_desk.proofs.OfferLemmas.{found}
use Rattle.iso_desk.proofs.offer.lowest_key.Goals as goal

pub returns-in-Some : goal.returns-in-Some
returns-in-Some c =
    found c.args.filled.now c.args.held.now c.args.written.now c.args.party c.words.at c.in-Some.bit c.word-reading.result c.word.result c.word-writing.result c.word-in-words.result
    c.words-test.true c.word-reading.ensures c.word.ensures c.word-writing.ensures c.word-in-words.ensures c.in-Some.ensures c.words.invariant
