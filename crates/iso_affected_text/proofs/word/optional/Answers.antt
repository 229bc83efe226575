use Rattle.iso_tap.proofs.PrinterLemmas.{prints_as, prints_then}
use Rattle.iso_affected_text.proofs.word.optional.Goals as goal

pub returns-in_ok-bytes-in-Some : goal.returns-in_ok-bytes-in-Some
returns-in_ok-bytes-in-Some g c =
    rw c.in-Some.is
    (prints_then _ (prints_as c.in_ok-bytes-in-Some.ensures c.args.before.now c.as_bytes.ensures.value)
    (prints_as c.bytes-in-Some.ensures c.in-Some.text.now c.as_bytes-in-Some.ensures.value))
