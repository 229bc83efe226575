use Rattle.iso_tap.proofs.PrinterLemmas.{prints_as, prints_then}
use Rattle.iso_commands.proofs.part.file_option.Goals as goal

pub returns-in_ok-bytes-in-Some : goal.returns-in_ok-bytes-in-Some
returns-in_ok-bytes-in-Some g c =
    rw c.in-Some.is (prints_then _ (prints_as c.in_ok-bytes-in-Some.ensures c.args.option.now c.as_bytes.ensures.value) c.file.ensures)
