use Rattle.iso_summary.proofs.ShownLemmas.{bytes-are-printable}
use Rattle.iso_summary.proofs.laws.hints_are_shown_printable.Goals as goal

pub returns : goal.returns
returns c = bytes-are-printable
