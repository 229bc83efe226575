use Rattle.iso_summary.proofs.ShownLemmas.{line-is-printable}
use Rattle.iso_summary.proofs.laws.lines_are_shown_printable.Goals as goal

pub returns : goal.returns
returns c line = line-is-printable line
