use Rattle.iso_summary.proofs.PlainLemmas.{name-is-plain}
use Rattle.iso_summary.proofs.ShownLemmas.{name-has-none}
use Rattle.iso_summary.proofs.laws.names_stay_in_their_line.Goals as goal

pub returns-clause-ascii : goal.returns-clause-ascii
returns-clause-ascii c name = name-has-none name

pub returns-clause-unicode : goal.returns-clause-unicode
returns-clause-unicode c name text = name-is-plain name text
