use Rattle.iso_selection.specs.declared.list.TheConstants.{LIST_BYTES}
use Rattle.iso_run.proofs.Reading.{listed-whole}
use Rattle.iso_run.proofs.files.read_list.Goals as goal

pub returns-then-eq-clause-piped : goal.returns-then-eq-clause-piped
returns-then-eq-clause-piped g c = λ piped. listed-whole (g.R.Read.remaining c.args.input.now) LIST_BYTES c.in_ok-bytes.bytes c.listed_in.result c.in_ok-bytes.ensures.bytes c.listed_in.ensures.whole
