use Rattle.iso_progress.proofs.Answering.{searched}
use Rattle.iso_progress.proofs.laws.search_finds_an_accepted_event.Goals as goal

pub returns : goal.returns
returns g c = λ l x laws plan more workers s r. searched l x plan laws more workers s r
