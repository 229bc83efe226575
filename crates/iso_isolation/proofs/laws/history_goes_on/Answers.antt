use Rattle.iso_isolation.proofs.Going.{goes_on, leaves}
use Rattle.iso_isolation.proofs.laws.history_goes_on.Goals as goal

pub returns : goal.returns
returns g c = record {
  accepted = λ l x laws ends plan workers h e. goes_on l x plan laws ends workers h e;
  leaves = λ l x laws ends plan workers h w. leaves l x plan laws ends workers h w;
}
