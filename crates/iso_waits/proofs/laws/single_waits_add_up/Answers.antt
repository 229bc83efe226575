use Rattle.std.proofs.Common.{filter}
use Rattle.iso_waits.proofs.CoverLemmas.{adds-up}
use Rattle.iso_waits.specs.AllWaits.{has_key}
use Rattle.iso_waits.proofs.laws.single_waits_add_up.Goals as goal

pub returns : goal.returns
returns c tree n k ws = adds-up n k (filter (has_key tree n k) ws)
