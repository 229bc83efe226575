use Rattle.iso_waits.proofs.CoverLemmas.{some-if}
use Rattle.iso_waits.specs.AllWaits.{has_key}
use Rattle.iso_waits.proofs.laws.waits_are_told_where_there_are_any.Goals as goal

pub returns : goal.returns
returns c tree n k ws = some-if n k (has_key tree n k) ws
