use Rattle.iso_times.specs.Tables.{slot_of}
use Rattle.iso_times.proofs.FirstBegins.{first-lowest}
use Rattle.iso_times.proofs.laws.first_begin_is_the_lowest.Goals as goal

pub returns : goal.returns
returns c bodies n k = first-lowest bodies (slot_of n k)
