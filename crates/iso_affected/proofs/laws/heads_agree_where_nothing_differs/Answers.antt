use Rattle.iso_affected.proofs.DifferenceLemmas.{nothing-differs}
use Rattle.iso_affected.proofs.laws.heads_agree_where_nothing_differs.Goals as goal

pub returns : goal.returns
returns c = nothing-differs
