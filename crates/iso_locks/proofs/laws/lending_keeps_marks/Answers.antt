use Rattle.iso_locks.proofs.StillLemmas.{undo-lent}
use Rattle.iso_locks.proofs.laws.lending_keeps_marks.Goals as goal

pub returns : goal.returns
returns c = undo-lent
