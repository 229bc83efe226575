use Rattle.iso_locks.proofs.LawLemmas.{other-mark, own-mark}
use Rattle.iso_locks.proofs.laws.further_changes_keep_marks.Goals as goal

pub returns : goal.returns
returns c = record {
  own = own-mark;
  others = other-mark;
}
