use Rattle.std.proofs.Common.{[], ◌∷◌, refl}
use Rattle.iso_desk.proofs.BitLemmas.{none_has}
use Rattle.iso_locks.proofs.key_set.KeySet.new.Goals as goal

pub returns : goal.returns
returns c = λ k. none_has (0 ∷ 0 ∷ 0 ∷ 0 ∷ []) 4 k refl
