use Rattle.std.proofs.Common.{refl}
use Rattle.std.specs.Fmt.{digits}
use Rattle.iso_summary.proofs.examples.one_has_its_own_word.Goals as goal

pub returns : goal.returns
unfolding digits
returns c = refl
