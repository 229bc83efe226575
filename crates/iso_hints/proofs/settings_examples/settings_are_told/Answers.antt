use Rattle.std.proofs.Common.{refl}
use Rattle.std.specs.Fmt.{digits}
use Rattle.iso_hints.proofs.settings_examples.settings_are_told.Goals as goal

pub returns : goal.returns
unfolding digits
returns c = refl
