use Rattle.std.proofs.Common.{refl}
use Rattle.std.specs.Fmt.{digits}
use Rattle.iso_explain.specs.Explanations.{explanation}
use Rattle.iso_explain.proofs.examples.open_body_is_told.Goals as goal

pub returns : goal.returns
unfolding explanation digits
returns c = refl
