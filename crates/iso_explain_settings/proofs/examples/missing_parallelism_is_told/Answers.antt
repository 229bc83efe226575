use Rattle.std.proofs.Common.{refl}
use Rattle.iso_explain_settings.proofs.examples.missing_parallelism_is_told.Goals as goal

pub returns : goal.returns
returns c = refl
