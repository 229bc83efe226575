use Rattle.std.proofs.Common.{refl}
use Rattle.iso_explain_settings.proofs.examples.control_bytes_of_keys_are_not_shown.Goals as goal

pub returns : goal.returns
returns c = refl
