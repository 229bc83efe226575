use Rattle.std.proofs.Common.{refl}
use Rattle.std.specs.Fmt.{digits}
use Rattle.iso_explain_settings.specs.Unknown.{with_key, with_one}
use Rattle.iso_explain_settings.proofs.examples.settings_are_listed.Goals as goal

pub returns : goal.returns
unfolding digits with_key with_one
returns c = refl
