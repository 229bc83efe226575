use Rattle.std.proofs.Common.{refl}
use Rattle.std.specs.Char.{encode_utf8}
use Rattle.std.specs.Fmt.{digits}
use Rattle.std.specs.Str.{chars}
use Rattle.iso_explain_settings.specs.Unknown.{with_key, with_one}
use Rattle.iso_summary.proofs.Computing.{unseen}
use Rattle.iso_explain_settings.proofs.examples.settings_are_warned_of.Goals as goal

pub returns : goal.returns
unfolding digits chars encode_utf8 with_key with_one unseen
returns c = refl
