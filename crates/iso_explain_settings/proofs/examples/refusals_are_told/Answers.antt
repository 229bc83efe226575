use Rattle.std.proofs.Common.{refl}
use Rattle.std.specs.Char.{encode_utf8}
use Rattle.std.specs.Fmt.{digits}
use Rattle.std.specs.Str.{chars}
use Rattle.iso_summary.proofs.Computing.{unseen}
use Rattle.iso_explain_settings.proofs.examples.refusals_are_told.Goals as goal

pub returns-clause-word : goal.returns-clause-word
unfolding digits chars encode_utf8 unseen
returns-clause-word c = refl

pub returns-clause-header : goal.returns-clause-header
unfolding digits chars encode_utf8 unseen
returns-clause-header c = refl

pub returns-clause-utf8 : goal.returns-clause-utf8
unfolding digits chars encode_utf8 unseen
returns-clause-utf8 c = refl

pub returns-clause-utf16 : goal.returns-clause-utf16
unfolding digits chars encode_utf8 unseen
returns-clause-utf16 c = refl
