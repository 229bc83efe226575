use Rattle.std.proofs.Common.{refl}
use Rattle.std.specs.Char.{encode_utf8}
use Rattle.std.specs.Fmt.{digits}
use Rattle.std.specs.Str.{chars}
use Rattle.iso_summary.proofs.Computing.{unseen}
use Rattle.iso_affected_text.proofs.examples.paths_are_of_changed_and_new_nodes.Goals as goal

pub returns : goal.returns
unfolding digits chars encode_utf8 unseen
returns c = refl
