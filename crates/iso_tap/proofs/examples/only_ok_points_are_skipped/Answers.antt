use Rattle.std.proofs.Common.{refl}
use Rattle.std.specs.Fmt.{digits}
use Rattle.iso_tap.proofs.examples.only_ok_points_are_skipped.Goals as goal

pub returns-clause-ok : goal.returns-clause-ok
unfolding digits
returns-clause-ok c = refl

pub returns-clause-not_ok : goal.returns-clause-not_ok
unfolding digits
returns-clause-not_ok c = refl
