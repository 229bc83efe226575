use Rattle.std.proofs.Common.{refl}
use Rattle.iso_plan.specs.Paths.{path}
use Rattle.std.specs.Fmt.{digits}
use Rattle.iso_github.proofs.examples.what_is_not_escaped_is_refused.Goals as goal

pub returns-clause-line_feed : goal.returns-clause-line_feed
unfolding digits path
returns-clause-line_feed c = refl

pub returns-clause-comma : goal.returns-clause-comma
unfolding digits path
returns-clause-comma c = refl

pub returns-clause-colon : goal.returns-clause-colon
unfolding digits path
returns-clause-colon c = refl

pub returns-clause-percent : goal.returns-clause-percent
unfolding digits path
returns-clause-percent c = refl

pub returns-clause-unknown : goal.returns-clause-unknown
unfolding digits path
returns-clause-unknown c = refl

pub returns-clause-read : goal.returns-clause-read
unfolding digits path
returns-clause-read c = refl
