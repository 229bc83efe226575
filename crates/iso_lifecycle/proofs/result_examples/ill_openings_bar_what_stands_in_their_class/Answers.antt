use Rattle.std.proofs.Common.{refl, ◌∙◌}
use Rattle.iso_lifecycle.proofs.ExampleResults.{told-by}
use Rattle.iso_lifecycle.specs.ResultExamples.{all_opened, three_classes}
use Rattle.iso_plan.specs.Paths.{path}
use Rattle.iso_lifecycle.proofs.result_examples.ill_openings_bar_what_stands_in_their_class.Goals as goal

pub returns-clause-test : goal.returns-clause-test
unfolding path
returns-clause-test c plan e = told-by (all_opened plan) three_classes 2 e ∙ refl

pub returns-clause-class : goal.returns-clause-class
unfolding path
returns-clause-class c plan e = told-by (all_opened plan) three_classes 3 e ∙ refl

pub returns-clause-deeper : goal.returns-clause-deeper
unfolding path
returns-clause-deeper c plan e = told-by (all_opened plan) three_classes 4 e ∙ refl

pub returns-clause-skipped : goal.returns-clause-skipped
unfolding path
returns-clause-skipped c plan e = told-by (all_opened plan) three_classes 6 e ∙ refl
