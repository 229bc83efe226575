use Rattle.std.proofs.Common.{refl, ◌∙◌}
use Rattle.iso_lifecycle.proofs.ExampleResults.{told-by}
use Rattle.iso_lifecycle.specs.ResultExamples.{all_opened, three_classes, two_ended}
use Rattle.iso_plan.specs.Paths.{path}
use Rattle.iso_lifecycle.proofs.result_examples.results_are_there_once_put.Goals as goal

pub returns-clause-barring : goal.returns-clause-barring
unfolding path
returns-clause-barring c plan e = told-by (all_opened plan) three_classes 1 e ∙ refl

pub returns-clause-open : goal.returns-clause-open
unfolding path
returns-clause-open c plan e = told-by (all_opened plan) three_classes 7 e ∙ refl

pub returns-clause-waiting : goal.returns-clause-waiting
unfolding path
returns-clause-waiting c plan e = told-by (all_opened plan) three_classes 8 e ∙ refl

pub returns-clause-class : goal.returns-clause-class
unfolding path
returns-clause-class c plan e = told-by (two_ended plan) three_classes 1 e ∙ refl

pub returns-clause-test : goal.returns-clause-test
unfolding path
returns-clause-test c plan e = told-by (two_ended plan) three_classes 8 e ∙ refl
