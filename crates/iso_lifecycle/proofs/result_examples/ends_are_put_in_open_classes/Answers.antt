use Rattle.std.proofs.Common.{◌≡◌, false, true, refl, sym, ◌∙◌}
use Rattle.iso_lifecycle.proofs.ExampleResults.{well-by}
use Rattle.iso_lifecycle.specs.ResultExamples.{three_classes}
use Rattle.iso_plan.specs.Paths.{path}
use Rattle.iso_settings.specs.Worlds.{empty_start}
use Rattle.iso_lifecycle.proofs.result_examples.ends_are_put_in_open_classes.Goals as goal

pub returns-clause-open : goal.returns-clause-open
unfolding path
returns-clause-open c plan e = ((refl, well-by plan empty_start three_classes 7 e ∙ refl), tt)

pub returns-clause-ill : goal.returns-clause-ill
unfolding path
returns-clause-ill c plan e are_open =
    let wrong : false ≡ true = sym (well-by plan empty_start three_classes 5 e) ∙ are_open.0.1 in
    absurd (cc)

pub returns-clause-unopened : goal.returns-clause-unopened
returns-clause-unopened c plan are_open = absurd (cc (are_open.0.0))
