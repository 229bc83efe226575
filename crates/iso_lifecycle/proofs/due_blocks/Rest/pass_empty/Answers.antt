use Rattle.std.proofs.Common.{◌∙◌}
use Rattle.std.proofs.lemmas.Result.{on_ok_weaker}
use Rattle.iso_lifecycle.proofs.due_blocks.Rest.pass_empty.Goals as goal

pub returns-clause-stage : goal.returns-clause-stage
returns-clause-stage c =
    on_ok_weaker c.pass_after_each.result (λ d. d ∙ c.in_ok-pass_test.ensures.stage ∙ c.in_ok-pass_before_each.ensures.stage) c.pass_after_each.ensures.stage
