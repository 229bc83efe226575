use Rattle.std.proofs.Common.{sym, ◌∙◌}
use Rattle.std.proofs.lemmas.Result.{on_ok_weaker}
use Rattle.iso_lifecycle.proofs.WorkLemmas.{settled-once-ended}
use Rattle.iso_lifecycle.proofs.due_blocks.Rest.settle.Goals as goal

pub returns-clause-stage : goal.returns-clause-stage
returns-clause-stage c =
    let done = sym c.is_ended.ensures ∙ c.if-is_ended.true in
    let taken = c.in-Some.is ∙ sym c.take.ensures.value ∙ c.in-Some-take.is in
    let ends = settled-once-ended c.args.block.now c.in-Some.run' c.in-Some-take.run' c.args.self.now c.end_block.new.self c.in-Some.is done taken
    c.in_ok-end_block.ensures.chain c.in_ok-end_block.ensures.next c.in_ok-end_block.ensures.account in
    on_ok_weaker c.follow.result (λ d. d ∙ ends) c.follow.ensures.stage
