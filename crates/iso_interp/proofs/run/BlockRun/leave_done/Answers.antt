use Rattle.std.proofs.Common.{◌≡◌, false, sym, ◌∙◌, rules}
use Rattle.iso_interp.specs.Blocks.{is_empty}
use Rattle.iso_interp.specs.Runs.{local_of}
use Rattle.iso_interp.proofs.Stack.{leave-top_rest}
use Rattle.iso_interp.proofs.run.BlockRun.leave_done.Goals as goal

pub returns-then-not-is_empty-clause-left : goal.returns-then-not-is_empty-clause-left
returns-then-not-is_empty-clause-left c =
    let run = c.loop-self.self in
    let some : is_empty c.in-Some-Rest.statements ≡ false = search rules in
    sym (leave-top_rest run.top _ c.in-Some-Rest.names c.in-Some-Rest.statements run.below.items (local_of run) c.in-Some-Rest.is (rw c.in-Some-Rest.is at c.in-Some-Rest.field-0-is) some)
    ∙ c.loop-self.invariant.left
