use Rattle.std.proofs.Common.{refl}
use Rattle.iso_script.proofs.ContextLemmas.{begin_at, end_at}
use Rattle.iso_script.proofs.context.is_reached.Goals as goal

pub returns-then-is_at-clause-reached : goal.returns-then-is_at-clause-reached
returns-then-is_at-clause-reached c = λ _. begin_at _ _ _ _ c.peek.ensures.next (c.if-is_at.ensures refl)

pub returns-in-End-clause-reached : goal.returns-in-End-clause-reached
returns-in-End-clause-reached c = λ _. end_at _ _ _ _ c.peek.ensures.next c.in-End.is
