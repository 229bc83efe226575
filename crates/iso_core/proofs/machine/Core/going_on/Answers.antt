use Rattle.std.proofs.Common.{ℕ, not, ap, ◌∙◌}
use Rattle.iso_core.proofs.Progressing.{below-next, refuses-by}
use Rattle.iso_core.specs.Cores.{refusal_in}
use Rattle.iso_core.specs.Progress.{Refuses}
use Rattle.iso_standing.specs.declared.event.Event.TheVariants as Event
use Rattle.iso_core.proofs.machine.Core.going_on.Goals as goal

pub workers-preserved : goal.workers-preserved
workers-preserved c =
    let v = c.args.self.now in
    let w = c.workers.worker in
    let step : Refuses v (Event.Step w) = refuses-by c.refusal.result (refusal_in v (Event.Step w)) c.refusal.ensures (c.is_none.ensures ∙ ap not c.if-is_none.false) in
    let leave : Refuses v (Event.Leave w) = refuses-by c.refusal-in-workers.result (refusal_in v (Event.Leave w)) c.refusal-in-workers.ensures
    (c.is_none-in-workers.ensures ∙ ap not c.if-is_none-2.false) in
    below-next (λ (u : ℕ). Refuses v (Event.Step u) × Refuses v (Event.Leave u)) w c.workers.invariant (step, leave)
