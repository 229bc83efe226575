use Rattle.std.proofs.Common.{ℕ, ◌<◌, is_none, not, ap, sym, ◌∙◌}
use Rattle.iso_core.proofs.Progressing.{below-next, refuses-by}
use Rattle.iso_core.specs.Cores.{refusal_in}
use Rattle.iso_core.specs.Progress.{Refuses, shut_by_owner}
use Rattle.iso_standing.specs.declared.event.Event.TheVariants.{Shut}
use Rattle.iso_core.proofs.machine.Core.shutting.Goals as goal

pub nodes-preserved : goal.nodes-preserved
nodes-preserved c =
    let v = c.args.self.now in
    let n = c.nodes.node in
    let w = c.owner-worker.result in
    let here : Refuses v (shut_by_owner v n) =
    ap (λ (u : ℕ). is_none (refusal_in v (Shut u n))) (sym c.owner-worker.ensures)
    ∙ refuses-by c.refusal.result (refusal_in v (Shut w n)) c.refusal.ensures (c.is_none.ensures ∙ ap not c.if-is_none.false) in
    λ m pos h. below-next (λ (j : ℕ). 0 < j → Refuses v (shut_by_owner v j)) n (λ j less p. c.nodes.invariant j p less) (λ _. here) m h pos
