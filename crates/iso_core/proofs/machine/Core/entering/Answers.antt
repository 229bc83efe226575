use Rattle.std.proofs.Common.{◌≡◌, ℕ, zero, suc, ◌<◌, List, is_none, not, ap, sym, ◌∙◌, arith}
use Rattle.std.specs.Prelude.{unwrap_or}
use Rattle.iso_core.proofs.Progressing.{below-next, refuses-by}
use Rattle.iso_core.specs.Cores.{refusal_in, state_in}
use Rattle.iso_core.specs.Progress.{Refuses, entered_by_owner}
use Rattle.iso_plan.specs.Paths.{parent, parent_of}
use Rattle.iso_plan.specs.Planned.{Planned}
use Rattle.iso_plan.specs.RowView.{tree_of}
use Rattle.iso_plan.specs.Tree.{Row}
use Rattle.iso_standing.specs.declared.event.Event.TheVariants.{Enter}
use Rattle.iso_core.proofs.machine.Core.entering.Goals as goal

parent_is : (tree : List Row) (n m : ℕ) → 0 < n → m ≡ unwrap_or (parent_of tree n) 0 → m ≡ parent tree n
parent_is tree zero m pos e = absurd (omega (arith, pos))
parent_is tree (suc n) m pos e = e

pub nodes-preserved : goal.nodes-preserved
nodes-preserved c =
    let v = c.args.self.now in
    let n = c.nodes.node in
    let w = c.owner-worker.result in
    let here : 0 < n → Refuses v (entered_by_owner v n) =
    λ pos. let up : c.unwrap_or.result ≡ parent (tree_of v.plan) n = parent_is (tree_of v.plan) n c.unwrap_or.result pos
    (c.unwrap_or.ensures ∙ ap (λ o. unwrap_or o 0) (c.parent.ensures ∙ ap (λ (p : Planned). parent_of (tree_of p) n) c.plan-in-nodes.ensures)) in
    ap (λ (u : ℕ). is_none (refusal_in v (Enter u n))) (sym (c.owner-worker.ensures ∙ ap (λ (m : ℕ). (state_in v).owner m) up))
    ∙ refuses-by c.refusal.result (refusal_in v (Enter w n)) c.refusal.ensures (c.is_none.ensures ∙ ap not c.if-is_none.false) in
    λ m pos h. below-next (λ (j : ℕ). 0 < j → Refuses v (entered_by_owner v j)) n (λ j less p. c.nodes.invariant j p less) here m h pos
