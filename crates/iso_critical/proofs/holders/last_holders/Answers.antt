use Rattle.std.proofs.Common.{◌<◌, None, ap, ◌∙◌, arith}
use Rattle.std.specs.Option.{option_map}
use Rattle.iso_critical.specs.Needs.{last_holder, last_wait}
use Rattle.iso_plan.proofs.ColumnLemmas.{column-push, column-read}
use Rattle.iso_waits.specs.declared.wait.NodeWait.{NodeWait}
use Rattle.iso_critical.proofs.holders.last_holders.Goals as goal

pub nodes-preserved : goal.nodes-preserved
nodes-preserved c =
    let waits = c.args.waits.now in
    let n = c.nodes.node in
    let here : n < c.args.nodes = omega arith in
    let read = column-read (λ n. last_wait n None waits) c.deref.result.now c.args.nodes n None (c.deref.ensures.value ∙ c.in_ok-last.ensures) here in
    c.in_ok-push.ensures.items
    ∙ column-push (last_holder waits) c.nodes.holders.items n c.last_holder.result c.nodes.invariant (c.last_holder.ensures ∙ ap (option_map (λ (w : NodeWait). w.last)) read)
