use Rattle.std.proofs.Common.{◌≡◌, ◌<◌, ℕ, length, sym, ap, ◌∙◌, arith}
use Rattle.iso_junit.proofs.SuiteLemmas.{all-few, all-next, all-same, counts-small, tally-next}
use Rattle.iso_junit.specs.Cases.{is_case}
use Rattle.iso_junit.specs.Runs.{run_of}
use Rattle.iso_junit.specs.Tallies.{tally}
use Rattle.iso_lifecycle.specs.ResultViews.{outcome_of_view}
use Rattle.iso_plan.specs.KeptNodes.{those_below}
use Rattle.iso_junit.proofs.count.count_all.Goals as goal
use Rattle.iso_junit.proofs.count.count_all.Goals.{then-is_case, else-is_case}

pub add-requires : goal.add-requires
add-requires c =
    let r = run_of c.args.run.now in
    let few = all-few r c.nodes.node in
    let less : c.nodes.node < 4294967296 = omega (arith, c.len-node-end.ensures) in
    counts-small r (those_below (is_case r) c.nodes.node) c.nodes.counts c.nodes.invariant (omega arith)

pub nodes-preserved : goal.nodes-preserved
nodes-preserved c =
    let r = run_of c.args.run.now in
    let n = c.nodes.node in
    elim c.if-is_case.branch [
      | then-is_case w ↦
          rw w.counts-is
          (w.add.ensures
          ∙ tally-next r (those_below (is_case r) n) n c.nodes.counts (outcome_of_view w.view.result) w.time.result c.nodes.invariant w.view.ensures w.time.ensures
          ∙ ap (tally r) (sym (all-next r n (sym c.is_case.ensures ∙ w.if-is_case.true))))
      | else-is_case w ↦
          rw w.counts-is (c.nodes.invariant ∙ ap (tally r) (sym (all-same r n (sym c.is_case.ensures ∙ w.if-is_case.false))))
    ]

pub returns : goal.returns
returns c =
    let r = run_of c.args.run.now in
    let rooted : 0 < length r.tree = c.nodes_are_a_tree.ensures.rooted in
    let end : c.nodes.node ≡ length r.tree = omega (arith, c.len-node-end.ensures) in
    c.nodes.invariant ∙ ap (λ (n : ℕ). tally r (those_below (is_case r) n)) end
