use Rattle.std.proofs.Common.{◌≡◌, ◌≤◌, length, get_or, take, true, false, sym, ap, ◌∙◌, arith}
use Rattle.std.proofs.Math.Nat.{min-le_right}
use Rattle.std.proofs.lemmas.List.{length-take}
use Rattle.iso_junit.proofs.SuiteLemmas.{child-within, counts-small, few-children, so-far-few, so-far-next, so-far-same, so_far, tally-next}
use Rattle.iso_junit.specs.Cases.{is_a_test}
use Rattle.iso_junit.specs.Runs.{run_of}
use Rattle.iso_junit.specs.Tallies.{tally}
use Rattle.iso_lifecycle.specs.ResultViews.{outcome_of_view}
use Rattle.iso_junit.proofs.count.count.Goals as goal
use Rattle.iso_junit.proofs.count.count.Goals.{then-is_test, else-is_test}

pub is_test-requires : goal.is_test-requires
is_test-requires c =
    let r = run_of c.args.run.now in
    let is = child-within r.tree c.args.class c.children.child-index c.children-child-items.result.now c.nodes_are_a_tree.ensures c.children-child-items.ensures c.children-test.true in
    is.1

pub add-requires : goal.add-requires
add-requires c =
    let r = run_of c.args.run.now in
    let items = c.children-child-items.result.now in
    let i = c.children.child-index in
    let far = so-far-few r c.args.class (take i items) in
    let short : length (take i items) ≤ length items = rw (length-take i items) (min-le_right i (length items)) in
    let all = ap length c.children-child-items.ensures in
    let few = few-children r.tree c.args.class in
    let countable = c.nodes_are_countable.ensures in
    counts-small r (so_far r c.args.class (take i items)) c.children.counts c.children.invariant (omega arith)

pub children-preserved : goal.children-preserved
children-preserved c =
    let r = run_of c.args.run.now in
    let class = c.args.class in
    let items = c.children-child-items.result.now in
    let i = c.children.child-index in
    let child = get_or items i 0 in
    elim c.if-is_test.branch [
      | then-is_test w ↦
          let test : is_a_test r child ≡ true = sym c.is_test.ensures ∙ w.if-is_test.true in
          rw w.counts-is
          (w.add.ensures
          ∙ tally-next r (so_far r class (take i items)) child c.children.counts (outcome_of_view w.view.result) w.time.result c.children.invariant w.view.ensures w.time.ensures
          ∙ ap (tally r) (sym (so-far-next r class i 0 items c.children-test.true test)))
      | else-is_test w ↦
          let none : is_a_test r child ≡ false = sym c.is_test.ensures ∙ w.if-is_test.false in
          rw w.counts-is (c.children.invariant ∙ ap (tally r) (sym (so-far-same r class i 0 items c.children-test.true none)))
    ]
