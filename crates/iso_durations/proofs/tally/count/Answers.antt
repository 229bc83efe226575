use Rattle.std.proofs.Common.{◌<◌, sym, ap, ◌∙◌, arith}
use Rattle.iso_durations.specs.Tallies.{tally}
use Rattle.iso_durations.proofs.TimesLemmas.{counts-small, few, micros-is, next, skip, so_far, tally-next}
use Rattle.iso_plan.specs.RowView.{tree_of}
use Rattle.iso_durations.proofs.tally.count.Goals as goal
use Rattle.iso_durations.proofs.tally.count.Goals.{in-Some, in_default}

pub add-requires-clause-tests : goal.add-requires-clause-tests
add-requires-clause-tests c =
    let times = c.args.times.now in
    let low = few times c.nodes.node in
    let less : c.nodes.node < 4294967295 = omega (arith, c.len-node-end.ensures) in
    (counts-small (tree_of c.args.plan.now) times (so_far times c.nodes.node) 4294967295 c.nodes.all c.nodes.invariant (omega arith)).0

pub add-requires-clause-classes : goal.add-requires-clause-classes
add-requires-clause-classes c =
    let times = c.args.times.now in
    let low = few times c.nodes.node in
    let less : c.nodes.node < 4294967295 = omega (arith, c.len-node-end.ensures) in
    (counts-small (tree_of c.args.plan.now) times (so_far times c.nodes.node) 4294967295 c.nodes.all c.nodes.invariant (omega arith)).1

pub nodes-preserved : goal.nodes-preserved
nodes-preserved c =
    let tree = tree_of c.args.plan.now in
    let times = c.args.times.now in
    let n = c.nodes.node in
    elim c.match-time.branch [
      | in-Some w ↦
          let micros = w.in-Some.micros in
          let here = w.in-Some.ensures in
          rw w.all-is
          (w.add.ensures
          ∙ tally-next tree times (so_far times n) n micros w.is_test.result c.nodes.all c.nodes.invariant w.is_test.ensures (micros-is times n micros here)
          ∙ ap (tally tree times) (sym (next times n micros (omega arith) here)))
      | in_default w ↦ rw w.all-is (c.nodes.invariant ∙ ap (tally tree times) (sym (skip times n (sym w.in_default.is ∙ c.time.ensures))))
    ]
