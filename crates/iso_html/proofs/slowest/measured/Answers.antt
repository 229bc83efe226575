use Rattle.std.proofs.Common.{◌≡◌, ℕ, List, Option, ◌++◌, length, map, sym, ap, ◌∙◌, arith}
use Rattle.iso_durations.proofs.TimesLemmas.{so_far}
use Rattle.iso_durations.specs.Times.{micros, time}
use Rattle.iso_html.proofs.SlowLemmas.{timed-next}
use Rattle.iso_html.specs.Slowest.{entry, timed_of}
use Rattle.iso_html.specs.declared.slowest.Timed.{Timed}
use Rattle.iso_plan.specs.RowView.{tree_of}
use Rattle.iso_html.proofs.slowest.measured.Goals as goal

pub nodes-preserved : goal.nodes-preserved
nodes-preserved c =
    let times = c.args.times.now in
    let n = c.nodes.node in
    c.in_ok-add.ensures
    ∙ ap (λ (o : Option ℕ). c.nodes.timed.items ++ timed_of n o) c.time.ensures
    ∙ ap (λ (ts : List Timed). ts ++ timed_of n (time times n)) c.nodes.invariant
    ∙ sym (timed-next times n (omega arith))

pub returns : goal.returns
returns c =
    let times = c.args.times.now in
    let rooted = c.nodes_are_a_tree.ensures.rooted in
    let last : c.nodes.node ≡ length (tree_of c.args.plan.now) = omega (arith, c.len-node-end.ensures) in
    c.nodes.invariant ∙ ap (λ (n : ℕ). map (entry (micros times)) (so_far times n)) last
