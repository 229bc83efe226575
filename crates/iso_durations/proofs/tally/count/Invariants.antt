use Rattle.std.proofs.Common.{◌≡◌}
use Rattle.iso_durations.specs.Tallies.{tally}
use Rattle.iso_durations.proofs.TimesLemmas.{so_far}
use Rattle.iso_plan.specs.RowView.{tree_of}
use Rattle.iso_durations.proofs.tally.count.Given as goal

abbrev pub invariant-nodes : goal.invariant-nodes
invariant-nodes l = l.all ≡ tally (tree_of l.plan) l.times (so_far l.times l.node)
