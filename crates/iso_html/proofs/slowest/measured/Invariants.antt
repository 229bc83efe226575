use Rattle.std.proofs.Common.{◌≡◌, map}
use Rattle.iso_durations.specs.Times.{micros}
use Rattle.iso_durations.proofs.TimesLemmas.{so_far}
use Rattle.iso_html.specs.Slowest.{entry}
use Rattle.iso_html.proofs.slowest.measured.Given as goal

abbrev pub invariant-nodes : goal.invariant-nodes
invariant-nodes l = l.timed.items ≡ map (entry (micros l.times)) (so_far l.times l.node)
