use Rattle.std.proofs.Common.{◌≡◌, ◌<◌, ◌≤◌, length, map}
use Rattle.std.specs.Vec.{vec_capacity, vec_len}
use Rattle.iso_durations.specs.Entries.{entry}
use Rattle.iso_durations.specs.Times.{micros}
use Rattle.iso_durations.proofs.TimesLemmas.{so_far}
use Rattle.iso_durations.proofs.durations.Durations.measured.Given as goal

abbrev pub invariant-nodes : goal.invariant-nodes
invariant-nodes l =
    (l.timed.items ≡ map (entry (micros l.times)) (so_far l.times l.node))
    × (vec_len l.timed < l.node)
    × (length l.plan.rows ≤ vec_capacity l.timed)
