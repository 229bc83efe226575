use Rattle.std.proofs.Common.{◌≡◌, drop, not}
use Rattle.std.specs.List.{list_any}
use Rattle.iso_standing.specs.Phases.{bare}
use Rattle.iso_standing.specs.Standings.{phase_at}
use Rattle.iso_isolation.specs.States.{is_finished}
use Rattle.iso_standing.proofs.standing.Standing.has_unfinished_child.Given as goal

abbrev pub invariant-loop-child : goal.invariant-loop-child
invariant-loop-child l =
    list_any (λ m. not (is_finished (bare (phase_at l.self m)))) (drop l.child-index l.child-items)
    ≡ list_any (λ m. not (is_finished (bare (phase_at l.self m)))) l.child-items
