use Rattle.std.proofs.Common.{◌≡◌, ℕ, ◌<◌, true}
use Rattle.iso_standing.specs.Phases.{bare}
use Rattle.iso_standing.specs.Standings.{phase_at}
use Rattle.iso_isolation.specs.States.{is_finished}
use Rattle.iso_standing.proofs.standing.Standing.is_complete.Given as goal

abbrev pub invariant-nodes : goal.invariant-nodes
invariant-nodes l = (m : ℕ) → 0 < m → m < l.node → is_finished (bare (phase_at l.self m)) ≡ true
