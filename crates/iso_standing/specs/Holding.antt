-- The nodes that hold their locks, as a standing keeps them beside the phases.
use Rattle.std.specs.Prelude.{◌≡◌, ℕ, List, Bool, length, slice_index_or, slice_set}
use Rattle.iso_isolation.specs.States as States
use Rattle.iso_plan.specs.HeldNodes.{HeldView, is_held}
use Rattle.iso_plan.specs.Planned.{Planned}
use Rattle.iso_standing.specs.Phases.{bare}
use Rattle.iso_standing.specs.declared.phase.Phase.{Phase}
use Rattle.iso_standing.specs.declared.phase.Phase.TheVariants.{Waiting}

-- a node is held or not from now on
abbrev pub with_held : HeldView → ℕ → Bool → HeldView
with_held h n held = record h { held = slice_set h.held n held }

-- the held nodes are those of the plan that were entered and aren't finished, and the root, which
-- is open from the start
pub record KeepsHeld (p : Planned) (phases : List Phase) (h : HeldView) : Type 0 where
  pub plan : h.plan ≡ p
  pub each : length h.held ≡ length p.rows
  pub held : (n : ℕ) → is_held h.held n ≡ States.is_held (bare (slice_index_or phases n Waiting))
