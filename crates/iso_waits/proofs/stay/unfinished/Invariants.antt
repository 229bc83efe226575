use Rattle.std.proofs.Common.{◌≡◌, ◌≤◌, ℕ, drop}
use Rattle.iso_waits.specs.Moments.{lowest_at}
use Rattle.iso_waits.proofs.stay.unfinished.Given as goal

abbrev pub invariant-loop-i : goal.invariant-loop-i
invariant-loop-i l = (t : ℕ) → l.at ≤ t → lowest_at t (drop l.i l.stays) ≡ lowest_at t l.stays
