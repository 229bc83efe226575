use Rattle.std.proofs.Common.{◌≡◌, ◌≤◌, ◌<◌, ℕ, drop}
use Rattle.iso_waits.specs.Moments.{lower_of, lowest_at}
use Rattle.iso_waits.proofs.sight.sight_at.Given as goal

-- what was found and what is left make up what is seen until now
abbrev pub invariant-loop-stay : goal.invariant-loop-stay
invariant-loop-stay l = record {
  later : l.at < l.end;
  within : l.end ≤ l.until;
  same : (t : ℕ) → l.at ≤ t → t < l.end → lower_of l.holder (lowest_at t (drop l.stay-index l.stays)) ≡ lowest_at t l.stays;
}
