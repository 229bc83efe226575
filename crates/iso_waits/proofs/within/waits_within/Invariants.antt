use Rattle.std.proofs.Common.{◌≡◌, ◌≤◌, ℕ, ◌-◌, max}
use Rattle.std.specs.List.Sorted.{IsNonDecreasingBy}
use Rattle.iso_waits.specs.Moments.{begin_of, lowest_at, waited}
use Rattle.iso_waits.proofs.within.waits_within.Given as goal

-- what is told is what was waited for until now, and what is left is all that may be in the way from now on
abbrev pub invariant-moments : goal.invariant-moments
invariant-moments l = record {
  begun : l.from ≤ l.at;
  within : l.at ≤ max l.from l.until;
  told : l.told ≡ waited (λ t. lowest_at t l.stays) l.from (l.at - l.from);
  order : IsNonDecreasingBy begin_of l.left;
  same : (t : ℕ) → l.at ≤ t → lowest_at t l.left ≡ lowest_at t l.stays;
}

abbrev pub decreases-moments : goal.decreases-moments
decreases-moments l = l.until - l.at
