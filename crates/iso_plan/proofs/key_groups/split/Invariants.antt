use Rattle.std.proofs.Common.{◌≡◌, ◌<◌, ◌+◌, ◌*◌, ◌==◌, ◌&&◌, ℕ, None, get_or, length}
use Rattle.iso_plan.specs.Conflicts.{lowest}
use Rattle.iso_plan.specs.KeyGroups.{access_on, split_lead, way_of}
use Rattle.iso_plan.specs.Paths.{column}
use Rattle.iso_plan.proofs.key_groups.split.Given as goal

abbrev pub invariant-keys : goal.invariant-keys
invariant-keys l = record {
  done : l.split.items ≡ column (split_lead l.leads l.locks) l.key;
  size : length l.firsts.items ≡ 3 * length l.leads;
  first : (r w : ℕ) → r < length l.leads → w < 3
      → get_or l.firsts.items (3 * r + w) None ≡ lowest (λ j. get_or l.leads j 0 == r && way_of (access_on j l.locks) == w) l.key;
}
