use Rattle.std.proofs.Common.{◌≡◌, ◌<◌, ℕ, None, get_or, length, take}
use Rattle.iso_critical.specs.Needs.{last_wait}
use Rattle.iso_critical.proofs.holders.last_waits.Given as goal

abbrev pub invariant-loop-wait : goal.invariant-loop-wait
invariant-loop-wait l = record {
  size : length l.last.items ≡ l.nodes;
  found : (n : ℕ) → n < l.nodes → get_or l.last.items n None ≡ last_wait n None (take l.wait-index l.waits);
}
