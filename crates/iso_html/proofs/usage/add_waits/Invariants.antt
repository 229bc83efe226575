use Rattle.std.proofs.Common.{◌≡◌, ◌<◌, ℕ, drop, length}
use Rattle.std.specs.List.{fold}
use Rattle.iso_html.specs.KeyUses.{usage_at, with_wait_for}
use Rattle.iso_html.proofs.usage.add_waits.Given as goal

-- what is made of the usages so far and the waits to come
abbrev pub invariant-loop-wait : goal.invariant-loop-wait
invariant-loop-wait l =
    (k : ℕ) → k < length l.fn.usages
    → fold (with_wait_for k) (usage_at l.usages k) (drop l.wait-index l.waits) ≡ fold (with_wait_for k) (usage_at l.fn.usages k) l.waits
