use Rattle.std.proofs.Common.{◌≡◌, ◌<◌, ℕ, drop, length}
use Rattle.std.specs.List.{fold}
use Rattle.iso_html.specs.KeyUses.{usage_at, with_lock}
use Rattle.iso_html.proofs.usage.add_locks.Given as goal

-- what is made of the usages so far and the locks to come
abbrev pub invariant-locks : goal.invariant-locks
invariant-locks l =
    (k : ℕ) → k < length l.fn.usages
    → fold (with_lock k l.time) (usage_at l.usages k) (drop l.lock-index l.locks) ≡ fold (with_lock k l.time) (usage_at l.fn.usages k) l.locks
