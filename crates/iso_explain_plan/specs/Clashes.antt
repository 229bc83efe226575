-- On which key two nodes exclude one another.
use Rattle.std.specs.Prelude.{ℕ, List, [], ◌∷◌, Option, None, Some, cond, option_map}
use Rattle.std.specs.Option.{option_or}
use Rattle.iso_model.specs.declared.access.Access.{Access}
use Rattle.iso_plan.specs.Conflicts.{excludes}
use Rattle.iso_plan.specs.declared.lock.Lock.{Lock}
use Rattle.iso_explain_plan.specs.declared.clash.Clash.{Clash}

-- how the first of these locks that excludes a lock is held
abbrev pub held_for : Lock → List Lock → Option Access
held_for lock [] = None
held_for lock (other ∷ others) =
    option_or (cond (excludes lock other) (Some other.access) None) (held_for lock others)

-- a lock with how another one that excludes it is held
abbrev pub clash_of : Lock → Access → Clash
clash_of lock held = record { key = lock.key; taken = lock.access; held = held }

abbrev pub clash_on : Lock → List Lock → Option Clash
clash_on lock others = option_map (clash_of lock) (held_for lock others)

-- the first of some locks that one of others excludes
abbrev pub first_clash : List Lock → List Lock → Option Clash
first_clash [] others = None
first_clash (lock ∷ locks) others = option_or (clash_on lock others) (first_clash locks others)
