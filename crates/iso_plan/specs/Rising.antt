-- Locks in the order of their keys.
use Rattle.std.specs.Prelude.{ℕ, suc, ◌≤◌, List, [], ◌∷◌}
use Rattle.iso_plan.specs.declared.lock.Lock.{Lock}

-- locks stand in the order of their keys, each key once, from a key on
abbrev pub RiseFrom : ℕ → List Lock → Type 0
RiseFrom key [] = Unit {0}
RiseFrom key (l ∷ ls) = (key ≤ l.key) × RiseFrom (suc l.key) ls

-- locks stand in the order of their keys, each key once
abbrev pub Rise : List Lock → Type 0
Rise ls = RiseFrom 0 ls
