-- The slowest tests and classes.
use Rattle.std.specs.Prelude.{ℕ, List, [], ◌∷◌, Option, None, Some, map}
use Rattle.iso_durations.specs.Listed.{listed}
use Rattle.iso_durations.specs.Times.{micros}
use Rattle.iso_plan.specs.Tree.{Row}
use Rattle.iso_html.specs.declared.slowest.Timed.{Timed}

-- a node with how long its bodies took
abbrev pub entry : (micros : ℕ → ℕ) → ℕ → Timed
entry micros n = record { micros = micros n; node = n }

abbrev pub node_of : Timed → ℕ
node_of t = t.node

-- a node with its time, where it was measured
abbrev pub timed_of : ℕ → Option ℕ → List Timed
timed_of n None = []
timed_of n (Some t) = record { micros = t; node = n } ∷ []

-- the ten slowest
abbrev pub slowest : List Row → (times : List (Option ℕ)) → List Timed
slowest tree times = map (entry (micros times)) (listed tree times 10)
