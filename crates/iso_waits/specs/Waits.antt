-- What a node waited for: from when it was ready until it was entered.
use Rattle.std.specs.Prelude.{ℕ, zero, suc, List, [], Option, Some, None, Bool, true, false, ◌&&◌, ◌==◌, cond, max, not}
use Rattle.std.specs.Option.{option_map}
use Rattle.iso_lifecycle.specs.declared.kind.BodyKind.TheVariants.{BeforeAll}
use Rattle.iso_model.specs.declared.script.Mode.{Mode}
use Rattle.iso_model.specs.declared.script.Mode.TheVariants.{SameThread, Concurrent}
use Rattle.iso_plan.specs.Modes.{mode}
use Rattle.iso_plan.specs.Paths.{is_root, parent}
use Rattle.iso_plan.specs.Tree.{Row}
use Rattle.iso_settings.specs.declared.settings.Settings.{Settings}
use Rattle.iso_times.specs.declared.times.BodyTime.{BodyTime}
use Rattle.iso_waits.specs.Moments.{waits_within}
use Rattle.iso_waits.specs.Stays.{body_time, holder, stayed}
use Rattle.iso_waits.specs.declared.stay.Stay.{Stay}
use Rattle.iso_waits.specs.declared.wait.Wait.{Wait}

abbrev pub is_same_thread : Mode → Bool
is_same_thread SameThread = true
is_same_thread Concurrent = false

-- when a class was open: when its `before_all` had ended, and the root from the start on
abbrev pub opened : List (Option BodyTime) → ℕ → Option ℕ
opened bodies zero = Some 0
opened bodies (suc n) = option_map (λ (b : BodyTime). b.end) (body_time bodies (suc n) BeforeAll)

-- whether there is a stay
abbrev pub was_entered : Option Stay → Bool
was_entered None = false
was_entered (Some s) = true

-- whether node m is a SAME_THREAD sibling of node n that was entered
abbrev pub is_sibling : List Row → Settings → List (Option BodyTime) → ℕ → ℕ → Bool
is_sibling tree settings bodies n m =
    not (is_root m) && (parent tree m == parent tree n) && is_same_thread (mode tree settings m)
    && was_entered (stayed bodies m)

-- the highest number below n that passes a test
abbrev pub highest : (ℕ → Bool) → ℕ → Option ℕ
highest test zero = None
highest test (suc n) = cond (test n) (Some n) (highest test n)

-- the last SAME_THREAD sibling before a node, where the node is SAME_THREAD too: the one that it
-- has to let finish
abbrev pub earlier : List Row → Settings → List (Option BodyTime) → ℕ → Option ℕ
earlier tree settings bodies n = cond (is_same_thread (mode tree settings n))
    (highest (is_sibling tree settings bodies n) n) None

-- when a stay was over; from the start on where there is none
abbrev pub over : Option Stay → ℕ
over None = 0
over (Some s) = s.end

-- when a node had finished; from the start on where there is none
abbrev pub finished : List (Option BodyTime) → Option ℕ → ℕ
finished bodies None = 0
finished bodies (Some m) = over (stayed bodies m)

-- when a node was ready: its class was open, and the sibling that it has to let finish had finished
abbrev pub ready : List Row → Settings → List (Option BodyTime) → ℕ → Option ℕ
ready tree settings bodies n = option_map
    (λ t. max t (finished bodies (earlier tree settings bodies n))) (opened bodies (parent tree n))

-- the waits from a moment until a stay begins
abbrev pub waits_until : (ℕ → Option ℕ) → Option ℕ → Option Stay → List Wait
waits_until holder None s = []
waits_until holder (Some from) None = []
waits_until holder (Some from) (Some s) = waits_within holder from s.begin

-- the waits of a node for others. What is left of the time until it was entered, it waited for a
-- worker.
abbrev pub waits : List Row → Settings → List (Option BodyTime) → ℕ → List Wait
waits tree settings bodies n =
    waits_until (holder tree bodies n) (ready tree settings bodies n) (stayed bodies n)
