-- When nodes were entered and hadn't finished, and who is in whose way at a moment.
use Rattle.std.specs.Prelude.{ℕ, zero, suc, List, [], ◌++◌, ◌∷◌, Option, Some, None, Bool, false, unwrap_or}
use Rattle.std.specs.Option.{option_map}
use Rattle.iso_lifecycle.specs.declared.kind.BodyKind.{BodyKind}
use Rattle.iso_lifecycle.specs.declared.kind.BodyKind.TheVariants.{BeforeAll, AfterAll}
use Rattle.iso_plan.specs.Conflicts.{lowest_in_the_way}
use Rattle.iso_plan.specs.Tree.{Row}
use Rattle.iso_times.specs.Tables.{first_begin, since, time_in}
use Rattle.iso_times.specs.declared.times.BodyTime.{BodyTime}
use Rattle.iso_waits.specs.Moments.{is_at}
use Rattle.iso_waits.specs.declared.stay.Stay.{Stay}

-- the time of a body, counted from the first begin of all
abbrev pub body_time : List (Option BodyTime) → ℕ → BodyKind → Option BodyTime
body_time bodies n kind = option_map (since (first_begin bodies)) (time_in bodies n kind)

-- a node from the begin of its first body until the end of its last one, or of its first where that
-- of its last isn't known; a test has none but the first; nothing where that of the first isn't
-- known
abbrev pub stay_of : ℕ → Option BodyTime → Option BodyTime → Option Stay
stay_of n None last = None
stay_of n (Some first) last =
    Some (record { node = n; begin = first.begin; end = (unwrap_or last first).end })

-- when a node was entered and hadn't finished. A test's body has the place of a `before_all`.
abbrev pub stayed : List (Option BodyTime) → ℕ → Option Stay
stayed bodies n = stay_of n (body_time bodies n BeforeAll) (body_time bodies n AfterAll)

-- a stay, if there is one
abbrev pub listed_stay : Option Stay → List Stay
listed_stay None = []
listed_stay (Some s) = s ∷ []

-- the stays of the nodes with a number below n, in their order
abbrev pub stays_below : List (Option BodyTime) → ℕ → List Stay
stays_below bodies zero = []
stays_below bodies (suc n) = stays_below bodies n ++ listed_stay (stayed bodies n)

-- whether a moment is within a stay, if there is one
abbrev pub is_within : ℕ → Option Stay → Bool
is_within t None = false
is_within t (Some s) = is_at t s

-- whether a node is entered at a moment, and has not finished
abbrev pub is_entered : List (Option BodyTime) → ℕ → ℕ → Bool
is_entered bodies t m = is_within t (stayed bodies m)

-- the node that is in another's way at a moment: the lowest one that is entered and conflicts with
-- it
abbrev pub holder : List Row → List (Option BodyTime) → ℕ → ℕ → Option ℕ
holder tree bodies n t = lowest_in_the_way tree (is_entered bodies t) n
