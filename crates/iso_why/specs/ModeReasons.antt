-- Why a node has its execution mode, by the definition of modes (`iso_plan`).
--
-- reason for a mode: Parallel execution is off; else the nearest class around the node that takes a
-- key for READ_WRITE, with the first such key (`forced_by`, `first_written`); else the nearest mark
-- (`marked_by`); else the default (`reason`). What holds of each (`GivesMode`).
-- Also in: `ReasonLaws`.
use Rattle.std.specs.Prelude.{ℕ, ◌<◌, List, [], ◌∷◌, Option, Some, None, Bool, cond, length, ⊤}
use Rattle.std.specs.Option.{is_some, option_map, option_or}
use Rattle.iso_plan.specs.KeyTable.{keys}
use Rattle.iso_plan.specs.Locks.{is_write, locks}
use Rattle.iso_plan.specs.Paths.{is_root, parent, path, row_at}
use Rattle.iso_plan.specs.Tree.{Row}
use Rattle.iso_plan.specs.declared.lock.Lock.{Lock}
use Rattle.iso_settings.specs.declared.settings.Settings.{Settings}
use Rattle.iso_why.specs.declared.why.Cause.{Cause}
use Rattle.iso_why.specs.declared.why.Cause.TheVariants.{Off, Forced, Marked, Default}

-- the first key, by its number, that some locks take for READ_WRITE
abbrev pub first_written : List Lock → Option ℕ
first_written [] = None
first_written (l ∷ ls) = cond (is_write l) (Some l.key) (first_written ls)

-- the first node of a path that takes a key for READ_WRITE, with the first such key
abbrev pub forced_by : List Row → (path : List ℕ) → Option Cause
forced_by tree [] = None
forced_by tree (n ∷ ns) =
    option_or (option_map (λ key. Forced n key) (first_written (locks tree n))) (forced_by tree ns)

-- the first node of a path that is marked with a mode
abbrev pub marked_by : List Row → (path : List ℕ) → Option ℕ
marked_by tree [] = None
marked_by tree (n ∷ ns) = cond (is_some (row_at tree n).mode) (Some n) (marked_by tree ns)

-- the mark that gives a mode, or else the default
abbrev pub chosen_by : Option ℕ → (top : Bool) → Cause
chosen_by None top = Default top
chosen_by (Some n) top = Marked n

-- what forces a mode, or else what gives it
abbrev pub forced_or : Option Cause → Cause → Cause
forced_or None why = why
forced_or (Some forced) why = forced

-- why a node has its mode: parallel execution is off; else an enclosing class takes a key
-- for READ_WRITE; else it is marked, or the nearest such class that is; else by the default
abbrev pub reason : List Row → Settings → ℕ → Cause
reason tree s n =
    cond s.parallel
    (forced_or (forced_by tree (path tree (parent tree n)))
    (chosen_by (marked_by tree (path tree n)) (is_root (parent tree n))))
    Off

-- that it is of a node, not the root, and a key that there are
abbrev pub IsKnown : List Row → Cause → Type 0
IsKnown tree Off = ⊤
IsKnown tree (Forced class key) = (0 < class) × (class < length tree) × (key < length (keys tree))
IsKnown tree (Marked m) = (0 < m) × (m < length tree)
IsKnown tree (Default top) = ⊤
