-- The lines of reasons below that of a node.
--
-- plan with reasons: Below the line of each node that of its mode and those of its locks
-- (`why_text`, `mode_line`; `from_text`, `lock_line`; `plan_why`, `tests_why`).
-- Also in: `PlanWhy`.
use Rattle.std.specs.Prelude.{ℕ, List, [], ◌++◌, ◌==◌, cond, codes, slice_index_or}
use Rattle.std.specs.List.{join_by}
use Rattle.iso_plan.specs.KeyTable.{keys}
use Rattle.iso_plan.specs.Locks.{is_write}
use Rattle.iso_plan.specs.PathTexts.{path_text}
use Rattle.iso_plan.specs.Tree.{Row}
use Rattle.iso_plan.specs.declared.lock.Lock.{Lock}
use Rattle.iso_settings.specs.declared.settings.Settings.{Settings}
use Rattle.iso_tap.specs.PlanText.{lock_text}
use Rattle.iso_why.specs.Givers.{givers}
use Rattle.iso_why.specs.ModeReasons.{reason}
use Rattle.iso_why.specs.declared.why.Cause.{Cause}
use Rattle.iso_why.specs.declared.why.Cause.TheVariants.{Off, Forced, Marked, Default}

-- a reason for the mode of a node, one row each
abbrev pub why_text : List Row → (node : ℕ) → Cause → List ℕ
why_text tree n Off = codes "parallel execution is off"
why_text tree n (Forced class key) = codes "forced by w:" ++ slice_index_or (keys tree) key []
    ++ codes " of " ++ path_text tree class
why_text tree n (Marked m) = cond (m == n) (codes "marked") (codes "marked on " ++ path_text tree m)
why_text tree n (Default top) = cond top (codes "by mode.classes.default") (codes "by mode.default")

-- paths, with commas between them
abbrev pub paths_text : List Row → List ℕ → List ℕ
paths_text tree ns = join_by (path_text tree) (codes ", ") ns

-- where a node has a lock from: the nodes whose marks gave it; the global key from isolated
-- classes, or as each top-level class has it
abbrev pub from_text : List Row → (node : ℕ) → Lock → List ℕ
from_text tree n l =
    cond (l.key == 0) (cond (is_write l) (codes "isolated " ++ paths_text tree (givers tree n l))
    (codes "every top-level class"))
    (paths_text tree (givers tree n l))

-- the line of a node's mode, and that of a lock
abbrev pub mode_line : List Row → Settings → ℕ → List ℕ
mode_line tree s n = codes "    mode: " ++ why_text tree n (reason tree s n) ++ codes "\n"

abbrev pub lock_line : List Row → ℕ → Lock → List ℕ
lock_line tree n l =
    codes "    " ++ lock_text (keys tree) l ++ codes " from " ++ from_text tree n l ++ codes "\n"
