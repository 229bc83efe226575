-- The execution mode of a node (JUnit 5 User Guide, parallel execution).
--
-- execution mode: Same thread for all without parallel execution, for the root, and for the
-- descendants of a node that takes a key for READ_WRITE; else own mark; the nearest enclosing
-- class's; the default for top-level classes or that for all other nodes (`mode`).
-- Standard: JUnit 5 User Guide, parallel execution.
use Rattle.std.specs.Prelude.{ℕ, List, [], ◌∷◌, Option, None, Bool, ◌&&◌, not, cond, unwrap_or}
use Rattle.std.specs.List.{list_any}
use Rattle.std.specs.Option.{option_or}
use Rattle.iso_model.specs.declared.script.Mode.{Mode}
use Rattle.iso_model.specs.declared.script.Mode.TheVariants.{SameThread}
use Rattle.iso_plan.specs.Locks.{takes_write}
use Rattle.iso_plan.specs.Paths.{row_at, parent, path, is_root, is_test, is_top}
use Rattle.iso_plan.specs.Tree.{Row}
use Rattle.iso_settings.specs.declared.settings.Settings.{Settings}

-- the mode that the first marked node of a path is marked with
abbrev pub nearest_mode : List Row → List ℕ → Option Mode
nearest_mode tree [] = None
nearest_mode tree (n ∷ ns) = option_or (row_at tree n).mode (nearest_mode tree ns)

-- the mode of a node for which none is marked
abbrev pub default_mode : List Row → Settings → ℕ → Mode
default_mode tree s n = cond (is_top tree n) s.classes_default_mode s.default_mode

-- the mode on the node, else that on the nearest enclosing class that has one, else the default
abbrev pub chosen_mode : List Row → Settings → ℕ → Mode
chosen_mode tree s n = unwrap_or (nearest_mode tree (path tree n)) (default_mode tree s n)

-- whether a node forces its descendants onto its thread: it isn't a test, and it or an enclosing
-- class takes a key for READ_WRITE
abbrev pub forces : List Row → ℕ → Bool
forces tree n = not (is_test (row_at tree n).kind) && list_any (takes_write tree) (path tree n)

-- whether an enclosing class of a node takes a key for READ_WRITE
abbrev pub is_forced : List Row → ℕ → Bool
is_forced tree n = list_any (takes_write tree) (path tree (parent tree n))

-- the execution mode of a node: all are on the same thread without parallel execution, and so are
-- the root and what is forced
abbrev pub mode : List Row → Settings → ℕ → Mode
mode tree s n =
    cond (s.parallel && not (is_root n) && not (is_forced tree n)) (chosen_mode tree s n) SameThread
