-- Files that list paths.
--
-- paths that a file lists: Its lines but the empty ones (`listed`).
use Rattle.std.specs.Prelude.{ℕ, List, Bool, ◌==◌, filter, length, not}
use Rattle.std.specs.Str.Lines.{lines}

-- whether a line is not empty
abbrev pub has_bytes : List ℕ → Bool
has_bytes line = not (length line == 0)

-- the paths that a file lists: its lines, which end with LF or CR LF, but the empty ones
abbrev pub listed : List ℕ → List (List ℕ)
listed file = filter has_bytes (lines file)
