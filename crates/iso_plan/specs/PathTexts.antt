-- The paths of nodes as texts, as `jtap plan` prints them.
--
-- path of a node, as a text: The names on it from the top-level class down, with dots between them
-- (`path_text`); the first node with a path (`found`).
use Rattle.std.specs.Prelude.{ℕ, List, Option, Bool, ◌&&◌, codes, length, not, reverse}
use Rattle.std.specs.List.{join_by, position_from, range_with_len}
use Rattle.std.specs.Str.{bytes_eq}
use Rattle.iso_plan.specs.Paths.{is_root, path, row_at}
use Rattle.iso_plan.specs.Tree.{Row}

-- the names on a node's path, from the top-level class down, with dots between them. A top-level
-- class's name begins with its team's.
abbrev pub path_text : List Row → ℕ → List ℕ
path_text tree n = join_by (λ m. (row_at tree m).name) (codes ".") (reverse (path tree n))

-- whether a text is the path of a node; the root has none
abbrev pub is_path_of : List Row → List ℕ → ℕ → Bool
is_path_of tree text n = not (is_root n) && bytes_eq (path_text tree n) text

-- the first node with this path
abbrev pub found : List Row → List ℕ → Option ℕ
found tree text = position_from (is_path_of tree text) 0 (range_with_len 0 (length tree))
