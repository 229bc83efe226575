-- The top-level class of each node.
--
-- top-level class of a node: The outermost node of its path, the root's is the root (`top_class`);
-- of all nodes by number, with their paths (`all_top_classes`, `all_paths`).
use Rattle.std.specs.Prelude.{ℕ, List, true, length, unwrap_or}
use Rattle.iso_plan.specs.Paths.{column, outermost, path}
use Rattle.iso_plan.specs.PathTexts.{path_text}
use Rattle.iso_plan.specs.Tree.{Row}

-- the top-level class that a node is or is a descendant of: the outermost node of its path. The
-- root's is the root.
abbrev pub top_class : List Row → ℕ → ℕ
top_class tree n = unwrap_or (outermost (λ m. true) (path tree n)) 0

-- the paths of all nodes by number, the root's among them, which is empty; and the top-level
-- classes of all nodes
abbrev pub all_paths : List Row → List (List ℕ)
all_paths tree = column (path_text tree) (length tree)

abbrev pub all_top_classes : List Row → List ℕ
all_top_classes tree = column (top_class tree) (length tree)
