-- Nodes by number, and the path from a node up to the root.
use Rattle.std.specs.Prelude.{◌≡◌, ℕ, zero, suc, ◌<◌, List, [], ◌∷◌, Option, Some, None, Bool, true, false, ◌||◌, ◌&&◌, ◌==◌, ◌++◌, filter, length, not, cond, slice_index_or}
use Rattle.std.specs.List.{range_with_len}
use Rattle.std.specs.Option.{option_or}
use Rattle.iso_model.specs.Targets.{effective}
use Rattle.iso_plan.specs.KeyTable.{kind_marks}
use Rattle.iso_plan.specs.Tree.{Kind, root, class_node, test_node, Row, root_row}

-- the node with a number
abbrev pub row_at : List Row → ℕ → Row
row_at tree n = slice_index_or tree n root_row

-- the number of a node's parent
abbrev pub parent : List Row → ℕ → ℕ
parent tree n = (row_at tree n).parent

-- the number of a node's parent; the root has none
abbrev pub parent_of : List Row → ℕ → Option ℕ
parent_of tree zero = None
parent_of tree (suc n) = Some (parent tree (suc n))

-- a node, its parent and so on, without the root, at most `most` of them
abbrev pub up : ℕ → List Row → ℕ → List ℕ
up most tree zero = []
up zero tree (suc n) = []
up (suc most) tree (suc n) = suc n ∷ up most tree (parent tree (suc n))

-- the path of a node: itself and its enclosing classes, innermost first, without the root.
-- A class has a smaller number than its descendants.
unfoldable pub path : List Row → ℕ → List ℕ
path tree n = up n tree n

-- whether a node is on a path
abbrev pub is_on : List ℕ → ℕ → Bool
is_on [] m = false
is_on (n ∷ ns) m = n == m || is_on ns m

-- whether node n is node m or a descendant of it; the root is on no path, so of m = 0 it is false
abbrev pub is_under : List Row → ℕ → ℕ → Bool
is_under tree m n = is_on (path tree n) m

-- the numbers of the nodes at or under a node, in order; none for the root
abbrev pub nodes_under : List Row → ℕ → List ℕ
nodes_under tree m = filter (is_under tree m) (range_with_len 0 (length tree))

-- the outermost node of a path that passes a test
abbrev pub outermost : (ℕ → Bool) → List ℕ → Option ℕ
outermost test [] = None
outermost test (n ∷ ns) = option_or (outermost test ns) (cond (test n) (Some n) None)

-- whether a node is the root, which has number 0
abbrev pub is_root : ℕ → Bool
is_root zero = true
is_root (suc n) = false

-- whether a node is a top-level class: its parent is the root
abbrev pub is_top : List Row → ℕ → Bool
is_top tree n = not (is_root n) && is_root (parent tree n)

-- whether it is a test
abbrev pub is_test : Kind → Bool
is_test root = false
is_test (class_node isolated head) = false
is_test (test_node head) = true

-- whether it is a class or a test
abbrev pub is_class_or_test : Kind → Bool
is_class_or_test root = false
is_class_or_test (class_node isolated head) = true
is_class_or_test (test_node head) = true

-- the nodes with a number below n that stand directly in node m, in order
abbrev pub children_below : List Row → ℕ → ℕ → List ℕ
children_below tree m zero = []
children_below tree m (suc n) = cond (not (is_root n) && parent tree n == m)
    (children_below tree m n ++ n ∷ []) (children_below tree m n)

-- the children of a node
abbrev pub children : List Row → ℕ → List ℕ
children tree m = children_below tree m (length tree)

-- the first node is its own parent, and each other one's parent has a smaller number
pub record StandEarlier (rows : List Row) : Type 0 where
  pub first : parent rows 0 ≡ 0
  pub below : (n : ℕ) → 0 < n → parent rows n < n

-- there is a first node, which is its own parent, and each other one's parent has a smaller
-- number
pub record IsRooted (rows : List Row) : Type 0 where
  pub rooted : 0 < length rows
  pub first : parent rows 0 ≡ 0
  pub below : (n : ℕ) → 0 < n → parent rows n < n

-- there is a root, and each other node is a class or a test, has a parent with a smaller number,
-- which is no test, and has as the marks of its head those that are effective for it
pub record IsTree (tree : List Row) : Type 0 where
  pub rooted : 0 < length tree
  pub root_is : row_at tree 0 ≡ root_row
  pub below : (n : ℕ) → 0 < n → parent tree n < n
  pub inner : (n : ℕ) → 0 < n → is_test (row_at tree (parent tree n)).kind ≡ false
  pub full : (n : ℕ) → 0 < n → n < length tree → is_class_or_test (row_at tree n).kind ≡ true
  pub marked : (n : ℕ) → 0 < n → n < length tree → kind_marks (row_at tree n).kind
      ≡ effective (row_at tree (parent tree n)).written (row_at tree n).written

-- what each of the first n nodes has
abbrev pub column : {A : Type 0} → (ℕ → A) → ℕ → List A
column f zero = []
column f (suc n) = column f n ++ f n ∷ []
