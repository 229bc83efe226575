-- Tables of nodes by their names.
--
-- table of names: For each node of a plan its children, by their names: of several with one name
-- the first (`FindChildren`).
use Rattle.std.specs.BTreeMap.{BTreeMap, get_by}
use Rattle.std.specs.Borrow.{Bor}
use Rattle.std.specs.Cmp.Lexicographic.{slice_cmp}
use Rattle.std.specs.Ordering.{nat_cmp}
use Rattle.std.specs.Prelude.{◌≡◌, ℕ, ◌<◌, List, length, slice_index_or}
use Rattle.iso_affected.specs.Namesakes.{named}
use Rattle.iso_plan.specs.Paths.{children}
use Rattle.iso_plan.specs.Tree.{Row}

-- a table finds by each name what is the first of some nodes that has it
abbrev pub FindsNamed : List Row → List ℕ → BTreeMap (Bor (List ℕ)) ℕ → Type 0
FindsNamed tree nodes table = (name : List ℕ) → get_by (λ key. slice_cmp nat_cmp name key.now) table
    ≡ named tree name nodes

-- there is a table for each node, which finds by each name the first child of the node that has
-- it
pub record FindChildren (tree : List Row) (tables : List (BTreeMap (Bor (List ℕ)) ℕ)) : Type 0 where
  pub each : length tables ≡ length tree
  pub find : (class : ℕ) (d : BTreeMap (Bor (List ℕ)) ℕ) → class < length tree
      → FindsNamed tree (children tree class) (slice_index_or tables class d)
