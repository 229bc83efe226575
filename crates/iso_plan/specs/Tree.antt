-- The tree of scripts, as a list of its nodes in preorder: a node's number is its place in the
-- list.
--
-- the tree in preorder: Each node's row: its parent's number, what it is with its head, the marks
-- that are written on it (`merged`), name, title, mode. As it is written a head has the marks
-- written on its node (`written_tree`); the tree has each node's effective marks there (`tree`,
-- `effective_row`), and no later definition looks at a target. The path of a node, its children
-- (`Paths`); what paths alone ask of rows, that parents come first (`IsRooted`). The descendants of
-- a node follow it without a gap (`IsPreorder`).
-- Also in: `Paths`, `Preorder`.
use Rattle.std.specs.Prelude.{ℕ, ◌+◌, List, [], ◌∷◌, ◌++◌, Option, None, Bool, length, map, codes, slice_index_or, unwrap_or}
use Rattle.iso_model.specs.Chains.{ClassHead, TestHead}
use Rattle.iso_model.specs.Scripts.{Test, ClassTitle, Class, class, Member, class_member, test_member, Members, no_members, member, Script}
use Rattle.iso_model.specs.Targets.{effective}
use Rattle.iso_model.specs.declared.heads.Mark.{Mark}
use Rattle.iso_model.specs.declared.script.Mode.{Mode}
use Rattle.iso_plan.specs.Merged.{merged}

-- what a node is: the root, a class, isolated or not, or a test
pub data Kind : Type 0 where
  root : Kind
  class_node : Bool → ClassHead → Kind
  test_node : TestHead → Kind

-- a node: the number of its parent, what it is, the marks that are written on it as
-- they count, its name and title, and the execution mode marked on it
pub record Row : Type 0 where
  pub parent : ℕ
  pub kind : Kind
  pub written : List Mark
  pub name : List ℕ
  pub title : List ℕ
  pub mode : Option Mode

-- the root, which has neither name nor title
abbrev pub root_row : Row
root_row = record { parent = 0; kind = root; written = []; name = []; title = []; mode = None }

-- a test of the class with this number. Its title is its display text, else its name.
abbrev pub test_row : ℕ → Test → Row
test_row parent t =
    record {
      parent = parent;
      kind = test_node t.head;
      written = merged t.head.marks;
      name = t.name;
      title = unwrap_or t.display t.name;
      mode = t.mode;
    }

-- a class in the class with this number
abbrev pub class_row : ℕ → ClassTitle → Row
class_row parent c =
    record {
      parent = parent;
      kind = class_node c.isolated c.head;
      written = merged c.head.marks;
      name = c.name;
      title = unwrap_or c.display c.name;
      mode = c.mode;
    }

-- a text with a team's name and a dot before it
abbrev pub in_team : List ℕ → List ℕ → List ℕ
in_team team text = team ++ codes "." ++ text

-- a top-level class, whose name and title begin with its team's
abbrev pub top_row : List ℕ → ClassTitle → Row
top_row team c =
    record {
      parent = 0;
      kind = class_node c.isolated c.head;
      written = merged c.head.marks;
      name = in_team team c.name;
      title =
          in_team team (unwrap_or c.display c.name);
      mode = c.mode;
    }

-- the nodes of the members of the class with this number, where the first has number n; and of one
-- member; and of a class
abbrev mutual
  pub members_rows : ℕ → ℕ → Members → List Row
  members_rows parent n no_members = []
  members_rows parent n (member m ms) = let first =
      member_rows parent n m in first ++ members_rows parent (n + length first) ms

  pub member_rows : ℕ → ℕ → Member → List Row
  member_rows parent n (class_member c) = class_rows parent n c
  member_rows parent n (test_member t) = test_row parent t ∷ []

  pub class_rows : ℕ → ℕ → Class → List Row
  class_rows parent n (class c ms) = class_row parent c ∷ members_rows n (n + 1) ms

-- the nodes of a top-level class with number n
abbrev pub top_rows : List ℕ → ℕ → Class → List Row
top_rows team n (class c ms) = top_row team c ∷ members_rows n (n + 1) ms

-- the nodes of a team's classes, where the first has number n
abbrev pub team_rows : List ℕ → ℕ → List Class → List Row
team_rows team n [] = []
team_rows team n (c ∷ cs) = let first =
    top_rows team n c in first ++ team_rows team (n + length first) cs

-- the nodes of scripts, where the first has number n
abbrev pub script_rows : ℕ → List Script → List Row
script_rows n [] = []
script_rows n (s ∷ ss) = let first =
    team_rows s.team n s.classes in first ++ script_rows (n + length first) ss

-- the nodes as they are written: the root, then the others in preorder
abbrev pub written_tree : List Script → List Row
written_tree scripts = root_row ∷ script_rows 1 scripts

-- the same kind of node, whose head has these marks
abbrev pub with_marks : List Mark → Kind → Kind
with_marks marks root = root
with_marks marks (class_node isolated head) = class_node isolated (record head { marks = marks })
with_marks marks (test_node head) = test_node (record head { marks = marks })

-- a node of these with its effective marks: heads in the tree have no others
abbrev pub effective_row : List Row → Row → Row
effective_row rows r =
    record r {
      kind =
          with_marks (effective (slice_index_or rows r.parent root_row).written r.written) r.kind;
    }

-- the tree of scripts: their nodes, with their effective marks
abbrev pub tree : List Script → List Row
tree scripts = let rows = written_tree scripts in map (effective_row rows) rows
