-- What the rows of a plan stand for, and the lists that its nodes share.
use Rattle.std.specs.Prelude.{List, [], ℕ, Box, Option, Some, None, map, unwrap_or}
use Rattle.std.specs.Arc.{arc_value}
use Rattle.std.specs.Box.{box_value}
use Rattle.std.specs.declared.alloc.Global.{Global}
use Rattle.std.specs.declared.sync.Arc.{Arc}
use Rattle.std.specs.declared.vec.Vec.{Vec}
use Rattle.iso_model.specs.ChainView.{innermost_first}
use Rattle.iso_model.specs.Chains as C
use Rattle.iso_model.specs.Rights as R
use Rattle.iso_model.specs.Rights.{access_in}
use Rattle.iso_model.specs.ScriptView.{class_head_of, test_head_of}
use Rattle.iso_model.specs.Scripts.{ClassTitle}
use Rattle.iso_model.specs.declared.heads.ClassHead.{ClassHead}
use Rattle.iso_model.specs.declared.heads.Mark.{Mark}
use Rattle.iso_model.specs.declared.rights.Rights.{Rights}
use Rattle.iso_model.specs.declared.script.Class.{Class as ScriptClass}
use Rattle.iso_plan.specs.Planned.{Planned}
use Rattle.iso_plan.specs.Tree as T
use Rattle.iso_plan.specs.Tree.{root, class_node, test_node}
use Rattle.iso_plan.specs.declared.row.Extras.{Extras}
use Rattle.iso_plan.specs.declared.row.Kind.{Kind}
use Rattle.iso_plan.specs.declared.row.Kind.TheVariants.{Root, Class, Test}
use Rattle.iso_plan.specs.declared.row.Row.{Row}

abbrev pub kind_of : Kind → T.Kind
kind_of Root = root
kind_of (Class isolated head) = class_node isolated (class_head_of (arc_value head))
kind_of (Test head) = test_node (test_head_of (arc_value head))

-- the marks that are written on a node, which stand apart where there are some
abbrev pub written_in : Option (Box Extras Global) → List Mark
written_in None = []
written_in (Some extras) = (box_value extras).written.items

-- its display text, if it has one, which stands there too
abbrev pub display_in : Option (Box Extras Global) → Option (List ℕ)
display_in None = None
display_in (Some extras) = (box_value extras).display

-- what a row stands for
abbrev pub row_of : Row → T.Row
row_of r = record {
  parent = r.parent;
  kind = kind_of r.kind;
  written = written_in r.extras;
  name = r.name;
  title = unwrap_or (display_in r.extras) r.name;
  mode = r.mode;
}

-- the nodes that rows stand for
abbrev pub nodes_in : List Row → List T.Row
nodes_in rows = map row_of rows

-- the tree of a plan
abbrev pub tree_of : Planned → List T.Row
tree_of p = p.rows

-- what is written before a class's members
abbrev pub title_of : ScriptClass → ClassTitle
title_of c = record {
  name = c.name;
  display = c.display;
  mode = c.mode;
  isolated = c.isolated;
  head = class_head_of (arc_value c.head);
}

-- the heads of a shared class chain, innermost first
abbrev pub heads_in : Arc (Vec (Arc ClassHead Global) Global) Global → List C.ClassHead
heads_in chain = innermost_first (arc_value chain).items

-- the access rights that shared ones give
abbrev pub rights_in : Arc Rights Global → R.Rights
rights_in rights = access_in (arc_value rights)
