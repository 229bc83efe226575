-- What the tree of a script stands for.
use Rattle.std.specs.Prelude.{List, [], ◌∷◌, map}
use Rattle.std.specs.Arc.{arc_value}
use Rattle.iso_model.specs.Chains as C
use Rattle.iso_model.specs.Scripts.{Class, class, Member, class_member, test_member, Members, no_members, member}
use Rattle.iso_model.specs.Scripts as S
use Rattle.iso_model.specs.SyntaxView.{block_of}
use Rattle.iso_model.specs.declared.heads.ClassContents.{ClassContents}
use Rattle.iso_model.specs.declared.heads.ClassHead.{ClassHead}
use Rattle.iso_model.specs.declared.heads.TestContents.{TestContents}
use Rattle.iso_model.specs.declared.heads.TestHead.{TestHead}
use Rattle.iso_model.specs.declared.script.Class as D
use Rattle.iso_model.specs.declared.script.Member as M
use Rattle.iso_model.specs.declared.script.Member.TheOpen.{Member-F, Class-F}
use Rattle.iso_model.specs.declared.script.Script.{Script}
use Rattle.iso_model.specs.declared.script.Test.{Test}

-- what the contents of a class stand for, a head without marks; and its head
abbrev pub class_contents_of : ClassContents → C.ClassHead
class_contents_of c =
    record {
      statics = c.statics.items;
      fields = c.fields.items;
      marks = [];
      disabled = c.disabled;
      before_all = block_of c.before_all.items;
      after_all = block_of c.after_all.items;
      before_each = block_of c.before_each.items;
      after_each = block_of c.after_each.items;
    }

abbrev pub class_head_of : ClassHead → C.ClassHead
class_head_of h = record (class_contents_of (arc_value h.contents)) { marks = h.marks }

-- what the contents of a test stand for, a head without marks; and its head
abbrev pub test_contents_of : TestContents → C.TestHead
test_contents_of c = record { marks = []; disabled = c.disabled; body = block_of c.body.items }

abbrev pub test_head_of : TestHead → C.TestHead
test_head_of h = record (test_contents_of (arc_value h.contents)) { marks = h.marks }

-- what a test stands for
abbrev pub test_of : Test → S.Test
test_of t = record {
  name = t.name;
  display = t.display;
  mode = t.mode;
  head = test_head_of (arc_value t.head);
}

abbrev pub members_of : List Member → Members
members_of [] = no_members
members_of (m ∷ ms) = member m (members_of ms)

abbrev pub member_step : Member-F Member Class → Member
member_step (Member-F.Class c) = class_member c
member_step (Member-F.Test t) = test_member (test_of t)

abbrev pub class_step : Class-F Member Class → Class
class_step c =
    class (record {
      name = c.name;
      display = c.display;
      mode = c.mode;
      isolated = c.isolated;
      head = class_head_of (arc_value c.head);
    }) (members_of c.members.items)

-- what a member of a class stands for
abbrev pub member_of : M.Member → Member
member_of = M.fold-Member Member Class member_step class_step

-- what a class stands for
abbrev pub class_of : D.Class → Class
class_of = D.fold-Class Member Class member_step class_step

-- what a script stands for
abbrev pub script_of : Script → S.Script
script_of s = record { team = s.team; classes = map class_of s.classes.items }
