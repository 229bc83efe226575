-- Variants of the tree, as they are seen.
use Rattle.std.proofs.Common.{◌≡◌, ℕ, List, Option, Bool, Vec, Global, rules}
use Rattle.std.specs.Arc.{arc_value}
use Rattle.std.specs.declared.sync.Arc.{Arc}
use Rattle.iso_model.specs.Scripts.{class_member, test_member, class}
use Rattle.iso_model.specs.ScriptView.{member_of, test_of, class_of, class_head_of}
use Rattle.iso_model.specs.declared.heads.ClassHead.{ClassHead}
use Rattle.iso_model.specs.declared.script.Mode.{Mode}
use Rattle.iso_model.specs.declared.script.Test.{Test}
use Rattle.iso_model.specs.declared.script.Class.{Class, roll-Class}
use Rattle.iso_model.specs.declared.script.Member as M
use Rattle.iso_script.specs.Grammar.{members_in}

pub member_of-test : (t : Test) → member_of (M.Test t) ≡ test_member (test_of t)
member_of-test t = search (rules, M.the_lemmas)

pub member_of-class : (c : Class) → member_of (M.Class c) ≡ class_member (class_of c)
member_of-class c = search (rules, M.the_lemmas)

pub class_of-parts : (name : List ℕ) (display : Option (List ℕ)) (mode : Option Mode) (isolated : Bool) (head : Arc ClassHead Global) (members : Vec M.Member Global)
    → class_of (roll-Class (record { name = name; display = display; mode = mode; isolated = isolated; head = head; members = members })) ≡ class
    (record { name = name; display = display; mode = mode; isolated = isolated; head = class_head_of (arc_value head) }) (members_in members)
class_of-parts name display mode isolated head members = search (rules, M.the_lemmas)
