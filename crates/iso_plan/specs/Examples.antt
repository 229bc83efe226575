-- Example scripts, as contracts see them.
use Rattle.std.specs.Prelude.{ℕ, List, [], ◌∷◌, Option, Some, None, Bool, true, false, codes}
use Rattle.iso_model.specs.Chains.{ClassHead}
use Rattle.iso_model.specs.Scripts.{Class, class, Member, class_member, test_member, Members, no_members, member, Script}
use Rattle.iso_model.specs.Syntax.{no_acts}
use Rattle.iso_model.specs.declared.access.Access.TheVariants.{Read, Write}
use Rattle.iso_model.specs.declared.heads.Mark.{Mark}
use Rattle.iso_model.specs.declared.heads.Target.TheVariants.{Itself, Children}
use Rattle.iso_model.specs.declared.script.Mode.{Mode}
use Rattle.iso_model.specs.declared.script.Mode.TheVariants.{SameThread, Concurrent}
use Rattle.iso_plan.specs.Tree.{Row, tree}
use Rattle.iso_plan.specs.declared.lock.Lock.{Lock}
use Rattle.iso_settings.specs.declared.settings.Settings.{Settings}

-- the key K
abbrev pub key_k : List ℕ
key_k = codes "K"

abbrev pub reads : List ℕ → Mark
reads k = record { access = Read; target = Itself; key = k }

abbrev pub writes : List ℕ → Mark
writes k = record { access = Write; target = Itself; key = k }

-- a class's head with marks alone
abbrev pub head_with : List Mark → ClassHead
head_with marks = record {
  statics = [];
  fields = [];
  marks = marks;
  disabled = None;
  before_all = no_acts;
  after_all = no_acts;
  before_each = no_acts;
  after_each = no_acts;
}

-- an empty test
abbrev pub a_test : List ℕ → Option Mode → List Mark → Member
a_test name mode marks =
    test_member (record {
      name = name;
      display = None;
      mode = mode;
      head = record { marks = marks; disabled = None; body = no_acts };
    })

abbrev pub a_class : List ℕ → Option Mode → Bool → List Mark → Members → Class
a_class name mode isolated marks ms =
    class (record {
      name = name;
      display = None;
      mode = mode;
      isolated = isolated;
      head = head_with marks;
    }) ms

-- a script of team shop
abbrev pub shop : List Class → Script
shop classes = record { team = codes "shop"; classes = classes }

-- concurrent read "K" class Cart { concurrent test a { } write "K" test b { } }
abbrev pub cart : Class
cart =
    a_class (codes "Cart") (Some Concurrent) false (reads key_k ∷ [])
    (member (a_test (codes "a") (Some Concurrent) [])
    (member (a_test (codes "b") None (writes key_k ∷ [])) no_members))

-- isolated class Till { test d { } }
abbrev pub till : Class
till = a_class (codes "Till") None true [] (member (a_test (codes "d") None []) no_members)

-- class Desk { test c { } isolated class Till { test d { } } }
abbrev pub desk : Class
desk = a_class (codes "Desk") None false []
    (member (a_test (codes "c") None []) (member (class_member till) no_members))

-- nodes 1 and 2 of isolated class Till { test d { } }: Till, d
abbrev pub isolated_alone : List Row
isolated_alone = tree (shop (till ∷ []) ∷ [])

-- nodes 1 to 4 of class Hall { class Desk { isolated class Till { test d { } } } }: Hall, Desk,
-- Till, d
abbrev pub isolated_deep : List Row
isolated_deep =
    tree (shop (a_class (codes "Hall") None false []
    (member (class_member (a_class (codes "Desk") None false []
    (member (class_member till) no_members))) no_members) ∷ []) ∷ [])

-- nodes 1 to 7: Cart, a, b, Desk, c, Till, d
abbrev pub cart_and_desk : List Row
cart_and_desk = tree (shop (cart ∷ desk ∷ []) ∷ [])

-- parallel execution with two workers; classes and tests are concurrent where nothing else is
-- marked
abbrev pub concurrent_by_default : Settings
concurrent_by_default = record {
  parallel = true;
  default_mode = Concurrent;
  classes_default_mode = Concurrent;
  worker_count = 2;
}

-- classes are concurrent, and all other nodes on the same thread, where nothing else is marked
abbrev pub concurrent_classes : Settings
concurrent_classes = record {
  parallel = true;
  default_mode = SameThread;
  classes_default_mode = Concurrent;
  worker_count = 2;
}

-- no parallel execution
abbrev pub one_thread : Settings
one_thread = record concurrent_by_default { parallel = false }

-- the lock of a key by its number
abbrev pub read_lock : ℕ → Lock
read_lock k = record { key = k; access = Read }

abbrev pub write_lock : ℕ → Lock
write_lock k = record { key = k; access = Write }

-- same_thread class Inner { test i { } }
abbrev pub inner : Class
inner = a_class (codes "Inner") (Some SameThread) false []
    (member (a_test (codes "i") None []) no_members)

-- nodes 1 to 4 of class Loose { write "K" test w { } same_thread class Inner { test i { } } }:
-- Loose, w, Inner, i
abbrev pub loose : List Row
loose =
    tree (shop (a_class (codes "Loose") None false []
    (member (a_test (codes "w") None (writes key_k ∷ [])) (member (class_member inner) no_members))
    ∷ []) ∷ [])

-- the key L
abbrev pub key_l : List ℕ
key_l = codes "L"

-- same_thread read "K" class In { read "L" test i { } }
abbrev pub in_class : Class
in_class =
    a_class (codes "In") (Some SameThread) false (reads key_k ∷ [])
    (member (a_test (codes "i") None (reads key_l ∷ [])) no_members)

-- nodes 1 to 4 of concurrent class Out { same_thread read "K" class In { read "L" test i { } }
-- write "L" test w { } }: Out, In, i, w
abbrev pub nested : List Row
nested =
    tree (shop (a_class (codes "Out") (Some Concurrent) false []
    (member (class_member in_class)
    (member (a_test (codes "w") None (writes key_l ∷ [])) no_members)) ∷ []) ∷ [])

-- isolated class Iso { write "L" test w { } }
abbrev pub iso : Class
iso = a_class (codes "Iso") None true []
    (member (a_test (codes "w") None (writes key_l ∷ [])) no_members)

-- nodes 1 to 4 of class Top { read "K" test r { } isolated class Iso { write "L" test w { } } }:
-- Top, r, Iso, w
abbrev pub isolated_with_keys : List Row
isolated_with_keys =
    tree (shop (a_class (codes "Top") None false []
    (member (a_test (codes "r") None (reads key_k ∷ [])) (member (class_member iso) no_members))
    ∷ []) ∷ [])

-- a class with one test, neither of them marked
abbrev pub plain : List ℕ → Class
plain name = a_class name None false [] (member (a_test (codes "t") None []) no_members)

-- nodes 1 to 4 of class A { test t { } } class B { test t { } }: A, t, B, t
abbrev pub two_classes : List Row
two_classes = tree (shop (plain (codes "A") ∷ plain (codes "B") ∷ []) ∷ [])

-- the same for the children of the class
abbrev pub for_children : Mark → Mark
for_children m = record m { target = Children }

-- nodes 1 to 3 of write children "K" class C { test a { } test b { } }: C, a, b
abbrev pub writing_children : List Row
writing_children =
    tree (shop (a_class (codes "C") None false (for_children (writes key_k) ∷ [])
    (member (a_test (codes "a") None []) (member (a_test (codes "b") None []) no_members)) ∷ [])
    ∷ [])

-- nodes 1 to 4 of read children "K" class Out { class In { test t { } write "K" test u { } } }:
-- Out, In, t, u
abbrev pub reading_children : List Row
reading_children =
    tree (shop (a_class (codes "Out") None false (for_children (reads key_k) ∷ [])
    (member (class_member (a_class (codes "In") None false []
    (member (a_test (codes "t") None [])
    (member (a_test (codes "u") None (writes key_k ∷ [])) no_members)))) no_members) ∷ []) ∷ [])

-- nodes 1 and 2 of write children "K" read "L" class C { test a { } }: C, a
abbrev pub keys_of_children : List Row
keys_of_children =
    tree (shop (a_class (codes "C") None false (for_children (writes key_k) ∷ reads key_l ∷ [])
    (member (a_test (codes "a") None []) no_members) ∷ []) ∷ [])

-- node 1 of read children "K" write children "L" class C { }: C
abbrev pub keys_of_no_node : List Row
keys_of_no_node =
    tree (shop (a_class (codes "C") None false
    (for_children (reads key_k) ∷ for_children (writes key_l) ∷ []) no_members ∷ []) ∷ [])

-- nodes 1 and 2 of class A "B" { test t "u" { } }: A, t
abbrev pub titled : List Row
titled =
    tree (shop (class (record {
      name = codes "A";
      display = Some (codes "B");
      mode = None;
      isolated = false;
      head = head_with [];
    })
    (member (test_member (record {
      name = codes "t";
      display = Some (codes "u");
      mode = None;
      head = record { marks = []; disabled = None; body = no_acts };
    })) no_members)
    ∷ []) ∷ [])

-- of four nodes those that are held: a class and the first test in it
abbrev pub class_and_test : List Bool
class_and_test = false ∷ true ∷ true ∷ false ∷ []

-- of five nodes those that are held: two classes
abbrev pub first_and_second : List Bool
first_and_second = false ∷ true ∷ false ∷ true ∷ false ∷ []
