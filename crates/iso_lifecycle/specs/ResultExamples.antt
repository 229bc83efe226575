-- Example results of a suite in which two classes aren't opened well.
use Rattle.std.specs.Prelude.{List, [], ◌∷◌, None, true, false, codes}
use Rattle.iso_model.specs.Chains.{ClassHead}
use Rattle.iso_model.specs.Examples.Lifecycles.{assumes_false_first, no_database, opens_inside}
use Rattle.iso_model.specs.Scripts.{Class, class, class_member, Members, no_members, member}
use Rattle.iso_plan.specs.Examples.{a_test, shop}
use Rattle.iso_plan.specs.Planned.{Planned}
use Rattle.iso_plan.specs.Tree.{Row, tree}
use Rattle.iso_settings.specs.Worlds.{empty_start}
use Rattle.iso_lifecycle.specs.ResultViews.{ResultsView}
use Prim.Native.String.{String}

abbrev a_class : String → ClassHead → Members → Class
a_class name head ms =
    class (record {
      name = codes name;
      display = None;
      mode = None;
      isolated = false;
      head = head;
    }) ms

-- class Out { before_all { print "open"; fail "no db"; } after_all { print "close"; fail "still no
-- db"; } test t { } class In { before_all { print "in"; } test u { } } }
abbrev out : Class
out =
    a_class "Out" no_database
    (member (a_test (codes "t") None [])
    (member (class_member
    (a_class "In" opens_inside (member (a_test (codes "u") None []) no_members)))
    no_members))

-- class Next { before_all { assume false, "no #1"; } test v { } }
abbrev next : Class
next = a_class "Next" assumes_false_first (member (a_test (codes "v") None []) no_members)

-- class Last { before_all { print "in"; } test w { } }
abbrev last : Class
last = a_class "Last" opens_inside (member (a_test (codes "w") None []) no_members)

-- nodes 1 to 8: Out, t, In, u, Next, v, Last, w
abbrev pub three_classes : List Row
three_classes = tree (shop (out ∷ next ∷ last ∷ []) ∷ [])

-- every `before_all` that runs was put, and nothing else
abbrev pub all_opened : Planned → ResultsView
all_opened plan = record {
  plan = plan;
  start = empty_start;
  opened = false ∷ true ∷ false ∷ false ∷ false ∷ true ∷ false ∷ true ∷ false ∷ [];
  ended = false ∷ false ∷ false ∷ false ∷ false ∷ false ∷ false ∷ false ∷ false ∷ [];
}

-- the `after_all` of Out, and test w, were put too
abbrev pub two_ended : Planned → ResultsView
two_ended plan = record (all_opened plan) {
  ended = false ∷ true ∷ false ∷ false ∷ false ∷ false
      ∷ false ∷ false ∷ true ∷ [];
}
