-- Example outcomes of a suite in which classes fail in one another.
use Rattle.std.specs.Prelude.{ℕ, List, [], ◌∷◌, Some, None, false, codes, slice_index_or}
use Rattle.iso_model.specs.Scripts.{Class, Member, class_member, test_member, Members, no_members, member}
use Rattle.iso_model.specs.Syntax.{no_acts}
use Rattle.iso_model.specs.declared.fault.FaultKind.TheVariants.{Frozen}
use Rattle.iso_model.specs.declared.outcome.Note.{Note}
use Rattle.iso_model.specs.declared.outcome.Outcome.{Outcome}
use Rattle.iso_model.specs.declared.outcome.Verdict.{Verdict}
use Rattle.iso_model.specs.declared.outcome.Verdict.TheVariants as V
use Rattle.iso_model.specs.declared.place.BlockName.TheVariants as B
use Rattle.iso_model.specs.declared.place.Lifecycle.{Lifecycle}
use Rattle.iso_model.specs.declared.place.Lifecycle.TheVariants.{AfterAll, BeforeAll}
use Rattle.iso_model.specs.declared.place.Place.{Place}
use Rattle.iso_model.specs.declared.place.Place.TheVariants.{Disabled, Row}
use Rattle.iso_plan.specs.Examples.{a_class, a_test, shop}
use Rattle.iso_plan.specs.Tree as T
use Rattle.iso_plan.specs.Tree.{tree}
use Prim.Native.String.{String}

abbrev test_named : String → Member
test_named name = a_test (codes name) None []

abbrev class_named : String → Members → Class
class_named name ms = a_class (codes name) None false [] ms

-- test d "the last" { }
abbrev titled : Member
titled =
    test_member (record {
      name = codes "d";
      display = Some (codes "the last");
      mode = None;
      head = record { marks = []; disabled = None; body = no_acts };
    })

-- class Drawer { test c { } }
abbrev drawer : Class
drawer = class_named "Drawer" (member (test_named "c") no_members)

-- class Till { before_all { .. } test b { } class Drawer { test c { } } }
abbrev till : Class
till = class_named "Till" (member (test_named "b") (member (class_member drawer) no_members))

-- class Cart { after_all { .. } test a { } class Till { .. } test d "the last" { } }
abbrev cart : Class
cart =
    class_named "Cart" (member (test_named "a")
    (member (class_member till) (member titled no_members)))

-- class Desk { test e { } disabled "later" test f { } }
abbrev desk : Class
desk = class_named "Desk" (member (test_named "e") (member (test_named "f") no_members))

-- nodes 1 to 10: Cart, a, Till, b, Drawer, c, d, Desk, e, f
abbrev pub till_in_cart : List T.Row
till_in_cart = tree (shop (cart ∷ desk ∷ []) ∷ [])

abbrev pub at_place : Place → Note
at_place place = record { message = codes "no"; place = place }

-- what a block of a class, and a test, say
abbrev pub in_class : ℕ → Lifecycle → Note
in_class depth kind = at_place (Row (B.Class depth kind) 1)

abbrev pub in_test : Note
in_test = at_place (Row B.Test 1)

-- What the root and these nodes came to. The root has no blocks of its own: what stands there
-- counts for nothing. The `after_all` of Cart failed and nothing else of it, so all in it was run.
-- The `before_all` of Till ended by a fault, which blocks b, Drawer and c. Test d ended by a fault
-- too. Of Desk one test was skipped, and the other is disabled.
abbrev pub verdicts : List Verdict
verdicts =
    V.Fail (in_class 0 BeforeAll)
    ∷ V.Fail (in_class 1 AfterAll)
    ∷ V.Pass
    ∷ V.Fault Frozen (in_class 2 BeforeAll)
    ∷ V.Blocked (in_class 2 BeforeAll)
    ∷ V.Blocked (in_class 2 BeforeAll)
    ∷ V.Blocked (in_class 2 BeforeAll)
    ∷ V.Fault Frozen in_test
    ∷ V.Pass
    ∷ V.Skipped in_test
    ∷ V.Skipped (at_place Disabled)
    ∷ []

abbrev pub with_verdict : Verdict → Outcome
with_verdict v = record { verdict = v; output = [] }

abbrev pub outcome_of : ℕ → Outcome
outcome_of n = with_verdict (slice_index_or verdicts n V.Pass)

-- the same, where the `before_all` of Cart failed: all in it is blocked by that
abbrev pub unopened : List Verdict
unopened =
    V.Fail (in_class 0 BeforeAll)
    ∷ V.Fail (in_class 1 BeforeAll)
    ∷ V.Blocked (in_class 1 BeforeAll)
    ∷ V.Blocked (in_class 1 BeforeAll)
    ∷ V.Blocked (in_class 1 BeforeAll)
    ∷ V.Blocked (in_class 1 BeforeAll)
    ∷ V.Blocked (in_class 1 BeforeAll)
    ∷ V.Blocked (in_class 1 BeforeAll)
    ∷ []

abbrev pub unopened_of : ℕ → Outcome
unopened_of n = with_verdict (slice_index_or unopened n V.Pass)
