-- Example runs.
use Rattle.std.specs.Prelude.{ℕ, List, [], ◌∷◌, ◌++◌, Option, None, Some, false, codes, slice_index_or}
use Rattle.std.specs.List.{flat_map}
use Rattle.iso_failures.specs.Examples.{till_in_cart}
use Rattle.iso_model.specs.Scripts.{Class, class_member, Members, no_members, member}
use Rattle.iso_model.specs.declared.fault.FaultKind.TheVariants.{Frozen}
use Rattle.iso_model.specs.declared.outcome.Note.{Note}
use Rattle.iso_model.specs.declared.outcome.Outcome.{Outcome}
use Rattle.iso_model.specs.declared.outcome.Verdict.{Verdict}
use Rattle.iso_model.specs.declared.outcome.Verdict.TheVariants.{Pass, Fail, Fault, Skipped, Blocked}
use Rattle.iso_model.specs.declared.place.BlockName.TheVariants as B
use Rattle.iso_model.specs.declared.place.Place.TheVariants.{Row}
use Rattle.iso_plan.specs.Examples.{a_class, shop}
use Rattle.iso_plan.specs.Tree.{tree}
use Rattle.iso_junit.specs.Runs.{PlacedView, RunView}
use Prim.Native.String.{String}

-- lines, each with its line feed
abbrev pub text_of : List String → List ℕ
text_of lines = flat_map (λ l. codes l ++ codes "\n") lines

abbrev says : String → Note
says message = record { message = codes message; place = Row B.Test 1 }

-- where a node of cart.jtap stands
abbrev pub in_cart : (line ended : ℕ) → PlacedView
in_cart line ended = record { file = codes "cart.jtap"; line = line; ended = ended }

abbrev passed : Outcome
passed = record { verdict = Pass; output = [] }

abbrev silent : Verdict → Outcome
silent verdict = record { verdict = verdict; output = [] }

-- What the root and Cart, a, Till, b, Drawer, c, d, Desk, e, f came to: the class Cart printed, and
-- failed by itself after its tests; so did Till in it before them, by a fault, which blocks b and
-- c; d failed, which has the display text "the last"; e and f were skipped.
abbrev outcomes : List Outcome
outcomes =
    passed
    ∷ record {
      verdict = Fail (says "still open");
      output = codes "opened"
          ∷ codes "not closed" ∷ [];
    }
    ∷ passed
    ∷ silent (Fault Frozen (says "n is frozen"))
    ∷ silent (Blocked (says "n is frozen"))
    ∷ silent (Blocked (says "n is frozen"))
    ∷ silent (Blocked (says "n is frozen"))
    ∷ record {
      verdict = Fail (says "expected: <6> but was: <5>");
      output = codes "say \"hi\" & go" ∷ [];
    }
    ∷ passed
    ∷ silent (Skipped (says "no #1"))
    ∷ silent (Skipped (says "later"))
    ∷ []

abbrev pub outcome_of : ℕ → Outcome
outcome_of n = slice_index_or outcomes n passed

abbrev places : List PlacedView
places =
    in_cart 0 0
    ∷ in_cart 2 9
    ∷ in_cart 3 3
    ∷ in_cart 4 5
    ∷ in_cart 6 5
    ∷ in_cart 7 5
    ∷ in_cart 8 5
    ∷ in_cart 10 11
    ∷ in_cart 13 13
    ∷ in_cart 14 15
    ∷ in_cart 16 16
    ∷ []

-- the microseconds that their bodies took: blocked and disabled nodes have none, nor has Drawer
abbrev times : List (Option ℕ)
times = None ∷ Some 7 ∷ Some 2 ∷ Some 3 ∷ None ∷ None ∷ None ∷ Some 1500000 ∷ None
    ∷ Some 4 ∷ None ∷ []

abbrev pub cart_run : RunView
cart_run = record { tree = till_in_cart; outcome = outcome_of; places = places; times = times }

-- the same run, of which nothing was measured
abbrev pub unmeasured : RunView
unmeasured = record cart_run { times = [] }

-- the same nodes, which all passed
abbrev pub all_passed : RunView
all_passed = record unmeasured { outcome = λ n. passed }

-- a run of no nodes
abbrev pub no_nodes : RunView
no_nodes = record unmeasured { tree = [] }

-- class A { class B { } }, which came to this
abbrev class_named : String → Members → Class
class_named name ms = a_class (codes name) None false [] ms

abbrev pub holders_to : List Outcome → RunView
holders_to outcomes =
    record unmeasured {
      tree =
          tree (shop (class_named "A"
          (member (class_member (class_named "B" no_members)) no_members) ∷ []) ∷ []);
      outcome = λ n. slice_index_or outcomes n passed;
    }

-- both passed; the blocks of A failed; those of A printed
abbrev pub holders : RunView
holders = holders_to []

abbrev pub holders_failed : RunView
holders_failed = holders_to (passed ∷ silent (Fail (says "no")) ∷ silent (Blocked (says "no")) ∷ [])

abbrev pub holders_printed : RunView
holders_printed = holders_to (passed ∷ record { verdict = Pass; output = codes "opened" ∷ [] } ∷ [])
