-- Example runs.
use Rattle.std.specs.Prelude.{ℕ, List, [], ◌∷◌, ◌++◌, codes, slice_index_or}
use Rattle.std.specs.List.{flat_map}
use Rattle.iso_junit.specs.Runs.{PlacedView}
use Rattle.iso_model.specs.declared.fault.FaultKind.TheVariants.{Frozen}
use Rattle.iso_model.specs.declared.outcome.Note.{Note}
use Rattle.iso_model.specs.declared.outcome.Outcome.{Outcome}
use Rattle.iso_model.specs.declared.outcome.Verdict.{Verdict}
use Rattle.iso_model.specs.declared.outcome.Verdict.TheVariants.{Pass, Fail, Fault, Skipped, Blocked}
use Rattle.iso_model.specs.declared.place.BlockName.TheVariants as B
use Rattle.iso_model.specs.declared.place.Place.TheVariants.{Row}
use Prim.Native.String.{String}

-- lines, each with its line feed
abbrev pub text_of : List String → List ℕ
text_of lines = flat_map (λ l. codes l ++ codes "\n") lines

abbrev says : String → Note
says message = record { message = codes message; place = Row B.Test 1 }

-- a node of cart.jtap, by the lines of its name and of what ended it
abbrev pub in_cart : (line ended : ℕ) → PlacedView
in_cart line ended = record { file = codes "cart.jtap"; line = line; ended = ended }

-- What the root and Cart, a, Till, b, Drawer, c, d, Desk, e, f came to: the class Cart failed by
-- itself, and so did Till in it, by a fault, which blocks b and c; d failed; e and f were skipped.
abbrev verdicts : List Verdict
verdicts =
    Pass
    ∷ Fail (says "still open")
    ∷ Pass
    ∷ Fault Frozen (says "n is frozen")
    ∷ Blocked (says "n is frozen")
    ∷ Blocked (says "n is frozen")
    ∷ Blocked (says "n is frozen")
    ∷ Fail (says "expected: <6> but was: <5>, 50% of 10")
    ∷ Pass
    ∷ Skipped (says "no #1")
    ∷ Skipped (says "later")
    ∷ []

abbrev pub outcome_of : ℕ → Outcome
outcome_of n = record { verdict = slice_index_or verdicts n Pass; output = [] }

abbrev pub places : List PlacedView
places =
    in_cart 0 0
    ∷ in_cart 2 9
    ∷ in_cart 3 3
    ∷ in_cart 4 5
    ∷ in_cart 6 5
    ∷ in_cart 7 5
    ∷ in_cart 8 5
    ∷ in_cart 10 11
    ∷ in_cart 13 13
    ∷ in_cart 14 15
    ∷ in_cart 16 16
    ∷ []
