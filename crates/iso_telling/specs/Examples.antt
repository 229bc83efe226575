-- Example outcomes, and where the nodes stand that came to them.
use Prim.Native.String.{String}
use Rattle.std.specs.Prelude.{ℕ, List, [], ◌∷◌, codes, slice_index_or}
use Rattle.iso_failures.specs.Examples.{at_place, in_class, with_verdict}
use Rattle.iso_html.specs.Quotes.{LineView}
use Rattle.iso_model.specs.declared.fault.FaultKind.TheVariants.{BadCount}
use Rattle.iso_model.specs.declared.outcome.Outcome.{Outcome}
use Rattle.iso_model.specs.declared.outcome.Verdict.{Verdict}
use Rattle.iso_model.specs.declared.outcome.Verdict.TheVariants.{Pass, Fail, Fault, Skipped}
use Rattle.iso_model.specs.declared.place.Lifecycle.TheVariants.{BeforeAll}
use Rattle.iso_model.specs.declared.place.BlockName.TheVariants.{Test}
use Rattle.iso_model.specs.declared.place.Place.{Place}
use Rattle.iso_model.specs.declared.place.Place.TheVariants.{Row}
use Rattle.iso_places.specs.Sites.{all_sites}
use Rattle.iso_places.specs.declared.site.Site.{Site}
use Rattle.iso_script.specs.Examples.{class_at, test_at}

-- The `before_all` of Desk ended by a false assumption, which skips e and f; all else passed.
abbrev pub unassumed : List Verdict
unassumed =
    Pass
    ∷ Pass
    ∷ Pass
    ∷ Pass
    ∷ Pass
    ∷ Pass
    ∷ Pass
    ∷ Pass
    ∷ Skipped (in_class 1 BeforeAll)
    ∷ Skipped (in_class 1 BeforeAll)
    ∷ Skipped (in_class 1 BeforeAll)
    ∷ []

abbrev pub unassumed_of : ℕ → Outcome
unassumed_of n = with_verdict (slice_index_or unassumed n Pass)

-- each node failed here; each was skipped here
abbrev pub failed_at : Place → ℕ → Outcome
failed_at place n = with_verdict (Fail (at_place place))

abbrev pub skipped_at : Place → ℕ → Outcome
skipped_at place n = with_verdict (Skipped (at_place place))

-- each node ended by a number of turns below 0, on row 1 of its test
abbrev pub faulted_of : ℕ → Outcome
faulted_of n =
    with_verdict (Fault BadCount (record { message = codes "bad count"; place = Row Test 1 }))

-- the sites of Cart, a, Till, b, Drawer, c, d, Desk, e, f: Cart has an after_all at line 3 and a
-- before_each at line 6, Till a before_all at line 12
abbrev pub till_sites : List Site
till_sites =
    all_sites (
    (class_at 2 7 0 3 6 0 ∷ test_at 9 10 9 ∷ class_at 11 11 12 0 0 0 ∷ test_at 15 14 16
    ∷ class_at 18 15 0 0 0 0 ∷ test_at 19 18 19 ∷ test_at 23 10 24
    ∷ class_at 30 7 0 0 0 0 ∷ test_at 31 10 31 ∷ test_at 33 24 34 ∷ []) ∷ [])

-- the names and the bytes of two scripts, of which the second has line ends with a carriage return
abbrev pub two_names : List (List ℕ)
two_names = codes "a.jtap" ∷ codes "my b.jtap" ∷ []

abbrev pub two_texts : List (List ℕ)
two_texts = codes "team a\nclass A { }\n" ∷ codes "team b\r\nclass B { }\r\n" ∷ []

-- a script of six lines, of which the last has no line end, and a line with its number
abbrev pub six_lines : List ℕ
six_lines = codes "a\nb\nc\nd\ne\nf"

abbrev pub numbered : ℕ → String → LineView
numbered k text = record { number = k; text = codes text }
