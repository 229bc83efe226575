-- Example scripts with places.
use Rattle.std.specs.Prelude.{ℕ, List, [], ◌∷◌, codes}
use Rattle.iso_places.specs.Sites.{all_sites}
use Rattle.iso_places.specs.declared.end.ScriptLine.{ScriptLine}
use Rattle.iso_places.specs.declared.site.Site.{Site}
use Rattle.iso_plan.specs.Examples.{plain, shop}
use Rattle.iso_plan.specs.Tree.{Row, tree}
use Rattle.iso_script.specs.Examples.{class_at, test_at}
use Rattle.iso_script.specs.declared.place.NodePlace.{NodePlace}

-- nodes 1 to 4 of two scripts, one with class A { test t { } } of team shop, one with the same of
-- team bank: A, t, A, t
abbrev pub two_scripts : List Row
two_scripts = tree (shop (plain (codes "A") ∷ [])
    ∷ record { team = codes "bank"; classes = plain (codes "A") ∷ [] } ∷ [])

-- the places of the nodes of each script
abbrev pub first_places : List NodePlace
first_places = class_at 2 7 0 0 0 0 ∷ test_at 3 8 3 ∷ []

abbrev pub second_places : List NodePlace
second_places = class_at 1 17 0 0 0 0 ∷ test_at 2 6 4 ∷ []

abbrev pub two_sites : List Site
two_sites = all_sites (first_places ∷ second_places ∷ [])

-- two classes of one name, which no plan has
abbrev pub twice_named : List Row
twice_named = tree (shop (plain (codes "A") ∷ plain (codes "A") ∷ []) ∷ [])

-- the sites of Cart, a, b, Desk, c, Till, d: Desk has a before_all at line 12 and a before_each at
-- line 15, Till a before_all at line 26
abbrev pub desk_sites : List Site
desk_sites =
    all_sites (
    (class_at 2 7 0 0 0 0 ∷ test_at 3 8 3 ∷ test_at 5 8 5 ∷ class_at 10 7 12 0 15 0
    ∷ test_at 20 8 20 ∷ class_at 25 16 26 0 0 0 ∷ test_at 30 8 32 ∷ []) ∷ [])

-- a line of a script
abbrev pub line_in : (script line : ℕ) → ScriptLine
line_in script line = record { script = script; line = line }
