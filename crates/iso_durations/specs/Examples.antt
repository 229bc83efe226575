-- Example times.
use Rattle.std.specs.Prelude.{ℕ, List, [], ◌∷◌, ◌++◌, Option, None, Some, codes}
use Rattle.std.specs.List.{flat_map}
use Prim.Native.String.{String}

-- lines, each with its line feed
abbrev pub lines : List String → List ℕ
lines texts = flat_map (λ t. codes t ++ codes "\n") texts

-- What was measured of the root and Cart, a, b, Desk, c, Till, d: a took longest; Cart has blocks,
-- which took as long as c; Desk and Till have none; d didn't run.
abbrev pub cart_times : List (Option ℕ)
cart_times = None ∷ Some 310 ∷ Some 1500000 ∷ Some 20 ∷ None ∷ Some 310 ∷ None ∷ None ∷ []

-- of the root, which has no bodies, and of a test that took less than a microsecond
abbrev pub short_times : List (Option ℕ)
short_times = Some 7 ∷ None ∷ Some 0 ∷ []

-- of two tests that took longer than can be told
abbrev pub long_times : List (Option ℕ)
long_times = None ∷ None ∷ Some 18446744073709551615 ∷ Some 1 ∷ []
