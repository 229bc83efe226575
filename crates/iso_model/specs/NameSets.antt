-- Names seen so far, as a set keeps them.
--
-- names seen so far: Whether a set of names has a name (`is_among`, `Knows`).
use Rattle.std.specs.Prelude.{ℕ, List, Bool, ◌≡◌}
use Rattle.std.specs.Borrow.{Bor}
use Rattle.std.specs.BTreeSet.{BTreeSet, contains_by}
use Rattle.std.specs.Cmp.Lexicographic.{slice_cmp}
use Rattle.std.specs.List.{list_any}
use Rattle.std.specs.Ordering.{nat_cmp}
use Rattle.std.specs.Str.{bytes_eq}

-- whether a name is among some
abbrev pub is_among : List (List ℕ) → List ℕ → Bool
is_among names n = list_any (λ m. bytes_eq m n) names

-- the set has these names and no others
abbrev pub Knows : BTreeSet (Bor (List ℕ)) → List (List ℕ) → Type 0
Knows set names = (n : List ℕ) → contains_by (λ k. slice_cmp nat_cmp n k.now) set ≡ is_among names n
