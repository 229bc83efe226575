-- Values by key: what the value of a key is in a list of pairs, and how pairs stand in order.
--
-- values by key: The value of a key in a list of pairs is the one that it first stands with
-- (`value_in`). Pairs in the order of their keys by bytes, each key once (`Rise`, `Follow`), and
-- where a key stands among them, or would stand (`IsPlace`).
use Rattle.std.specs.Prelude.{◌≡◌, ℕ, ◌<◌, ◌≤◌, List, [], ◌∷◌, length, Option, Some, None, Result, cond, bytes_eq}
use Rattle.std.specs.List.{HoldsAt}
use Rattle.std.specs.List.Sorted.{IsPartitionPoint}
use Rattle.std.specs.Ordering.{nat_cmp}
use Rattle.std.specs.declared.cmp.Ordering.TheVariants.{Less, Equal, Greater}
use Rattle.std.specs.Cmp.Lexicographic.{slice_cmp}
use Rattle.std.specs.Result.{MatchResult}

-- the value of a key in a list of pairs: the first that it stands with
abbrev pub value_in : {V : Type 0} → List (List ℕ × V) → List ℕ → Option V
value_in [] k = None
value_in (e ∷ es) k = cond (bytes_eq k e.0) (Some e.1) (value_in es k)

-- the keys of pairs all come after a key, by their bytes
abbrev pub Follow : {V : Type 0} → List ℕ → List (List ℕ × V) → Type 0
Follow k [] = Unit {0}
Follow k (e ∷ es) = (slice_cmp nat_cmp k e.0 ≡ Less) × Follow k es

-- the keys of pairs rise, each once
abbrev pub Rise : {V : Type 0} → List (List ℕ × V) → Type 0
Rise [] = Unit {0}
Rise (e ∷ es) = Follow e.0 es × Rise es

-- where a key stands among pairs whose keys rise, or else the place between the keys before it and
-- those after it
abbrev pub IsPlace : {V : Type 0} → List (List ℕ × V) → List ℕ → Result ℕ ℕ → Type 0
IsPlace es k r = MatchResult r
    (λ i. (i < length es) × HoldsAt (λ e. slice_cmp nat_cmp e.0 k ≡ Equal) es i)
    (λ i. (i ≤ length es) × IsPartitionPoint (λ e. slice_cmp nat_cmp e.0 k ≡ Less)
    (λ e. slice_cmp nat_cmp e.0 k ≡ Greater) es i)
