-- The numbers of keys: their places in a list.
use Rattle.std.specs.Prelude.{◌≡◌, ℕ, zero, suc, List, [], length, Option, Some, None, cond, bytes_eq, slice_index_or}
use Rattle.iso_model.specs.KeyMaps.{value_in}

-- the number of a key among the first n
abbrev pub number_below : List (List ℕ) → List ℕ → ℕ → Option ℕ
number_below keys k zero = None
number_below keys k (suc n) =
    cond (bytes_eq k (slice_index_or keys n [])) (Some n) (number_below keys k n)

-- whether pairs have the number of each key
abbrev pub AreNumbers : List (List ℕ × ℕ) → List (List ℕ) → Type 0
AreNumbers numbers keys = (k : List ℕ) → value_in numbers k ≡ number_below keys k (length keys)
