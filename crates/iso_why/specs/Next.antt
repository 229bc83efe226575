-- The next number that passes a test.
use Rattle.std.specs.Prelude.{◌≡◌, ◌<◌, ◌≤◌, ◌+◌, ◌-◌, ℕ, List, [], ◌∷◌, Option, Some, None, Bool, filter}
use Rattle.std.specs.List.{range_with_len}

-- those that pass, from one number on and below another
abbrev pub passing : (ℕ → Bool) → (from end : ℕ) → List ℕ
passing test from end = filter test (range_with_len from (end - from))

-- none passes, or the first that does is this one
abbrev pub IsNext : (ℕ → Bool) → (from end : ℕ) → Option ℕ → Type 0
IsNext test from end None = passing test from end ≡ []
IsNext test from end (Some n) =
    (from ≤ n) × (n < end) × (passing test from end ≡ n ∷ passing test (n + 1) end)
