-- Keys that begin as JUnit's do and are none of settings: the first ten, and how many there are
-- more.
use Rattle.std.specs.Prelude.{ℕ, ◌+◌, List, [], ◌∷◌, ◌++◌, cond, length, map, min, nat_lt, string_bytes}
use Rattle.iso_hints.specs.Keys.{is_unknown}
use Rattle.iso_settings.specs.Leaves.{Leaf}
use Rattle.iso_explain_settings.specs.declared.unknown.Unknown.{Unknown}

-- the first ten keys, and how many there are more, as far as 64 bits count
abbrev pub Kept : Type 0
Kept = List (List ℕ) × ℕ

-- one more key
unfoldable pub with_one : Kept → List ℕ → Kept
with_one kept key = cond (nat_lt (length kept.0) 10) (kept.0 ++ key ∷ [], kept.1)
    (kept.0, min (kept.1 + 1) 18446744073709551615)

-- `more` more of them
abbrev pub with_more : Kept → ℕ → Kept
with_more kept more = (kept.0, min (kept.1 + more) 18446744073709551615)

-- one more key, if it is unknown
unfoldable pub with_key : Kept → List ℕ → Kept
with_key kept key = cond (is_unknown key) (with_one kept key) kept

-- the unknown ones of the keys of these leaves besides
abbrev pub with_keys : Kept → List Leaf → Kept
with_keys kept [] = kept
with_keys kept (leaf ∷ rest) = with_keys (with_key kept leaf.0) rest

-- the unknown ones of the keys of leaves
abbrev pub unknown_in : List Leaf → Kept
unknown_in leaves = with_keys ([], 0) leaves

-- what the code holds
abbrev pub kept_of : Unknown → Kept
kept_of unknown = (map string_bytes unknown.keys.items, unknown.more)
