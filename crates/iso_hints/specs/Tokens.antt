-- Tokens beside a place.
use Rattle.std.specs.Prelude.{ℕ, ◌-◌, List, Bool, false, ◌&&◌, ◌==◌, not, Option, Some, None, drop, length, nat_eq, slice_get, take}
use Rattle.std.specs.List.{ends_with, list_all, starts_with}
use Rattle.iso_hints.specs.Bytes.{in_name}

-- there is a byte, and it is one of a name
abbrev pub is_name_byte : Option ℕ → Bool
is_name_byte None = false
is_name_byte (Some b) = in_name b

-- a word goes on from the first bytes into the second
abbrev pub is_cut : List ℕ → List ℕ → Bool
is_cut first second =
    is_name_byte (slice_get first (length first - 1)) && is_name_byte (slice_get second 0)

-- the bytes begin with the token, and it doesn't go on as a longer word. An empty token is always
-- there
abbrev pub is_next : List ℕ → List ℕ → Bool
is_next token bytes =
    starts_with nat_eq bytes token && not (is_cut token (drop (length token) bytes))

-- the bytes end with the token, and no longer word does
abbrev pub is_last : List ℕ → List ℕ → Bool
is_last token bytes =
    ends_with nat_eq bytes token && not (is_cut (take (length bytes - length token) bytes) token)

-- a name: each byte is of a name, and there is one
abbrev pub is_name : List ℕ → Bool
is_name bytes = not (length bytes == 0) && list_all in_name bytes
