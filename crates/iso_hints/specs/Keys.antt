-- Keys of settings.
--
-- unknown key: A key that begins as JUnit's do and is none of settings (`is_unknown`,
-- `known_keys`), the one that was meant: the nearest by what both have behind the last dot up to
-- which they are the same, or one with a segment more (`meant_key`, `rests`, `key_distance`), and
-- the line that tells of it (`unknown_line`).
-- Also in: `NearKeys`.
-- Standard: JUnit 5 User Guide, configuration parameters.
use Rattle.std.specs.Prelude.{ℕ, List, [], ◌++◌, Bool, ◌&&◌, not, Option, Some, None, codes, map, nat_eq, option_map}
use Rattle.std.specs.List.{list_any, starts_with}
use Rattle.std.specs.Str.{bytes_eq}
use Rattle.iso_hints.specs.NearKeys.{nearest_from}
use Rattle.iso_hints.specs.Pictures.{shown_byte}
use Rattle.iso_hints.specs.declared.key.TheConstants.{KEYS}

-- the keys of settings
abbrev pub known_keys : List (List ℕ)
known_keys = map (λ k. k.now) KEYS.now

-- the key is one of settings
abbrev pub is_listed : List ℕ → Bool
is_listed key = list_any (λ k. bytes_eq k key) known_keys

-- the key is one of JUnit's by its beginning, and none of settings
abbrev pub is_unknown : List ℕ → Bool
is_unknown key = starts_with nat_eq key (codes "junit.jupiter.") && not (is_listed key)

-- the key of settings that was meant by one: the nearest, if one is near enough
abbrev pub meant_key : List ℕ → Option (List ℕ)
meant_key key = option_map (λ near. near.0) (nearest_from key None known_keys)

-- a key as what was meant
abbrev pub did_you_mean : List ℕ → List ℕ
did_you_mean key = codes ": did you mean " ++ key ++ codes "?"

-- what was meant, where something is near
abbrev pub suggestion : Option (List ℕ) → List ℕ
suggestion None = []
suggestion (Some key) = did_you_mean key

-- that a key is unknown, as a line
abbrev pub unknown_line : List ℕ → Option (List ℕ) → List ℕ
unknown_line key meant = codes "unknown " ++ map shown_byte key ++ suggestion meant ++ codes "\n"
