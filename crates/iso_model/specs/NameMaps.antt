-- Maps from names to values.
--
-- values by name: A finite map from names to values, and the map of a list of entries, of which the
-- first with a name counts (`NameMap`, `map_of`). Entries in the order of their names by bytes,
-- each name once (`RiseByName`).
use Rattle.std.specs.Prelude.{List, [], ◌∷◌, map, string_bytes}
use Rattle.std.specs.Coded.{Coded, coded_list, coded_ℕ}
use Rattle.std.specs.Ordering.{nat_cmp}
use Rattle.std.specs.Cmp.Lexicographic.{slice_cmp}
use Rattle.std.specs.List.Sorted.{IsStrictlySortedBy}
use Rattle.std.specs.String.{string_cmp}
use Rattle.std.specs.FinMap.{FinMap, code, empty, insert}
use Rattle.std.specs.declared.string.String.{String}
use Rattle.std.specs.declared.alloc.Global.{Global}

-- a finite map from names to values
abbrev pub NameMap : Type 0 → Type 0
NameMap V = FinMap (slice_cmp nat_cmp) V

-- such maps are stored as their entries
abbrev pub name_map_code : {V : Type 0} → Coded V → Coded (NameMap V)
name_map_code value = code (coded_list coded_ℕ) value

-- the map of a list of entries: at a name that stands twice, the first one's value
abbrev pub map_of : {V : Type 0} → List (String Global × V) → NameMap V
map_of [] = empty
map_of (e ∷ es) = insert (map_of es) (string_bytes e.0) e.1

-- the names of entries rise, by their bytes, so that none stands twice
abbrev pub RiseByName : {V : Type 0} → List (String Global × V) → Type 0
RiseByName es = IsStrictlySortedBy string_cmp (map (λ e. e.0) es)
