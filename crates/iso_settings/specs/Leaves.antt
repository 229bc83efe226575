-- The leaves of a TOML table: its values that are no tables, each under the path of its keys joined
-- by dots.
--
-- leaves of a table: The values that are no tables, each under the path of its keys joined by dots,
-- depth first in the table's order (`leaves`); the values at a joined key are two where two
-- spellings reach it (`values_at`).
-- Standard: TOML, dotted keys.
use Rattle.std.specs.Prelude.{◌≡◌, ◌≤◌, ℕ, List, [], ◌∷◌, ◌++◌, cond, bytes_eq, codes, length}
use Rattle.toml.specs.Data.{Data, table, Members, no_members, member}
use Rattle.toml.specs.View.{view}
use Rattle.iso_settings.specs.declared.find.Found.{Found}
use Rattle.iso_settings.specs.declared.find.Found.TheVariants.{Nothing, One, Several}

-- a value under its joined key
abbrev pub Leaf : Type 0
Leaf = List ℕ × Data

-- the leaves of what stands at a key, and of a table whose keys are put behind a path; both in the
-- table's order, depth first
abbrev mutual
  pub leaves_at : List ℕ → Data → List Leaf
  leaves_at key (table members) = leaves_behind (key ++ codes ".") members
  leaves_at key value = (key, value) ∷ []

  pub leaves_behind : List ℕ → Members → List Leaf
  leaves_behind path no_members = []
  leaves_behind path (member key value rest) =
      leaves_at (path ++ key) value ++ leaves_behind path rest

-- the leaves of a table
abbrev pub leaves : Members → List Leaf
leaves = leaves_behind []

-- the values of the leaves under a joined key: two where it is reached by two spellings
abbrev pub values_at : List ℕ → List Leaf → List Data
values_at key [] = []
values_at key (leaf ∷ rest) =
    cond (bytes_eq leaf.0 key) (leaf.1 ∷ values_at key rest) (values_at key rest)

-- what was found is none of these values, the only one, or a word for several
abbrev pub IsFound : Found → List Data → Type 0
IsFound Nothing values = values ≡ []
IsFound (One value) values = values ≡ view value.now ∷ []
IsFound Several values = 2 ≤ length values
