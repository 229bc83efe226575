-- The words of example documents. What each is read as is stated, and proved, in the source module
-- `examples`.
use Prim.Native.String.{String}
use Rattle.std.specs.Prelude.{◌≡◌, ℕ, pos, true, false, List, [], ◌∷◌, codes, Option, Some, None, Ok, Err}
use Rattle.std.specs.FinMap.{get}
use Rattle.toml.specs.Data.{Data, string, integer, boolean, array, no_items, table, Members, no_members, member}
use Rattle.iso_model.specs.ResourceKeys.{file_key, properties_key}
use Rattle.iso_model.specs.declared.resource.Resource.{Resource}
use Rattle.iso_model.specs.declared.resource.Resource.TheVariants.{Props}
use Rattle.iso_settings.specs.Readings.{Reading, ◌>>=◌}
use Rattle.iso_settings.specs.Settings.{jupiter, settings_in}
use Rattle.iso_settings.specs.Worlds.{Start, world_in, starting_value_in}
use Rattle.iso_settings.specs.declared.fault.SettingsFault.TheVariants.{WrongValue}

-- a key of a table, and what stands there
abbrev pub Entry : Type 0
Entry = List ℕ × Data

abbrev pub members : List Entry → Members
members [] = no_members
members (entry ∷ rest) = member entry.0 entry.1 (members rest)

-- a document with these entries
abbrev pub document : List Entry → Option Members
document entries = Some (members entries)

-- the key k of a table; a setting, by what follows `junit.jupiter.`; one of parallel execution
abbrev pub at : String → Data → Entry
at k value = (codes k, value)

abbrev pub set : String → Data → Entry
set name value = (jupiter name, value)

-- the keys of settings by short names
abbrev pub enabled : Data → Entry
enabled = set "execution.parallel.enabled"

abbrev pub default_mode : Data → Entry
default_mode = set "execution.parallel.mode.default"

abbrev pub classes_mode : Data → Entry
classes_mode = set "execution.parallel.mode.classes.default"

abbrev pub strategy : Data → Entry
strategy = set "execution.parallel.config.strategy"

abbrev pub factor : Data → Entry
factor = set "execution.parallel.config.dynamic.factor"

abbrev pub parallelism : Data → Entry
parallelism = set "execution.parallel.config.fixed.parallelism"

-- values
abbrev pub text : String → Data
text t = string (codes t)

abbrev pub number : ℕ → Data
number n = integer (pos n)

abbrev pub yes : Data
yes = boolean true

abbrev pub no : Data
no = boolean false

-- a value that is wrong at each key of the settings
abbrev pub wrong : Data
wrong = array no_items

abbrev pub inner : List Entry → Data
inner entries = table (members entries)

-- the tables of a world, and its locale
abbrev pub files : List Entry → Entry
files entries = at "files" (inner entries)

abbrev pub properties : List Entry → Entry
properties entries = at "properties" (inner entries)

abbrev pub locale : Data → Entry
locale = at "locale"

-- the world of these entries
abbrev pub world_of : List Entry → Reading Start
world_of entries = world_in (document entries)

-- how many workers settings give
abbrev pub workers_in : List Entry → (processors : ℕ) → Reading ℕ
workers_in entries processors =
    settings_in (document entries) processors >>= (λ settings. Ok settings.worker_count)

-- of two settings with wrong values, the first is answered, though the second stands before it
abbrev pub ComesFirst : String → String → Type 0
ComesFirst first second = workers_in (set second wrong ∷ set first wrong ∷ []) 1
    ≡ Err (WrongValue (jupiter first))

-- what a key starts with in a world, and the file at a path
abbrev pub start_in : List Entry → List ℕ → Reading Resource
start_in entries key = world_of entries >>= (λ start. Ok (starting_value_in start key))

abbrev pub file_in : List Entry → String → Reading Resource
file_in entries path = start_in entries (file_key (codes path))

-- a property that a resource has
abbrev pub property : String → Resource → Option (List ℕ)
property name (Props held) = get held (codes name)
property name _ = None

-- a property that a world starts with
abbrev pub property_in : List Entry → String → Reading (Option (List ℕ))
property_in entries name = start_in entries properties_key >>= (λ value. Ok (property name value))
