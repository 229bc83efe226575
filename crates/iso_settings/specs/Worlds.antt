-- The values that resources start with, as a function of a TOML table.
--
-- world of a table: Top-level keys and leaves in the table's order, each text checked for
-- WrongValue before OutOfRange (`world_in`, `texts_of`, `with_text`, `text_of`); the value that a
-- key starts with in it (`starting_value_in`).
use Rattle.std.specs.Prelude.{ℕ, Bool, ◌&&◌, ◌||◌, not, nat_le, nat_lt, nat_eq, if◌then◌else◌, cond, bytes_eq, List, [], ◌∷◌, ◌++◌, codes, length, drop, Option, Some, None, is_some, Ok, Err, refl}
use Rattle.std.specs.List.{starts_with, list_all}
use Rattle.std.specs.FinMap.{code, empty, get, insert}
use Rattle.std.specs.Coded.{Coded, code_by, coded×, coded_list, coded_ℕ}
use Rattle.toml.specs.Data.{Data, string, table, Members, no_members, member}
use Rattle.iso_model.specs.ResourceKeys.{properties_key, locale_key, file_prefix}
use Rattle.iso_model.specs.Properties.{Map}
use Rattle.iso_model.specs.Resources.{default_locale}
use Rattle.iso_model.specs.declared.limits.TheConstants.{TEXT_BYTES}
use Rattle.iso_model.specs.declared.resource.Resource.{Resource}
use Rattle.iso_model.specs.declared.resource.Resource.TheVariants.{Props, Locale, File, Plain}
use Rattle.iso_settings.specs.Leaves.{Leaf, leaves}
use Rattle.iso_settings.specs.Readings.{Reading, ◌>>=◌}
use Rattle.iso_settings.specs.declared.fault.SettingsFault.TheVariants.{NotToml, WrongValue, OutOfRange}

-- maps of texts are stored by their entries
abbrev pub map_code : Coded Map
map_code = code (coded_list coded_ℕ) (coded_list coded_ℕ)

-- what a world says: the texts of files by their paths, the locale, the properties
pub record Start : Type 0 where
  pub files : Map
  pub locale : List ℕ
  pub properties : Map

-- a start is stored as its parts
abbrev Parts : Type 0
Parts = Map × (List ℕ × Map)

abbrev parts : Start → Parts
parts s = (s.files, (s.locale, s.properties))

abbrev with_parts : Parts → Start
with_parts p = record { files = p.0; locale = p.1.0; properties = p.1.1 }

abbrev pub start_code : Coded Start
start_code = code_by Parts (coded× map_code (coded× (coded_list coded_ℕ) map_code)) parts
    with_parts (λ _. refl)

-- the start of a world that says nothing
abbrev pub empty_start : Start
empty_start = record { files = empty; locale = default_locale; properties = empty }

-- the value that a key starts with: a file that isn't named is missing
abbrev pub starting_value_in : Start → List ℕ → Resource
starting_value_in start key =
    cond (bytes_eq key properties_key) (Props start.properties)
    (cond (bytes_eq key locale_key) (Locale start.locale)
    (cond (starts_with nat_eq key file_prefix)
    (File (get start.files (drop (length file_prefix) key))) Plain))

-- the bytes are printable ASCII
abbrev pub is_printable : List ℕ → Bool
is_printable = list_all (λ byte. nat_le 0x20 byte && nat_le byte 0x7E)

-- there are more bytes than a text may have
abbrev pub is_long : List ℕ → Bool
is_long text = nat_lt TEXT_BYTES (length text)

-- a text, if it is neither wrong nor out of range, which is tested in this order
abbrev pub checked : (key : List ℕ) → (is_wrong is_out : Bool) → List ℕ → Reading (List ℕ)
checked key is_wrong is_out text =
    if is_wrong then Err (WrongValue key) else if is_out then Err (OutOfRange key) else Ok text

-- the locale
abbrev pub locale_of : List ℕ → Data → Reading (List ℕ)
locale_of key (string text) = checked key (not (is_printable text)) (is_long text) text
locale_of key _ = Err (WrongValue key)

-- the text of a leaf of the table `top`, whose joined key is none of those read before it
abbrev pub text_of : (top : List ℕ) → (before : Map) → (key : List ℕ) → Data → Reading (List ℕ)
text_of top before key (string text) =
    checked (top ++ codes "." ++ key) (not (is_printable key && is_printable text)
    || is_some (get before key)) (is_long key || is_long text) text
text_of top before key _ = Err (WrongValue (top ++ codes "." ++ key))

-- the texts read before a leaf, and its own
abbrev pub with_text : (top : List ℕ) → (before : Map) → (key : List ℕ) → Data → Reading Map
with_text top before key value =
    text_of top before key value >>= (λ text. Ok (insert before key text))

-- the texts read before some leaves, and theirs
abbrev pub texts_of : (top : List ℕ) → (before : Map) → List Leaf → Reading Map
texts_of top before [] = Ok before
texts_of top before (leaf ∷ rest) =
    with_text top before leaf.0 leaf.1 >>= (λ texts. texts_of top texts rest)

-- a table of texts
abbrev pub table_of : List ℕ → Data → Reading Map
table_of top (table members) = texts_of top empty (leaves members)
table_of top _ = Err (WrongValue top)

-- what one top-level key says besides
abbrev pub with_entry : Start → List ℕ → Data → Reading Start
with_entry start key value =
    if bytes_eq key (codes "files") then table_of key value >>=
    (λ texts. Ok (record start { files = texts }))
    else if bytes_eq key (codes "locale") then locale_of key value >>=
    (λ text. Ok (record start { locale = text }))
    else if bytes_eq key (codes "properties") then table_of key value >>=
    (λ texts. Ok (record start { properties = texts }))
    else Err (WrongValue key)

-- what top-level keys say, one after another
abbrev pub with_entries : Start → Members → Reading Start
with_entries start no_members = Ok start
with_entries start (member key value rest) =
    with_entry start key value >>= (λ more. with_entries more rest)

-- the world of a document: of the table that it is, where it is TOML
abbrev pub world_in : Option Members → Reading Start
world_in None = Err NotToml
world_in (Some document) = with_entries empty_start document
