-- Resource values: what they hold, what a change makes of one, and where each starts.
--
-- resource value: A map of texts, a text, a text or missing, or nothing; a change acts on one value
-- of its kind (`changed`).
--
-- starting value: What a key starts with in a world that says nothing of it: no properties, the
-- locale `en` (`default_locale`), a missing file, nothing (`starting_value`; `empty_world` for
-- every key).
use Rattle.std.specs.Prelude.{ℕ, List, Option, Some, None, cond, bytes_eq, codes, option_map, nat_eq}
use Rattle.std.specs.List.{starts_with}
use Rattle.std.specs.FinMap.{empty, get, insert, remove}
use Rattle.iso_model.specs.ResourceKeys.{properties_key, locale_key, file_prefix}
use Rattle.iso_model.specs.Rights.{Rights, is_readable}
use Rattle.iso_model.specs.declared.resource.Resource.{Resource}
use Rattle.iso_model.specs.declared.resource.Resource.TheVariants.{Props, Locale, File, Plain}
use Rattle.iso_model.specs.declared.resource.Change.{Change}
use Rattle.iso_model.specs.declared.resource.Change.TheVariants.{SetProp, ClearProp, SetLocale, WriteFile, DeleteFile}

-- the values of resources by key; a key may have none
abbrev pub Resources : Type 0
Resources = List ℕ → Option Resource

-- a property, where the properties have it
abbrev pub property_in : Option Resource → List ℕ → Option (List ℕ)
property_in (Some (Props properties)) name = get properties name
property_in _ name = None

-- a file's text, where the file is there
abbrev pub text_in : Option Resource → Option (List ℕ)
text_in (Some (File text)) = text
text_in _ = None

-- the locale
abbrev pub locale_in : Option Resource → Option (List ℕ)
locale_in (Some (Locale locale)) = Some locale
locale_in _ = None

-- what a change makes of a value of its kind; any other value stays as it is
abbrev pub changed : Change → Resource → Resource
changed (SetProp name text) (Props properties) = Props (insert properties name text)
changed (ClearProp name) (Props properties) = Props (remove properties name)
changed (SetLocale text) (Locale locale) = Locale text
changed (WriteFile text) (File before) = File (Some text)
changed DeleteFile (File before) = File None
changed change value = value

-- the resources with one key's value changed
abbrev pub changed_at : Resources → List ℕ → Change → Resources
changed_at m k change q = cond (bytes_eq q k) (option_map (changed change) (m q)) (m q)

-- the locale where the world says nothing of it
abbrev pub default_locale : List ℕ
default_locale = codes "en"

-- the value that a key starts with in a world that says nothing of it
abbrev pub starting_value : List ℕ → Resource
starting_value k =
    cond (bytes_eq k properties_key) (Props empty)
    (cond (bytes_eq k locale_key) (Locale default_locale)
    (cond (starts_with nat_eq k file_prefix) (File None) Plain))

-- the starting values of a world that says nothing
abbrev pub empty_world : Resources
empty_world k = Some (starting_value k)

-- the resources at the keys that may be looked at, and nothing at any other
abbrev pub restricted : Rights → Resources → Resources
restricted r m k = cond (is_readable (r k)) (m k) None
