-- What a starting value says, where it is one of its kind.
--
-- what a starting value says: The text of a file that is there, the locale, the properties, where
-- the value is of that kind (`file_in`, `locale_in`, `properties_in`).
use Rattle.std.specs.Prelude.{ℕ, List, [], Some}
use Rattle.std.specs.FinMap.{empty}
use Rattle.iso_model.specs.Properties.{Map}
use Rattle.iso_model.specs.declared.resource.Resource.{Resource}
use Rattle.iso_model.specs.declared.resource.Resource.TheVariants.{Props, Locale, File}

-- the text of a file
abbrev pub file_in : Resource → List ℕ
file_in (File (Some text)) = text
file_in _ = []

-- the locale
abbrev pub locale_in : Resource → List ℕ
locale_in (Locale text) = text
locale_in _ = []

-- the properties
abbrev pub properties_in : Resource → Map
properties_in (Props properties) = properties
properties_in _ = empty
