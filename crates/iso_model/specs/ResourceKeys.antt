-- The keys of resources and locks, as they are spelled.
--
-- keys: The properties, the locale and each virtual file have a key; any other key is a lock
-- without a value.
-- Standard: JUnit 5 User Guide, parallel execution (`Resources`).
use Rattle.std.specs.Prelude.{ℕ, List, ◌++◌, codes}
use Rattle.iso_model.specs.declared.resource_key.ResourceKey.{ResourceKey}
use Rattle.iso_model.specs.declared.resource_key.ResourceKey.TheVariants.{Properties, Locale, File}

-- the key of the system properties (JUnit 5, `Resources.SYSTEM_PROPERTIES`)
abbrev pub properties_key : List ℕ
properties_key = codes "java.lang.System.properties"

-- the key of the default locale (JUnit 5, `Resources.LOCALE`)
abbrev pub locale_key : List ℕ
locale_key = codes "java.util.Locale.default"

-- what the key of a virtual file begins with
abbrev pub file_prefix : List ℕ
file_prefix = codes "file:"

-- the key of the virtual file at a path
abbrev pub file_key : List ℕ → List ℕ
file_key path = file_prefix ++ path

-- the key that isolated classes take for themselves; no script may declare it
abbrev pub global_key : List ℕ
global_key = codes "iso:global"

-- the key by which a block names a resource, as it is spelled
abbrev pub spelling : ResourceKey → List ℕ
spelling Properties = properties_key
spelling Locale = locale_key
spelling (File path) = file_key path.now
