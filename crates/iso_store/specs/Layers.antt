-- Values with what was changed of them, in layers: each layer has what was changed between two
-- marks, the newest stands first.
use Rattle.std.specs.Prelude.{ℕ, List, [], ◌∷◌, Option, Some, None, unwrap_or}
use Rattle.std.specs.FinMap.{get}
use Rattle.std.specs.Option.{option_or}
use Rattle.iso_model.specs.Properties.{Map}
use Rattle.iso_model.specs.declared.resource.Resource.{Resource}
use Rattle.iso_model.specs.declared.resource.Resource.TheVariants.{Props, Locale, File, Plain}
use Rattle.iso_store.specs.Places.{Places, overlaid}

-- what is in a name's place: the newest layer that has one counts
abbrev pub place_in : List Places → List ℕ → Option (Option (List ℕ))
place_in [] name = None
place_in (p ∷ ps) name = option_or (get p name) (place_in ps name)

-- the name under which a locale and a file are kept, which have none
abbrev pub nameless : List ℕ
nameless = []

-- a locale, or the one that is in its place
abbrev pub locale_over : Option (Option (List ℕ)) → List ℕ → List ℕ
locale_over (Some (Some other)) locale = other
locale_over _ locale = locale

-- properties with what layers have of them
abbrev pub properties_over : List Places → Map → Map
properties_over [] properties = properties
properties_over (p ∷ ps) properties = overlaid (properties_over ps properties) p

-- a resource with what layers have of it
abbrev pub over : List Places → Resource → Resource
over layers (Props properties) = Props (properties_over layers properties)
over layers (Locale locale) = Locale (locale_over (place_in layers nameless) locale)
over layers (File text) = File (unwrap_or (place_in layers nameless) text)
over layers Plain = Plain
