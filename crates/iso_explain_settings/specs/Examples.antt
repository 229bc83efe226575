-- The words of the examples.
use Prim.Native.String.{String}
use Rattle.std.specs.Prelude.{ℕ, List, [], ◌∷◌, ◌++◌, Bool, codes}
use Rattle.toml.specs.Data.{Data}
use Rattle.iso_settings.specs.Examples.{Entry, members}
use Rattle.iso_settings.specs.Leaves.{leaves}
use Rattle.iso_settings.specs.Settings.{jupiter}
use Rattle.iso_settings.specs.declared.settings.Settings.{Settings}
use Rattle.iso_explain_settings.specs.Listing.{listing_text}
use Rattle.iso_explain_settings.specs.Refusals.{refusal_text}
use Rattle.iso_explain_settings.specs.Told.{value_text}
use Rattle.iso_explain_settings.specs.Wanted.{settings_wanted, world_wanted}
use Rattle.iso_explain_settings.specs.Warned.{warned}
use Rattle.iso_explain_settings.specs.Warnings.{warnings_text}
use Rattle.iso_explain_settings.specs.declared.value.Kind.{Kind}

-- lines with their line ends
abbrev pub lines_of : List String → List ℕ
lines_of [] = []
lines_of (line ∷ lines) = codes line ++ codes "\n" ++ lines_of lines

-- what is told of a value of a setting, and of one of a world, which is written so
abbrev pub setting_told : Kind → (key : String) → Data → (text : String) → List ℕ
setting_told kind key value text =
    value_text kind (settings_wanted (jupiter key)) (jupiter key) value (codes text)

abbrev pub world_told : Kind → (key : String) → Data → (text : String) → List ℕ
world_told kind key value text =
    value_text kind (world_wanted (codes key)) (codes key) value (codes text)

-- what is told of a document that the parser refuses between two places
abbrev pub refused : String → (start end : ℕ) → (message : String) → List ℕ
refused document start end message =
    refusal_text (codes "s.toml") (codes document) start end (codes message)

-- what settings with these entries come to, and what they are warned of
abbrev pub listed : List Entry → Settings → (processors : ℕ) → List ℕ
listed entries settings processors = listing_text (leaves (members entries)) settings processors

abbrev pub warned_of : List Entry → (is_parallel : Bool) → List ℕ
warned_of entries is_parallel =
    warnings_text (warned ([], 0) (codes "s.toml") (leaves (members entries)) is_parallel)
