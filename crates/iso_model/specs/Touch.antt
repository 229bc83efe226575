-- What a resource answers, of which kind it is, and what a touch has to hold for a block.
--
-- touch: What holds resources as a block touches them: what a value answers to an ask, which kind
-- of value an ask and a change are for, and what a touch has to hold for a block's rights
-- (`answered`, `HasKind`, `HasKeys`). What stays of a touch while its values change is one relation
-- of the trait (`goes_on`), which each step of a block and of a body keeps, also where memory ran
-- out.
-- Also in: `Resources`.
use Rattle.std.specs.Prelude.{◌≡◌, ℕ, List, Option, Some, Bool, true, option_map}
use Rattle.iso_model.specs.Resources.{Resources, property_in, text_in, locale_in, starting_value}
use Rattle.iso_model.specs.Rights.{Rights, is_readable, is_writable}
use Rattle.iso_model.specs.declared.resource.Resource.{Resource}
use Rattle.iso_model.specs.declared.resource.Resource.TheVariants as R
use Rattle.iso_model.specs.declared.resource.Ask.{Ask}
use Rattle.iso_model.specs.declared.resource.Ask.TheVariants as A
use Rattle.iso_model.specs.declared.resource.Change.{Change}
use Rattle.iso_model.specs.declared.resource.Change.TheVariants as C

-- the kinds of resource: a map of texts, a text, a text or nothing, and a lock without a value
pub data Kind : Type 0 where
  properties : Kind
  locale : Kind
  file : Kind
  plain : Kind

abbrev pub kind_of_value : Resource → Kind
kind_of_value (R.Props ps) = properties
kind_of_value (R.Locale t) = locale
kind_of_value (R.File t) = file
kind_of_value R.Plain = plain

-- the kind of resource that can be asked so, and that can be changed so
abbrev pub kind_of_ask : Ask → Kind
kind_of_ask (A.Prop name) = properties
kind_of_ask A.Locale = locale
kind_of_ask A.File = file

abbrev pub kind_of_change : Change → Kind
kind_of_change (C.SetProp name text) = properties
kind_of_change (C.ClearProp name) = properties
kind_of_change (C.SetLocale text) = locale
kind_of_change (C.WriteFile text) = file
kind_of_change C.DeleteFile = file

-- the kind of resource that stands at a key
abbrev pub kind_of_key : List ℕ → Kind
kind_of_key k = kind_of_value (starting_value k)

-- a value is there, and of this kind
abbrev pub HasKind : Option Resource → Kind → Type 0
HasKind value kind = option_map kind_of_value value ≡ Some kind

-- what is answered to an ask, where a value is there: the text of a property, the locale, or the
-- text of a file; nothing where the property is absent or the file missing
abbrev pub answered : Option Resource → Ask → Option (List ℕ)
answered value (A.Prop name) = property_in value name.now
answered value A.Locale = locale_in value
answered value A.File = text_in value

-- what a value answers
abbrev pub answer : Resource → Ask → Option (List ℕ)
answer value ask = answered (Some value) ask

-- The resources have a value of the key's kind at each key that the rights let be looked at, and
-- each key that the rights let be changed may be changed.
pub record HasKeys (r : Rights) (m : Resources) (writes : List ℕ → Bool) : Type 0 where
  pub looks : (k : List ℕ) → is_readable (r k) ≡ true → HasKind (m k) (kind_of_key k)
  pub changes : (k : List ℕ) → is_writable (r k) ≡ true → writes k ≡ true
