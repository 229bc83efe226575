-- The properties with which worlds start.
use Rattle.std.proofs.Common.{◌≡◌, ℕ, List, Option, ap, subst}
use Rattle.iso_affected.specs.PropertyStarts.{IsFirstName, asked, property_of}
use Rattle.iso_model.specs.ResourceKeys.{properties_key}
use Rattle.iso_model.specs.declared.resource.Resource.{Resource}
use Rattle.iso_model.specs.declared.resource.Resource.TheVariants.{Props}
use Rattle.iso_settings.specs.Worlds.{Start, starting_value_in}

pub properties-start : (s : Start) (key : List ℕ) → key ≡ properties_key → starting_value_in s key ≡ Props s.properties
properties-start s key e = ap (starting_value_in s) e

-- what is asked of the values with which they start
pub first-of : (before after : Start) (was now : Resource) (names : List (List ℕ)) (o : Option ℕ) → was ≡ Props before.properties → now ≡ Props after.properties
    → IsFirstName (asked was) (asked now) names o → IsFirstName (property_of before) (property_of after) names o
first-of before after was now names o e f first =
    subst (λ (x : Resource). IsFirstName (asked x) (property_of after) names o) e (subst (λ (y : Resource). IsFirstName (asked was) (asked y) names o) f first)
