use Rattle.std.proofs.Common.{ℕ, List, Option, cond, bytes_eq, length, drop, nat_eq, ap}
use Rattle.std.specs.Cmp.Lexicographic.{slice_cmp}
use Rattle.std.specs.FinMap.{empty, get-empty}
use Rattle.std.specs.List.{starts_with}
use Rattle.std.specs.Ordering.{nat_cmp}
use Rattle.iso_model.specs.ResourceKeys.{properties_key, locale_key, file_prefix}
use Rattle.iso_model.specs.Resources.{default_locale}
use Rattle.iso_model.specs.declared.resource.Resource.TheVariants.{Props, Locale, File, Plain}
use Rattle.iso_settings.proofs.examples.empty_world_starts_as_the_language_says.Goals as goal

pub returns-clause-starts : goal.returns-clause-starts
returns-clause-starts c = λ key.
    ap (λ (o : Option (List ℕ)). cond (bytes_eq key properties_key) (Props empty) (cond (bytes_eq key locale_key) (Locale default_locale) (cond (starts_with nat_eq key file_prefix) (File o) Plain)))
    (get-empty (slice_cmp nat_cmp) (drop (length file_prefix) key))
