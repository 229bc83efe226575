-- Starting values of two worlds, compared key by key.
--
-- starting values of two worlds: The starting values before a change and after it (`StartsView`);
-- what is kept of keys of which they were compared (`AreKept`).
use Rattle.std.specs.Prelude.{◌≡◌, ◌↔◌, ℕ, List, Bool, Some, true, refl}
use Rattle.std.specs.Coded.{Coded, code_by, coded×}
use Rattle.iso_model.specs.KeyMaps.{value_in}
use Rattle.iso_settings.specs.Worlds.{Start, start_code, starting_value_in}

-- the starting values before a change and after it
pub record StartsView : Type 0 where
  pub before : Start
  pub after : Start

-- they are stored as a pair
abbrev pub starts_code : Coded StartsView
starts_code = code_by (Start × Start) (coded× start_code start_code) (λ v. (v.before, v.after))
    (λ p. record { before = p.0; after = p.1 }) (λ _. refl)

-- of each key that is kept it is kept whether its values are equal
abbrev pub AreKept : Start → Start → List (List ℕ × Bool) → Type 0
AreKept before after kept = (k : List ℕ) (alike : Bool) → value_in kept k ≡ Some alike
    → (alike ≡ true) ↔ (starting_value_in before k ≡ starting_value_in after k)
