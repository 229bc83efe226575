-- What is kept of the keys whose starting values were compared, with one key more.
use Rattle.std.proofs.Common.{◌≡◌, ◌↔◌, ℕ, List, Bool, true, false, Option, Some, cond, bytes_eq, sym, subst, ◌∙◌, refl}
use Rattle.iso_affected.specs.Starting.{AreKept}
use Rattle.iso_model.specs.KeyMaps.{value_in}
use Rattle.iso_settings.specs.Worlds.{Start, starting_value_in}

some-same : (a b : Bool) → Some a ≡ Some b → a ≡ b
some-same a b e = cc

module _ (before after : Start) (old new : List (List ℕ × Bool)) (key : List ℕ) (a : Bool) (kept : AreKept before after old)
    (is : (a ≡ true) ↔ (starting_value_in before key ≡ starting_value_in after key)) where
  one : (t : Bool) (k : List ℕ) (b : Bool) → (t ≡ true → k ≡ key) → value_in new k ≡ cond t (Some a) (value_in old k) → value_in new k ≡ Some b
      → (b ≡ true) ↔ (starting_value_in before k ≡ starting_value_in after k)
  one true k b same set e =
      subst (λ (c : Bool). (c ≡ true) ↔ (starting_value_in before k ≡ starting_value_in after k)) (some-same a b (sym set ∙ e))
      (subst (λ (q : List ℕ). (a ≡ true) ↔ (starting_value_in before q ≡ starting_value_in after q)) (sym (same refl)) is)
  one false k b same set e = kept k b (sym set ∙ e)

  pub kept-more : ((k : List ℕ) → value_in new k ≡ cond (bytes_eq k key) (Some a) (value_in old k)) → ((k : List ℕ) → bytes_eq k key ≡ true → k ≡ key) → AreKept before after new
  kept-more set same k b e = one (bytes_eq k key) k b (same k) (set k) e
