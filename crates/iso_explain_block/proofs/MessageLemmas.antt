-- Beginnings of messages.
use Rattle.std.proofs.Common.{◌≡◌, ◌≢◌, ℕ, List, [], ◌∷◌, ◌++◌, Bool, true, false, ◌==◌, cond, Option, None, Some, refl, ap₂, eq-eqb}
use Rattle.std.proofs.lemmas.Bool.{eqb-true}
use Rattle.iso_explain_block.specs.Messages.{after}

-- behind a beginning stands the rest
pub after-beginning : (p r : List ℕ) → after p (p ++ r) ≡ Some r
after-beginning [] r = refl
after-beginning (b ∷ p) r = rw (eq-eqb b b refl) (after-beginning p r)

none_either_way : (same : Bool) (found : Option (List ℕ)) → (same ≡ true → found ≡ None) → cond same found None ≡ None
none_either_way true found h = h refl
none_either_way false found h = refl

-- a text that begins otherwise has no rest
pub after-other : (p m : List ℕ) → ((r : List ℕ) → m ≢ p ++ r) → after p m ≡ None
after-other [] m other = absurd (other m refl)
after-other (b ∷ p) [] other = refl
after-other (b ∷ p) (c ∷ m) other =
    none_either_way (c == b) (after p m)
    (λ e. after-other p m (λ r h. other r (ap₂ (λ (x : ℕ) (xs : List ℕ). x ∷ xs) (eqb-true c b e) h)))
