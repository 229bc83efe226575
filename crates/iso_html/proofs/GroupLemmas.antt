-- Groups with a bar more.
use Rattle.std.proofs.Common.{◌≡◌, ◌<◌, ◌≤◌, ℕ, zero, suc, List, [], ◌∷◌, length, get_or, set, refl, ap, arith}
use Rattle.iso_html.specs.Groups.{added, with_bar}
use Rattle.iso_html.specs.declared.shape.Bar.{Bar}
use Rattle.iso_html.specs.declared.shape.Group.{Group}

-- a bar more at a place, and past the last
pub added-at : (gs : List Group) (place : ℕ) (b : Bar) (d : Group) → place < length gs → set gs place (with_bar b (get_or gs place d)) ≡ added place b gs
added-at [] place b d h = absurd (omega arith)
added-at (g ∷ gs) zero b d h = refl
added-at (g ∷ gs) (suc place) b d h = ap (λ (l : List Group). g ∷ l) (added-at gs place b d (omega arith))

pub added-past : (gs : List Group) (place : ℕ) (b : Bar) → length gs ≤ place → gs ≡ added place b gs
added-past [] place b h = refl
added-past (g ∷ gs) zero b h = absurd (omega arith)
added-past (g ∷ gs) (suc place) b h = ap (λ (l : List Group). g ∷ l) (added-past gs place b (omega arith))
