-- The last event that begins a body of a worker's.
use Rattle.std.proofs.Common.{◌≡◌, ◌<◌, ℕ, zero, suc, List, [], ◌∷◌, length, drop, eq-eqb, get_or, Some, None, refl, ap, ◌∙◌, arith}
use Rattle.iso_standing.specs.declared.event.Event.{Event}
use Rattle.iso_standing.specs.declared.event.Event.TheVariants.{Enter, Shut}
use Rattle.iso_floor.specs.Audits.{begun_by, last_begun}

begun_at : (w n i : ℕ) (h : List Event) (d : Event) → i < length h → begun_by w (get_or h i d) ≡ Some n → last_begun w (drop (suc i) h) ≡ None → last_begun w h ≡ Some n
begun_at w n i [] d lt e after = absurd (omega arith)
begun_at w n zero (x ∷ xs) d lt e after = rw after e
begun_at w n (suc i) (x ∷ xs) d lt e after = let b : last_begun w xs ≡ Some n = begun_at w n i xs d (omega arith) e after in rw b refl

enters : (w v n : ℕ) → v ≡ w → begun_by w (Enter v n) ≡ Some n
enters w v n e = rw (eq-eqb v w e) refl

shuts : (w v n : ℕ) → v ≡ w → begun_by w (Shut v n) ≡ Some n
shuts w v n e = rw (eq-eqb v w e) refl

pub begun_enter : (w v n i : ℕ) (h : List Event) (d : Event) → i < length h → get_or h i d ≡ Enter v n → v ≡ w → last_begun w (drop (suc i) h) ≡ None → last_begun w h ≡ Some n
begun_enter w v n i h d lt is e after = begun_at w n i h d lt (ap (begun_by w) is ∙ enters w v n e) after

pub begun_shut : (w v n i : ℕ) (h : List Event) (d : Event) → i < length h → get_or h i d ≡ Shut v n → v ≡ w → last_begun w (drop (suc i) h) ≡ None → last_begun w h ≡ Some n
begun_shut w v n i h d lt is e after = begun_at w n i h d lt (ap (begun_by w) is ∙ shuts w v n e) after
