-- What a book answers, some book of its ground answers.
use Rattle.std.proofs.Common.{ℕ, Result, Ok, Err, IfErr, OnOk, MatchResult}
use Rattle.iso_book.specs.Books.{BookView, refusal_in}
use Rattle.iso_book.specs.Turns.{IsAllowed, IsFaultOf, IsNotTaken, IsTaken}
use Rattle.iso_locks.specs.Trays.{TrayView}
use Rattle.iso_plan.specs.Planned.{Planned}
use Rattle.iso_settings.specs.Worlds.{Start}
use Rattle.iso_standing.specs.declared.refused.CoreFault.{CoreFault}
use Rattle.iso_standing.specs.declared.event.Event.{Event}
use Rattle.iso_floor.specs.Answering.{HasRun, OfSomeBook}
use Rattle.iso_floor.specs.Grounds.{IsBookOf}

module _ (plan : Planned) (start : Start) (workers : ℕ) (b : BookView) (ground : IsBookOf plan start workers b) (run : HasRun b) where
  -- the book answered to an event, for which it asks something of a tray
  abbrev Answers : {A : Type 0} → Event → (BookView → Type 0) → BookView → TrayView → TrayView → Result A CoreFault → Type 0
  Answers e asked c t u r = MatchResult r (λ _. IsTaken e (asked b) b c) (λ fault. IsNotTaken fault e (asked b) b c t u)

  pub taken : {A : Type 0} (e : Event) (asked : BookView → Type 0) (c : BookView) (t u : TrayView) (r : Result A CoreFault) → Answers e asked c t u r
      → OnOk r (OfSomeBook plan start workers (λ x. IsAllowed (refusal_in x e) (asked x)))
  taken e asked c t u (Ok x) m = record { book = b; ground = ground; run = run; answer = m.is_allowed }
  taken e asked c t u (Err y) m = tt

  pub refused : {A : Type 0} (e : Event) (asked : BookView → Type 0) (c : BookView) (t u : TrayView) (r : Result A CoreFault) → Answers e asked c t u r
      → IfErr r (λ fault. OfSomeBook plan start workers (λ x. IsFaultOf (refusal_in x e) (asked x) fault))
  refused e asked c t u (Ok x) m = tt
  refused e asked c t u (Err y) m = record { book = b; ground = ground; run = run; answer = m.why }
