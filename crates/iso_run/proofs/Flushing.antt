-- What is answered once a whole output was flushed, and of faults that were told before.
use Rattle.std.proofs.Common.{◌≡◌, ℕ, List, Bool, true, false, Result, Ok, Err, ap, refl, subst, sym, ◌∙◌}
use Rattle.iso_run.specs.ExitStatuses.{Answers, IsFlushed}
use Rattle.iso_run.specs.declared.command_fault.CommandFault.{CommandFault}
use Rattle.iso_run.specs.declared.command_fault.CommandFault.TheVariants.{Told}
use Rattle.iso_tap.specs.Sinks.{Account, Wrote, failures_after}

pub flushed-after : (P : Account → Type 0) (old mid new : Account) (text : List ℕ) → Wrote old mid text → P mid → (result : Result Bool CommandFault) → IsFlushed true mid new result
    → Answers (λ ok. (ok ≡ true) × P new) ⊥ old new result
flushed-after P old mid new text wrote p (Ok told) h = (h.0, subst P (sym h.1) p)
flushed-after P old mid new text wrote p (Err fault) h =
    subst (λ (f : CommandFault). Answers (λ ok. (ok ≡ true) × P new) ⊥ old new (Err f)) (sym h.0) (h.1 ∙ ap (failures_after true) wrote.failures)

-- faults that were told leave the output as it was
pub told-early : (P : Bool → Type 0) (a : Account) (failed : Bool) → Answers P ⊥ a a (Err (Told failed))
told-early P a true = refl
told-early P a false = refl
