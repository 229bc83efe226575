use Rattle.std.proofs.Common.{List, ℕ, Some, option_copied, ap, refl}
use Rattle.iso_affected_text.proofs.RowLemmas.{pushed, unchanged}
use Rattle.iso_affected_text.specs.Rows.{part_row}
use Rattle.iso_affected_text.proofs.parts.add_variable.Goals as goal

pub returns-in_ok-push-in-Some : goal.returns-in_ok-push-in-Some
returns-in_ok-push-in-Some c =
    rw c.in-Some.is (pushed _ _ _ _ c.in_ok-push-in-Some.ensures.items (ap (λ (n : List ℕ). part_row c.args.part (Some n) (option_copied c.args.of)) c.name_at.ensures))

pub returns-in-None : goal.returns-in-None
returns-in-None c = rw c.in-None.is (unchanged _ _ refl)
