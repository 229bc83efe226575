use Rattle.std.proofs.Common.{List, ℕ, Option, option_copied, ap, ap₂, refl, ◌∙◌}
use Rattle.iso_affected_text.proofs.RowLemmas.{pushed, unchanged}
use Rattle.iso_affected_text.specs.PartRows.{property_of}
use Rattle.iso_affected_text.specs.Rows.{start_row}
use Rattle.iso_affected_text.proofs.parts.add_start.Goals as goal

pub returns-in_ok-push-in-Some : goal.returns-in_ok-push-in-Some
returns-in_ok-push-in-Some c =
    rw c.in-Some.is
    (pushed _ _ _ _ c.in_ok-push-in-Some.ensures.items
    (ap₂ (λ (k : List ℕ) (p : Option (List ℕ)). start_row k (option_copied c.args.of) p) c.key_at-key.ensures
    (c.property_of-property.ensures ∙ ap (λ (k : List ℕ). property_of k (option_copied c.args.property)) c.key_at-key.ensures)))

pub returns-in-None : goal.returns-in-None
returns-in-None c = rw c.in-None.is (unchanged _ _ refl)
