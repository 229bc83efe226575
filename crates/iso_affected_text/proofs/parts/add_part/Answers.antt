use Rattle.std.proofs.Common.{refl}
use Rattle.iso_affected_text.proofs.RowLemmas.{pushed, unchanged}
use Rattle.iso_affected_text.proofs.parts.add_part.Goals as goal

pub returns-then-not-is_apart : goal.returns-then-not-is_apart
returns-then-not-is_apart c = rw c.if-not-is_apart.true (unchanged _ _ refl)

pub returns : goal.returns
returns c = rw c.if-not-is_apart.false (pushed _ _ _ _ c.in_ok-push.ensures.items refl)
