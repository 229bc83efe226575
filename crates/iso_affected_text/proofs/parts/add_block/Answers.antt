use Rattle.std.proofs.Common.{Option, option_copied, ap₂, refl}
use Rattle.iso_affected_text.proofs.RowLemmas.{pushed, unchanged}
use Rattle.iso_affected_text.specs.Rows.{SpotView, block_row}
use Rattle.iso_affected_text.proofs.parts.add_block.Goals as goal

pub returns-in_ok-push-in-Some : goal.returns-in_ok-push-in-Some
returns-in_ok-push-in-Some c =
    rw c.in-Some.is
    (pushed _ _ _ _ c.in_ok-push-in-Some.ensures.items (ap₂ (λ (n b : Option SpotView). block_row c.args.block (option_copied c.args.of) n b) c.spot-now.ensures c.spot-before.ensures))

pub returns-in-None : goal.returns-in-None
returns-in-None c = rw c.in-None.is (unchanged _ _ refl)
