use Rattle.std.proofs.lemmas.Result.{on_ok_weaker}
use Rattle.iso_affected_text.proofs.RowLemmas.{in_five}
use Rattle.iso_affected_text.proofs.parts.add_blocks.Goals as goal

pub returns : goal.returns
returns c =
    on_ok_weaker c.add_block-5.result
    (in_five _ _ _ _ _ _ _ _ _ _ _ c.in_ok-add_block.ensures c.in_ok-add_block-2.ensures c.in_ok-add_block-3.ensures c.in_ok-add_block-4.ensures) c.add_block-5.ensures
