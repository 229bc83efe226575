use Rattle.std.proofs.Common.{◌≡◌, drop}
use Rattle.iso_explain_block.specs.Marks.{is_quotable}
use Rattle.iso_explain_block.proofs.mark.is_quotable.Given as goal

abbrev pub invariant-loop-byte : goal.invariant-loop-byte
invariant-loop-byte l = is_quotable l.key ≡ is_quotable (drop l.byte-index l.key)
