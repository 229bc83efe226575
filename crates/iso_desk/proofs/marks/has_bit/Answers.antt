use Rattle.iso_desk.proofs.BitLemmas.{bit_read}
use Rattle.iso_desk.proofs.marks.has_bit.Goals as goal

pub returns : goal.returns
returns c = bit_read c.args.word c.args.at
