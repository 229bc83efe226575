use Rattle.std.proofs.Common.{get_or, ◌/◌, ◌%◌}
use Rattle.iso_desk.proofs.BitLemmas.{bit_read}
use Rattle.iso_locks.proofs.key_set.KeySet.has.Goals as goal

pub returns : goal.returns
returns c = bit_read (get_or c.args.self.now.words (c.args.number / 64) 0) (c.args.number % 64)
