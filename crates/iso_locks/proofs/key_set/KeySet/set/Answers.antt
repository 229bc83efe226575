use Rattle.std.proofs.Common.{◌/◌, ◌<◌, arith, length}
use Rattle.iso_desk.proofs.BitLemmas.{set_has}
use Rattle.iso_locks.proofs.key_set.KeySet.set.Goals as goal

pub returns : goal.returns
returns c =
    let ws = c.args.self.now.words in
    let n = c.args.number in
    let below : n / 64 < length ws = omega arith in
    λ k. set_has ws n k c.with_bit.result c.args.is_in below (λ t h. c.with_bit.ensures t h)
