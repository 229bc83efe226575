use Rattle.std.proofs.Common.{Bool, ◌==◌, ◌∙◌, ap, cond, sym}
use Rattle.iso_desk.specs.Marking.{bit}
use Rattle.iso_desk.proofs.BitLemmas.{bit_clear, bit_set}
use Rattle.iso_locks.proofs.key_set.with_bit.Goals as goal

pub returns-then-is_set : goal.returns-then-is_set
returns-then-is_set c = λ t h. bit_set c.args.word c.args.at t c.requires ∙ ap (λ (b : Bool). cond (t == c.args.at) b (bit c.args.word t)) (sym c.if-is_set.true)

pub returns-else-is_set : goal.returns-else-is_set
returns-else-is_set c = λ t h. bit_clear c.args.word c.args.at t c.requires h ∙ ap (λ (b : Bool). cond (t == c.args.at) b (bit c.args.word t)) (sym c.if-is_set.false)
