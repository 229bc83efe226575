use Rattle.std.proofs.Common.{rules, append_assoc}
use Rattle.iso_interp.proofs.run.assertions.difference_message.Goals as goal

pub returns : goal.returns
returns c = simp append_assoc (search rules)
