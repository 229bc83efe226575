use Rattle.std.proofs.Common.{◌∙◌}
use Rattle.iso_hints.proofs.HintLemmas.{any-text}
use Rattle.iso_hints.proofs.pattern.is_any_next.Goals as goal

pub returns : goal.returns
returns c = c.any_is_next.ensures ∙ any-text c.args.tokens.now c.args.bytes.now
