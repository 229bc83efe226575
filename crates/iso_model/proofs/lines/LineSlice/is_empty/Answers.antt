use Rattle.std.proofs.Common.{◌∙◌}
use Rattle.iso_model.proofs.LineLemmas.{no_line}
use Rattle.iso_model.proofs.lines.LineSlice.is_empty.Goals as goal

pub returns : goal.returns
returns c = c.is_empty.ensures ∙ no_line c.args.self.bytes.now
