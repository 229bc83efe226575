use Rattle.std.proofs.Common.{◌∙◌, ap}
use Rattle.iso_interp.specs.Blocks.{is_empty}
use Rattle.iso_interp.proofs.Blocks.{none-of}
use Rattle.iso_interp.proofs.block.Block.is_empty.Goals as goal

pub returns : goal.returns
returns c = c.is_empty.ensures ∙ none-of c.self.inside.statements.now ∙ ap is_empty c.self.view_is
