use Rattle.std.proofs.Common.{refl, sym, ◌∙◌}
use Rattle.iso_affected_text.proofs.PlaceLemmas.{line-at, table-at}
use Rattle.iso_affected_text.proofs.spots.source_at.Goals as goal

pub line-requires : goal.line-requires
line-requires c = table-at c.args.side.now.texts.now c.args.line.script _ c.if-script-side.false c.args.side.now.tables.now _ c.requires.tables

pub returns : goal.returns
returns c = c.line.ensures ∙ sym (line-at c.args.side.now.texts.now c.args.line.script _ c.if-script-side.false c.args.line refl)
