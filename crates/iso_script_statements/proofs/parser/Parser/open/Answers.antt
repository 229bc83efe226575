use Rattle.iso_script_statements.proofs.Expressions.{none_next}
use Rattle.iso_script_statements.proofs.parser.Parser.open.Goals as goal

pub unexpected-requires : goal.unexpected-requires
unexpected-requires c = c.requires (none_next _ c.if-not-is_at.ensures)
