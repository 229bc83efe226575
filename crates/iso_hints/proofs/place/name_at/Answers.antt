use Rattle.iso_hints.proofs.NameLemmas.{name-is-text}
use Rattle.iso_hints.proofs.place.name_at.Goals as goal

pub unreachable-requires : goal.unreachable-requires
unreachable-requires c = c.in_default.ensures.cases.0 (name-is-text c.args.place.now.statement.now c.is_name.result c.is_name.ensures c.if-not-is_name.false)
