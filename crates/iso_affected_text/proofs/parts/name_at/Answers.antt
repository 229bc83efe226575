use Rattle.std.proofs.Common.{sym, ◌∙◌}
use Rattle.iso_affected_text.proofs.PlaceLemmas.{name-none, name-now, name-was}
use Rattle.iso_affected_text.proofs.parts.name_at.Goals as goal

pub returns-then-place-now : goal.returns-then-place-now
returns-then-place-now c = c.as_str.ensures ∙ sym (name-now c.args.was.now c.args.now.now c.args.place c.index-now-place.result c.if-place-now.true)

pub returns-then-place-was : goal.returns-then-place-was
returns-then-place-was c = c.as_str-then-place-was.ensures ∙ sym (name-was c.args.was.now c.args.now.now c.args.place c.index-was-place.result c.if-place-now.false c.if-place-was.true)

pub returns-else-place-was : goal.returns-else-place-was
returns-else-place-was c = sym (name-none c.args.was.now c.args.now.now c.args.place c.if-place-now.false c.if-place-was.false)
