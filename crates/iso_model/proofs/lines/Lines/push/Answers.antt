use Rattle.iso_model.proofs.LineLemmas.{HasNoEnd-text, pushed-lines, pushed-ended}
use Rattle.iso_model.proofs.lines.Lines.push.Goals as goal

pub invariant_of-self-2 : goal.invariant_of-self-2
invariant_of-self-2 c = rw c.in_ok-push.ensures.items (pushed-ended c.extend_from_slice.new.self.items)

pub returns-clause-ok : goal.returns-clause-ok
returns-clause-ok c =
    rw (c.in_ok-push.ensures.items, c.in_ok-extend_from_slice.ensures.items, c.as_bytes.ensures.value, c.in_ok-make_room.ensures.items, ← c.self.view_is)
    (pushed-lines c.self.inside.bytes.items c.args.line.now c.self.invariant (HasNoEnd-text c.args.line.now c.utf8.line))
