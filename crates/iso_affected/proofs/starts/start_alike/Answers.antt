use Rattle.iso_affected.proofs.MarkLemmas.{none-apart}
use Rattle.iso_affected.proofs.starts.start_alike.Goals as goal

pub returns-clause-alike : goal.returns-clause-alike
returns-clause-alike c = none-apart c.args.starts.now.before c.args.starts.now.after c.args.marks.now c.in_ok-first_apart.field-0 c.is_none.result c.is_none.ensures c.in_ok-first_apart.ensures.first
