use Rattle.std.proofs.Common.{Some, None}
use Rattle.iso_floor.proofs.AuditLemmas.{lowest_is}
use Rattle.iso_floor.proofs.audit.lowest_lost.Goals as goal

pub returns-in-Some : goal.returns-in-Some
returns-in-Some c = λ lists a.
    rw c.lower.ensures (lowest_is c.args.history.now lists c.args.marks.now c.args.lost (Some c.in-Some.number) a c.in-Some.ensures)

pub returns-in-None : goal.returns-in-None
returns-in-None c = λ lists a. lowest_is c.args.history.now lists c.args.marks.now c.args.lost None a c.in-None.ensures
