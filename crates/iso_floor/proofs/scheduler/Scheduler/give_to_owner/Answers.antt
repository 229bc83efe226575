use Rattle.std.proofs.Common.{sym, ◌∙◌}
use Rattle.iso_floor.proofs.RightLemmas.{line-after, line-headed}
use Rattle.iso_desk.specs.declared.line.Line.TheVariants.{Own}
use Rattle.iso_floor.proofs.PlaceLemmas.{keeps-headed}
use Rattle.iso_floor.proofs.PartyLemmas.{stand-after, stand-headed}
use Rattle.iso_floor.proofs.PostingLemmas.{closes-headed}
use Rattle.iso_floor.proofs.scheduler.Scheduler.give_to_owner.Goals as goal

pub returns-clause-lines : goal.returns-clause-lines
returns-clause-lines c =
    let given = c.line_up_first in
    let t = c.args.self.now.table in
    λ n l st. line-after given.result c.args.self.now given.new.self _ given.ensures.stands given.ensures.same n l (line-headed t c.args.node c.in-Some.owner n l) st

pub returns-clause-places : goal.returns-clause-places
returns-clause-places c =
    let given = c.line_up_first in
    keeps-headed given.result c.args.self.now given.new.self c.args.node (Own c.in-Some.owner) given.ensures.stands given.ensures.same

pub returns-clause-stands : goal.returns-clause-stands
returns-clause-stands c =
    let given = c.line_up_first in
    let old = c.args.self.now in
    let n = c.args.node in
    let o = c.in-Some.owner in
    λ p own right.
    stand-after given.result p old given.new.self _ given.ensures.rest given.ensures.stands given.ensures.same
    (stand-headed p old.owners old.table n (Own o) (own o (sym c.owner.ensures ∙ c.in-Some.is))) right

pub returns-clause-closes : goal.returns-clause-closes
returns-clause-closes c =
    let given = c.line_up_first in
    closes-headed given.result c.args.self.now given.new.self c.args.node (Own c.in-Some.owner) given.ensures.stands given.ensures.same
