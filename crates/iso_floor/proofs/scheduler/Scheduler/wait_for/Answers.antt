use Rattle.std.proofs.Common.{ap, subst, sym, ◌∙◌}
use Rattle.iso_model.specs.declared.access.Access.{Access}
use Rattle.iso_plan.specs.HeldNodes.{takes_in}
use Rattle.iso_plan.specs.KeyGroups.{lead_locks}
use Rattle.iso_floor.proofs.RightLemmas.{access-by, line-after, line-lined, right-after, right-lined}
use Rattle.iso_floor.proofs.PlaceLemmas.{keeps-lined}
use Rattle.iso_floor.specs.Parties.{BelongsTo}
use Rattle.iso_floor.proofs.PartyLemmas.{stand-after, stand-lined, tried-own}
use Rattle.iso_floor.proofs.PostingLemmas.{closes-lined}
use Rattle.iso_floor.proofs.scheduler.Scheduler.wait_for.Goals as goal
use Rattle.iso_floor.proofs.scheduler.Scheduler.wait_for.Goals.{then-is_concurrent, else-is_concurrent}

pub returns-clause-lines : goal.returns-clause-lines
returns-clause-lines c =
    let lined = c.line_up in
    let n = c.args.node in
    let k = c.args.lock in
    λ tree takes right.
    right-after lined.result tree c.args.self.now lined.new.self _ lined.ensures.stands lined.ensures.same
    (right-lined tree c.args.self.now.table n _ (record {
      known = c.if-lock-ge-KEYS.false;
      taken = ap (λ (a : Access). takes_in a k.key (lead_locks tree n)) (access-by k.access c.eq.result c.eq.ensures) ∙ takes;
    }))
    right

pub returns-clause-joins : goal.returns-clause-joins
returns-clause-joins c =
    let lined = c.line_up in
    λ n l other st.
    line-after lined.result c.args.self.now lined.new.self _ lined.ensures.stands lined.ensures.same n l (line-lined c.args.self.now.table c.args.node _ n l other) st

pub returns-clause-places : goal.returns-clause-places
returns-clause-places c =
    let lined = c.line_up in
    keeps-lined lined.result c.args.self.now lined.new.self c.args.node _ lined.ensures.stands lined.ensures.same

pub returns-clause-stands : goal.returns-clause-stands
returns-clause-stands c =
    let lined = c.line_up in
    let p = c.args.plan.now in
    let old = c.args.self.now in
    let n = c.args.node in
    let w = c.args.worker in
    λ may right.
    let belongs : BelongsTo p old.owners n c.if-is_concurrent.party =
    elim c.if-is_concurrent.branch [
      | then-is_concurrent b ↦ subst (BelongsTo p old.owners n) (sym b.party-is) (c.is_concurrent.ensures.yes b.if-is_concurrent.true)
      | else-is_concurrent b ↦ subst (BelongsTo p old.owners n) (sym b.party-is) (tried-own p old.owners n w (λ low. c.is_concurrent.ensures.no low b.if-is_concurrent.false) may)
    ] in
    stand-after lined.result p old lined.new.self _ lined.ensures.rest lined.ensures.stands lined.ensures.same (stand-lined p old.owners old.table n _ belongs) right

pub returns-clause-closes : goal.returns-clause-closes
returns-clause-closes c =
    let lined = c.line_up in
    closes-lined lined.result c.args.self.now lined.new.self c.args.node _ lined.ensures.stands lined.ensures.same
