use Rattle.std.proofs.Common.{None, sym, ◌∙◌, subst}
use Rattle.std.proofs.lemmas.List.{get_or_default}
use Rattle.iso_standing.proofs.Leaving.{left-barred, left-last, left-open}
use Rattle.iso_standing.specs.Standings.{EndsWellAs, LooksLike, Standing, after_in}
use Rattle.iso_isolation.specs.Events.{Leave}
use Rattle.iso_standing.proofs.standing.Standing.leave.Goals as goal

pub returns-then-has_last_body-clause-state : goal.returns-then-has_last_body-clause-state
returns-then-has_last_body-clause-state c = λ start s like ends.
    subst (λ (x : Standing). LooksLike x (after_in c.args.self.now start s (Leave c.args.worker))) (sym c.finish.ensures)
    (left-last _ c.args.self.now c.self.view_is c.self.invariant.0 c.args.worker c.in-Some.node c.requires
    (λ less. get_or_default c.self.inside.busy.items c.args.worker None c.index.result.now less ∙ sym c.index.ensures ∙ c.in-Some.is)
    start s like (sym c.has_last_body.ensures ∙ c.if-has_last_body.true))

pub returns-then-well-clause-state : goal.returns-then-well-clause-state
returns-then-well-clause-state c = λ start s like ends.
    subst (λ (x : Standing). LooksLike x (after_in c.args.self.now start s (Leave c.args.worker))) (sym c.set_phase.ensures)
    (left-open _ c.args.self.now c.self.view_is c.self.invariant.0 c.args.worker c.in-Some.node c.requires
    (λ less. get_or_default c.self.inside.busy.items c.args.worker None c.index.result.now less ∙ sym c.index.ensures ∙ c.in-Some.is)
    start s like (sym c.has_last_body.ensures ∙ c.if-has_last_body.false) (subst (EndsWellAs c.args.self.now s c.args.worker) c.if-well.true ends))

pub returns-else-well-clause-state : goal.returns-else-well-clause-state
returns-else-well-clause-state c = λ start s like ends.
    left-barred _ c.args.self.now c.self.view_is c.self.invariant.0 c.args.worker c.in-Some.node c.requires
    (λ less. get_or_default c.self.inside.busy.items c.args.worker None c.index.result.now less ∙ sym c.index.ensures ∙ c.in-Some.is)
    start s like (sym c.has_last_body.ensures ∙ c.if-has_last_body.false) (subst (EndsWellAs c.args.self.now s c.args.worker) c.if-well.false ends)
    c.bar.new.self c.bar.ensures.rest c.bar.ensures.phases
