use Rattle.std.proofs.Common.{◌≡◌, ℕ, ◌<◌, Option, Some, None, Bool, is_some, length, ap, sym, ◌∙◌, subst, arith}
use Rattle.std.proofs.lemmas.List.{get_or_default}
use Rattle.iso_standing.proofs.Looks.{has-body}
use Rattle.iso_standing.specs.Standings.{IsStanding, Standing, node_of, phase_at, workers_in}
use Rattle.iso_standing.specs.Phases.{bare}
use Rattle.iso_standing.specs.declared.phase.Phase.{Phase}
use Rattle.iso_isolation.specs.Events.{where_some}
use Rattle.iso_isolation.specs.States.{body_in}
use Rattle.iso_standing.proofs.standing.Standing.has_body.Goals as goal

-- whether a body is under way at a node, if there is one
abbrev body_there : Standing → Option ℕ → Bool
body_there v o = is_some (where_some o None (λ n. body_in (bare (phase_at v n))))

pub phase-requires : goal.phase-requires
phase-requires c =
    let is : IsStanding c.args.self.now = subst IsStanding c.self.view_is c.self.invariant.0 in
    let count : length c.self.inside.busy.items ≡ workers_in c.args.self.now = ap workers_in c.self.view_is in
    let inside : c.args.worker < length c.self.inside.busy.items = omega (arith, c.requires) in
    let here : node_of c.args.self.now c.args.worker ≡ Some c.in-Some.node =
    ap (λ (v : Standing). node_of v c.args.worker) (sym c.self.view_is) ∙ get_or_default c.self.inside.busy.items c.args.worker None c.index.result.now inside ∙ sym c.index.ensures ∙ c.in-Some.is in
    (is.bodies c.args.worker c.in-Some.node here).1

pub returns-in-None-clause-state : goal.returns-in-None-clause-state
returns-in-None-clause-state c = λ start s like.
    let is : IsStanding c.args.self.now = subst IsStanding c.self.view_is c.self.invariant.0 in
    let count : length c.self.inside.busy.items ≡ workers_in c.args.self.now = ap workers_in c.self.view_is in
    let inside : c.args.worker < length c.self.inside.busy.items = omega (arith, c.requires) in
    let here : node_of c.args.self.now c.args.worker ≡ None =
    ap (λ (v : Standing). node_of v c.args.worker) (sym c.self.view_is) ∙ get_or_default c.self.inside.busy.items c.args.worker None c.index.result.now inside ∙ sym c.index.ensures ∙ c.in-None.is in
    has-body c.args.self.now start s like is c.args.worker c.requires ∙ ap (body_there c.args.self.now) here

pub returns-in-Some-clause-state : goal.returns-in-Some-clause-state
returns-in-Some-clause-state c = λ start s like.
    let is : IsStanding c.args.self.now = subst IsStanding c.self.view_is c.self.invariant.0 in
    let count : length c.self.inside.busy.items ≡ workers_in c.args.self.now = ap workers_in c.self.view_is in
    let inside : c.args.worker < length c.self.inside.busy.items = omega (arith, c.requires) in
    let here : node_of c.args.self.now c.args.worker ≡ Some c.in-Some.node =
    ap (λ (v : Standing). node_of v c.args.worker) (sym c.self.view_is) ∙ get_or_default c.self.inside.busy.items c.args.worker None c.index.result.now inside ∙ sym c.index.ensures ∙ c.in-Some.is in
    has-body c.args.self.now start s like is c.args.worker c.requires
    ∙ ap (body_there c.args.self.now) here
    ∙ ap (λ (p : Phase). is_some (body_in (bare p))) (sym c.phase.ensures)
    ∙ sym c.has_body.ensures
