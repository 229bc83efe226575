use Rattle.std.proofs.Common.{◌≡◌, ◌<◌, length, is_some, true, false, ap, sym, ◌∙◌, arith}
use Rattle.iso_plan.specs.Planned.{Planned}
use Rattle.iso_standing.proofs.Looks.{place-is}
use Rattle.iso_standing.specs.Standings.{body_under_way, nodes_in, workers_in}
use Rattle.iso_standing.proofs.standing.Standing.refusal_of_place.Goals as goal

pub returns-then-has_body-clause-kinds : goal.returns-then-has_body-clause-kinds
returns-then-has_body-clause-kinds c = λ start s like.
    let v = c.args.self.now in
    let going : v.stopped ≡ false = sym c.is_stopped.ensures ∙ c.if-is_stopped.false in
    let worker : c.args.worker < workers_in v = omega (arith, c.if-worker-workers.false, c.workers.ensures) in
    let rows = ap (λ (p : Planned). length p.rows) c.plan.ensures in
    let node : c.args.node < nodes_in v = omega (arith, c.if-node-len.false, c.len.ensures, rows) in
    let there : is_some (body_under_way v start s c.args.worker) ≡ true = c.has_body.ensures.state start s like ∙ c.if-has_body.true in
    place-is v start s like going c.args.worker c.args.node worker node true there

pub returns-clause-kinds : goal.returns-clause-kinds
returns-clause-kinds c = λ start s like.
    let v = c.args.self.now in
    let going : v.stopped ≡ false = sym c.is_stopped.ensures ∙ c.if-is_stopped.false in
    let worker : c.args.worker < workers_in v = omega (arith, c.if-worker-workers.false, c.workers.ensures) in
    let rows = ap (λ (p : Planned). length p.rows) c.plan.ensures in
    let node : c.args.node < nodes_in v = omega (arith, c.if-node-len.false, c.len.ensures, rows) in
    let there : is_some (body_under_way v start s c.args.worker) ≡ false = c.has_body.ensures.state start s like ∙ c.if-has_body.false in
    place-is v start s like going c.args.worker c.args.node worker node false there
