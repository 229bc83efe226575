use Rattle.std.proofs.Common.{◌≡◌, ◌<◌, is_some, true, false, sym, ◌∙◌, arith}
use Rattle.iso_standing.proofs.Looks.{booking-is}
use Rattle.iso_standing.specs.Standings.{body_under_way, workers_in}
use Rattle.iso_standing.proofs.standing.Standing.refusal_of_booking.Goals as goal

pub returns-then-not-has_body-clause-kind : goal.returns-then-not-has_body-clause-kind
returns-then-not-has_body-clause-kind c = λ start s like.
    let v = c.args.self.now in
    let going : v.stopped ≡ false = sym c.is_stopped.ensures ∙ c.if-is_stopped.false in
    let worker : c.args.worker < workers_in v = omega (arith, c.if-worker-workers.false, c.workers.ensures) in
    let there : is_some (body_under_way v start s c.args.worker) ≡ false = c.has_body.ensures.state start s like ∙ c.if-not-has_body.true in
    booking-is v start s like going c.args.worker worker false there

pub returns-clause-kind : goal.returns-clause-kind
returns-clause-kind c = λ start s like.
    let v = c.args.self.now in
    let going : v.stopped ≡ false = sym c.is_stopped.ensures ∙ c.if-is_stopped.false in
    let worker : c.args.worker < workers_in v = omega (arith, c.if-worker-workers.false, c.workers.ensures) in
    let there : is_some (body_under_way v start s c.args.worker) ≡ true = c.has_body.ensures.state start s like ∙ c.if-not-has_body.false in
    booking-is v start s like going c.args.worker worker true there
