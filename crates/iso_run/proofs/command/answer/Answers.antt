use Rattle.std.proofs.Common.{Bool}
use Rattle.iso_run.proofs.Answering.{answered-as}
use Rattle.iso_run.proofs.command.answer.Goals as goal
use Rattle.iso_run.specs.Commands.{Answered, AnsweredBesides, Did, DidBesides}

pub returns-clause-answers : goal.returns-clause-answers
returns-clause-answers g c =
    let request = c.in_ok-request.request in
    let input = g.R.Read.remaining c.args.input.now in
    let old = g.W.Sink.account c.args.output.now in
    let new = g.W.Sink.account c.answer_request.new.output in
    let asked : (ok : Bool) → Did request input old new ok → Answered c.args.words.now input old new ok =
    λ ok did. record { request = request; plain = c.in_ok-request.ensures.no_word; did = did } in
    answered-as (Did request input old new) (Answered c.args.words.now input old new) asked
    (DidBesides request input old new) (AnsweredBesides c.args.words.now input old new) (λ h. record { ok = h.0; answered = asked h.0 h.1; names = h.2 })
    old new c.answer_request.result c.answer_request.ensures.answers

pub returns-clause-refused : goal.returns-clause-refused
returns-clause-refused g c = λ none. c.answer_request.ensures.refused (c.in_ok-request.ensures.no_word none)
