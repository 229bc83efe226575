use Rattle.std.proofs.Common.{◌≡◌, ◌≤◌, true, false, refl, subst, sym, ◌∙◌, arith}
use Rattle.iso_run.proofs.Ending.{at-least-two, never-low, refuses, without-words}
use Rattle.iso_run.proofs.command.command.Goals as goal
use Rattle.iso_run.specs.Commands.{Answered, RanOn}
use Rattle.iso_run.specs.ExitStatuses.{Whole, command_end}

pub returns-in-Ok-true-clause-ended : goal.returns-in-Ok-true-clause-ended
returns-in-Ok-true-clause-ended g c =
    let test = c.in-Ok-true.field-0-test in
    let is : c.in-Ok-true.field-0 ≡ true = cc in
    record {
      end = Whole true;
      status_is = refl;
      leaves = subst (Answered c.args.words.now (g.R.Read.remaining c.args.input.now) (g.W.Sink.account c.args.output.now) (g.W.Sink.account c.answer.new.output)) is c.in-Ok-true.ensures.answers;
    }

pub returns-in-Ok-true-clause-no_word : goal.returns-in-Ok-true-clause-no_word
returns-in-Ok-true-clause-no_word g c = λ none.
    let test = c.in-Ok-true.field-0-test in
    let is : c.in-Ok-true.field-0 ≡ true = cc in
    let input = g.R.Read.remaining c.args.input.now in
    let old = g.W.Sink.account c.args.output.now in
    let new = g.W.Sink.account c.answer.new.output in
    without-words c.args.words.now input old new true none (subst (Answered c.args.words.now input old new) is c.in-Ok-true.ensures.answers)

pub returns-in-Ok-false-clause-ended : goal.returns-in-Ok-false-clause-ended
returns-in-Ok-false-clause-ended g c =
    let test = c.in-Ok-false.field-0-test in
    let is : c.in-Ok-false.field-0 ≡ false = cc in
    record {
      end = Whole false;
      status_is = refl;
      leaves = subst (Answered c.args.words.now (g.R.Read.remaining c.args.input.now) (g.W.Sink.account c.args.output.now) (g.W.Sink.account c.answer.new.output)) is c.in-Ok-false.ensures.answers;
    }

pub returns-in-Ok-false-clause-no_word : goal.returns-in-Ok-false-clause-no_word
returns-in-Ok-false-clause-no_word g c = λ none.
    let test = c.in-Ok-false.field-0-test in
    let is : c.in-Ok-false.field-0 ≡ false = cc in
    let input = g.R.Read.remaining c.args.input.now in
    let old = g.W.Sink.account c.args.output.now in
    let new = g.W.Sink.account c.answer.new.output in
    without-words c.args.words.now input old new false none (subst (Answered c.args.words.now input old new) is c.in-Ok-false.ensures.answers)

pub returns-in-Err-clause-ended : goal.returns-in-Err-clause-ended
returns-in-Err-clause-ended g c = record { end = command_end c.in-Err.fault; status_is = c.status.ensures; leaves = c.in-Err.ensures.answers }

pub returns-in-Err-clause-no_word : goal.returns-in-Err-clause-no_word
returns-in-Err-clause-no_word g c = λ none.
    let before = g.W.Sink.account c.args.output.now in
    let after = g.W.Sink.account c.answer.new.output in
    never-low (g.R.Read.remaining c.args.input.now) (λ script. RanOn script before after c.status.result) c.status.result (rw c.status.ensures (at-least-two c.in-Err.fault))

pub returns-in-Err-clause-refused : goal.returns-in-Err-clause-refused
returns-in-Err-clause-refused g c = λ none two. c.in-Err.ensures.refused none (refuses c.in-Err.fault (sym c.status.ensures ∙ two))

pub returns-in-Err-clause-quiet : goal.returns-in-Err-clause-quiet
returns-in-Err-clause-quiet g c = λ none low.
    let high : 2 ≤ c.status.result = rw c.status.ensures (at-least-two c.in-Err.fault) in
    absurd (omega (arith, low, high))
