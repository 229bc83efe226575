use Rattle.std.proofs.Common.{Bool, subst, sym}
use Rattle.std.specs.Bool.{⊤}
use Rattle.iso_run.proofs.Answering.{Lacking, answered-as, no-file, run-answered}
use Rattle.iso_run.proofs.Late.{late-so}
use Rattle.iso_run.proofs.command.answer_conflicts.Goals as goal
use Rattle.iso_run.specs.Commands.{IsWrittenFor, WereRead}
use Rattle.iso_run.specs.Besides.{files_of}
use Rattle.iso_run.specs.ExitStatuses.{end_of, run_end}
use Rattle.iso_run.specs.Runs.{suite_conflicts}
use Rattle.iso_run.specs.declared.report.Summary.{Summary}
use Rattle.iso_run.specs.declared.way.Way.TheVariants.{Serial}
use Rattle.iso_tap.specs.Sinks.{Account}

pub returns : goal.returns
returns g c =
    let input = g.R.Read.remaining c.args.input.now in
    let old = g.W.Sink.account c.args.output.now in
    let new = g.W.Sink.account c.told.new.output in
    let files = c.args.files.now in
    let made = c.conflicts-shown.ensures input (subst (WereRead files input) (sym c.in_ok-bytes.ensures.same) c.in_ok-read.ensures.read) in
    let P : Account → Bool → Type 0 = λ a ok. IsWrittenFor suite_conflicts files input Serial old a ok in
    let file = files_of c.nothing.result in
    let answered = run-answered ⊤ P suite_conflicts made.0 Serial old (g.W.Sink.account c.conflicts-shown.new.output) (λ late ok w. (made.0, made.1, w)) file new c.conflicts-shown.result
    (late-so ⊤ (end_of (λ (s : Summary). s.all_ok) run_end c.conflicts-shown.result) tt) made.2 c.told.result c.told.ensures.answer in
    answered-as (P new) (P new) (λ ok h. h) (Lacking P file new) ⊥ (λ h. no-file c.nothing.result c.nothing.ensures.2 h.2) old new c.told.result answered
