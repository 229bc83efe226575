use Rattle.std.proofs.Common.{Bool, subst, sym}
use Rattle.std.specs.Bool.{⊤}
use Rattle.iso_run.proofs.Answering.{Lacking, answered-as, files-named, run-answered}
use Rattle.iso_run.proofs.Late.{late-so}
use Rattle.iso_run.proofs.command.answer_replay.Goals as goal
use Rattle.iso_run.specs.Commands.{IsWrittenFor, WereRead}
use Rattle.iso_run.specs.Besides.{files_of}
use Rattle.iso_run.specs.ExitStatuses.{NamesFile, end_of, run_end}
use Rattle.iso_run.specs.Runs.{suite_report}
use Rattle.iso_run.specs.declared.report.Summary.{Summary}
use Rattle.iso_run.specs.declared.way.Way.TheVariants.{BySchedule}
use Rattle.iso_tap.specs.Sinks.{Account}

pub returns : goal.returns
returns g c =
    let input = g.R.Read.remaining c.args.input.now in
    let old = g.W.Sink.account c.args.output.now in
    let new = g.W.Sink.account c.told.new.output in
    let way = BySchedule c.deref.result in
    let files = c.args.files.now in
    let made = c.run-ran.ensures.report input (subst (WereRead files input) (sym c.in_ok-bytes.ensures.same) c.in_ok-read.ensures.read) in
    let P : Account → Bool → Type 0 = λ a ok. IsWrittenFor suite_report files input way old a ok in
    let file = files_of c.new-besides.result in
    let answered = run-answered ⊤ P suite_report made.0 way old (g.W.Sink.account c.run-ran.new.output) (λ late ok w. (made.0, made.1, w)) file new c.run-ran.result
    (late-so ⊤ (end_of (λ (s : Summary). s.all_ok) run_end c.run-ran.result) tt) made.2 c.told.result c.told.ensures.answer in
    answered-as (P new) _ (λ ok h. (c.deref.result, h)) (Lacking P file new) _
    (λ h. (
      h.0,
      (c.deref.result, h.1),
      subst NamesFile
          (files-named c.new-besides.result c.args.extras c.new-besides.ensures.failed_file c.new-besides.ensures.junit_file
          c.new-besides.ensures.html_file c.new-besides.ensures.schedule_file c.new-besides.ensures.trace_file) h.2,
    )) old new c.told.result answered
