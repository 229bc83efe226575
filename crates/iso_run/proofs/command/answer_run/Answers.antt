use Rattle.std.proofs.Common.{◌∙◌, Bool, subst, sym}
use Rattle.std.specs.Bool.{⊤}
use Rattle.iso_run.proofs.Answering.{Lacking, answered-as, files-named, run-answered, run-refused}
use Rattle.iso_run.proofs.Late.{late-so}
use Rattle.iso_run.proofs.command.answer_run.Goals as goal
use Rattle.iso_run.specs.Commands.{IsWrittenFor, WereRead, way_of}
use Rattle.iso_run.specs.Besides.{files_of}
use Rattle.iso_run.specs.ExitStatuses.{NamesFile, end_of, run_end}
use Rattle.iso_run.specs.Runs.{suite_report}
use Rattle.iso_run.specs.declared.report.Summary.{Summary}
use Rattle.iso_run.specs.declared.way.Way.{Way}
use Rattle.iso_tap.specs.Sinks.{Account}

pub returns-clause-answers : goal.returns-clause-answers
returns-clause-answers g c =
    let input = g.R.Read.remaining c.args.input.now in
    let old = g.W.Sink.account c.args.output.now in
    let new = g.W.Sink.account c.told.new.output in
    let way = c.asked_way.result in
    let files = c.args.files.now in
    let made = c.run_shown-ran.ensures.report input (subst (WereRead files input) (sym c.in_ok-bytes.ensures.same) c.in_ok-read.ensures.read) in
    let P : Account → Bool → Type 0 = λ a ok. IsWrittenFor suite_report files input way old a ok in
    let file = files_of c.new-besides.result in
    let answered = run-answered ⊤ P suite_report made.0 way old (g.W.Sink.account c.run_shown-ran.new.output) (λ late ok w. (made.0, made.1, w)) file new c.run_shown-ran.result
    (late-so ⊤ (end_of (λ (s : Summary). s.all_ok) run_end c.run_shown-ran.result) tt) made.2 c.told.result c.told.ensures.answer in
    let asked : (ok : Bool) → P new ok → IsWrittenFor suite_report files input (way_of c.args.serial) old new ok =
    λ ok h. subst (λ (w : Way). IsWrittenFor suite_report files input w old new ok) c.asked_way.ensures h in
    answered-as (P new) _ asked (Lacking P file new) _
    (λ h. (
      h.0,
      asked h.0 h.1,
      subst NamesFile
          (files-named c.new-besides.result c.args.extras c.new-besides.ensures.failed_file c.new-besides.ensures.junit_file c.new-besides.ensures.html_file c.new-besides.ensures.schedule_file
          c.new-besides.ensures.trace_file) h.2,
    )) old new c.told.result answered

pub returns-clause-refused : goal.returns-clause-refused
returns-clause-refused g c = λ plain.
    let input = g.R.Read.remaining c.args.input.now in
    let files = c.args.files.now in
    let made = c.run_shown-ran.ensures.report input (subst (WereRead files input) (sym c.in_ok-bytes.ensures.same) c.in_ok-read.ensures.read) in
    run-refused files input made.0 c.args.serial c.asked_way.result plain.0 made.1 c.asked_way.ensures (files_of c.new-besides.result)
    (g.W.Sink.account c.args.output.now) (g.W.Sink.account c.run_shown-ran.new.output) (g.W.Sink.account c.told.new.output) c.run_shown-ran.result made.2 c.told.result
    c.told.ensures.answer

pub returns-clause-quiet : goal.returns-clause-quiet
returns-clause-quiet g c = λ asks.
    let plain = c.new-besides.ensures.plain asks.1 in
    c.told.ensures.quiet (c.run_shown-ran.ensures.quiet plain.0) (c.run_shown-ran.ensures.unasked (c.asked-course.ensures.plain asks.1)) plain.2
    ∙ c.looked_over.ensures.quiet asks.0.explain
