use Rattle.std.proofs.Common.{map, option_map, ap, ◌∙◌}
use Rattle.std.proofs.lemmas.Result.{err_from_is_err_and}
use Rattle.iso_run.specs.Commands.{shard_asked}
use Rattle.iso_run.specs.Runs.{suite_report}
use Rattle.iso_run.specs.Suites.{texts}
use Rattle.iso_run.specs.declared.report.Summary.{Summary}
use Rattle.iso_run.specs.declared.way.Way.TheVariants.{Serial, ByWorkers}
use Rattle.iso_run.proofs.Answering.{still-quiet, still-quiet-untimed}
use Rattle.iso_run.proofs.Coursing.{still-unasked}
use Rattle.iso_run.proofs.Lending.{are-for, are-of-bytes, inputs-for, out-of-memory}
use Rattle.iso_run.proofs.command.run.Goals as goal

pub returns-in_err-scripts-clause-report : goal.returns-in_err-scripts-clause-report
returns-in_err-scripts-clause-report g c = λ input read.
    let p = err_from_is_err_and c.from_residual.result c.from_residual.ensures.1 in
    let files = c.args.files.now in
    let bytes = c.args.bytes.now in
    let shard = c.shard_of-shard in
    let inputs = inputs-for files bytes shard.result in (
      inputs,
      are-of-bytes files input bytes shard.result read shard.ensures,
      rw (p.1, p.2)
          (out-of-memory (λ (s : Summary). s.all_ok) suite_report inputs c.args.way (g.W.Sink.account c.args.output.now)),
    )

pub returns-in-ByWorkers-clause-report : goal.returns-in-ByWorkers-clause-report
returns-in-ByWorkers-clause-report g c = λ input read.
    let is = c.inputs_of-inputs.ensures in
    let scripts = ap texts (is.scripts ∙ c.deref-2.ensures.value) ∙ c.in_ok-scripts.ensures ∙ ap (map (λ v. v.items)) c.deref.ensures.value in (
      c.inputs_of-inputs.result,
      are-for c.args.files.now input c.args.bytes.now c.inputs_of-inputs.result read scripts is.settings is.world is.listed is.only is.patterns
          (ap (option_map shard_asked) is.shard ∙ c.shard_of-shard.ensures) is.processors,
      rw c.in-ByWorkers.is c.run_workers_shown.ensures.report,
    )

pub returns-in-Serial-clause-quiet : goal.returns-in-Serial-clause-quiet
returns-in-Serial-clause-quiet g c = still-quiet c.inputs_of-inputs.result Serial c.args.tells.now c.run_serial_shown.new.tells c.run_serial_shown.result c.run_serial_shown.ensures.told

pub returns-in-ByWorkers-clause-quiet : goal.returns-in-ByWorkers-clause-quiet
returns-in-ByWorkers-clause-quiet g c = still-quiet c.inputs_of-inputs.result ByWorkers c.args.tells.now c.run_workers_shown.new.tells c.run_workers_shown.result c.run_workers_shown.ensures.told

pub returns-clause-quiet : goal.returns-clause-quiet
returns-clause-quiet g c = still-quiet-untimed c.inputs_of-inputs.result c.args.tells.now c.run_schedule.new.tells c.run_schedule.result c.run_schedule.ensures.told

pub returns-in-Serial-clause-unasked : goal.returns-in-Serial-clause-unasked
returns-in-Serial-clause-unasked g c = still-unasked c.inputs_of-inputs.result Serial c.args.course.now c.run_serial_shown.new.course c.run_serial_shown.result c.run_serial_shown.ensures.course

pub returns-in-ByWorkers-clause-unasked : goal.returns-in-ByWorkers-clause-unasked
returns-in-ByWorkers-clause-unasked g c = still-unasked c.inputs_of-inputs.result ByWorkers c.args.course.now c.run_workers_shown.new.course c.run_workers_shown.result
    c.run_workers_shown.ensures.course
