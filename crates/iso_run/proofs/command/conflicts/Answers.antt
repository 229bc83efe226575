use Rattle.std.proofs.lemmas.Result.{err_from_is_err_and}
use Rattle.std.proofs.Common.{map, option_map, ap, ◌∙◌}
use Rattle.iso_run.specs.Commands.{shard_asked}
use Rattle.iso_run.specs.Runs.{suite_conflicts}
use Rattle.iso_run.specs.Suites.{texts}
use Rattle.iso_run.specs.declared.report.Summary.{Summary}
use Rattle.iso_run.specs.declared.way.Way.TheVariants.{Serial}
use Rattle.iso_run.proofs.Lending.{are-for, are-of-bytes, inputs-for, out-of-memory}
use Rattle.iso_run.proofs.command.conflicts.Goals as goal

pub returns-in_err-scripts : goal.returns-in_err-scripts
returns-in_err-scripts g c = λ input read.
    let p = err_from_is_err_and c.from_residual.result c.from_residual.ensures.1 in
    let files = c.args.files.now in
    let bytes = c.args.bytes.now in
    let shard = c.shard_of-shard in
    let inputs = inputs-for files bytes shard.result in (
      inputs,
      are-of-bytes files input bytes shard.result read shard.ensures,
      rw (p.1, p.2)
          (out-of-memory (λ (s : Summary). s.all_ok) suite_conflicts inputs Serial (g.W.Sink.account c.args.output.now)),
    )

pub returns-in-Ok : goal.returns-in-Ok
returns-in-Ok g c = λ input read.
    let is = c.inputs_of-inputs.ensures in
    let scripts = ap texts (is.scripts ∙ c.deref-2.ensures.value) ∙ c.in_ok-scripts.ensures ∙ ap (map (λ v. v.items)) c.deref.ensures.value in (
      c.inputs_of-inputs.result,
      are-for c.args.files.now input c.args.bytes.now c.inputs_of-inputs.result read scripts is.settings is.world is.listed is.only is.patterns
          (ap (option_map shard_asked) is.shard ∙ c.shard_of-shard.ensures) is.processors,
      record { cause = tt; leaves = c.in-Ok.ensures.leaves },
    )

pub returns : goal.returns
returns g c = λ input read.
    let is = c.inputs_of-inputs.ensures in
    let scripts = ap texts (is.scripts ∙ c.deref-2.ensures.value) ∙ c.in_ok-scripts.ensures ∙ ap (map (λ v. v.items)) c.deref.ensures.value in (
      c.inputs_of-inputs.result,
      are-for c.args.files.now input c.args.bytes.now c.inputs_of-inputs.result read scripts is.settings is.world is.listed is.only is.patterns
          (ap (option_map shard_asked) is.shard ∙ c.shard_of-shard.ensures) is.processors,
      record { cause = c.in-Err.ensures.cause; leaves = c.in-Err.ensures.leaves },
    )
