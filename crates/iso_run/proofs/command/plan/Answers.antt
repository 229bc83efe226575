use Rattle.std.proofs.lemmas.Result.{err_from_is_err_and}
use Rattle.std.proofs.Common.{[], map, option_map, ap, ◌∙◌}
use Rattle.iso_run.specs.Commands.{plan_of, shard_asked}
use Rattle.iso_run.specs.Suites.{texts}
use Rattle.iso_plan.specs.KeptNodes.{texts_of}
use Rattle.iso_run.specs.declared.report.Summary.{Summary}
use Rattle.iso_run.specs.declared.way.Way.TheVariants.{Serial}
use Rattle.iso_run.proofs.Lending.{are-for, are-of-bytes, inputs-for, out-of-memory}
use Rattle.iso_run.proofs.command.plan.Goals as goal

pub returns-in_err-scripts : goal.returns-in_err-scripts
returns-in_err-scripts g c = λ input read.
    let p = err_from_is_err_and c.from_residual.result c.from_residual.ensures.1 in
    let files = c.args.files.now in
    let bytes = c.args.bytes.now in
    let shard = c.shard_of-shard in
    let inputs = inputs-for files bytes shard.result in (
      inputs,
      are-of-bytes files input bytes shard.result read shard.ensures,
      rw (p.1, p.2)
          ([], tt, out-of-memory (λ (s : Summary). s.all_ok) (plan_of c.args.printed (texts_of files.scripts.items) []) inputs Serial (g.W.Sink.account c.args.output.now)),
    )

pub returns-in-Ok : goal.returns-in-Ok
returns-in-Ok g c = λ input read.
    let is = c.inputs_of-inputs.ensures in
    let scripts = ap texts (is.scripts ∙ c.deref-2.ensures.value) ∙ c.in_ok-scripts.ensures ∙ ap (map (λ v. v.items)) c.deref.ensures.value in
    let made = c.in-Ok.ensures in
    let writes = rw c.deref-3.ensures.value at made.2 in (
      c.inputs_of-inputs.result,
      are-for c.args.files.now input c.args.bytes.now c.inputs_of-inputs.result read scripts is.settings is.world is.listed is.only is.patterns
          (ap (option_map shard_asked) is.shard ∙ c.shard_of-shard.ensures) is.processors,
      (made.0, made.1, record { cause = tt; leaves = writes.leaves }),
    )

pub returns : goal.returns
returns g c = λ input read.
    let is = c.inputs_of-inputs.ensures in
    let scripts = ap texts (is.scripts ∙ c.deref-2.ensures.value) ∙ c.in_ok-scripts.ensures ∙ ap (map (λ v. v.items)) c.deref.ensures.value in
    let made = c.in-Err.ensures in
    let writes = rw c.deref-3.ensures.value at made.2 in (
      c.inputs_of-inputs.result,
      are-for c.args.files.now input c.args.bytes.now c.inputs_of-inputs.result read scripts is.settings is.world is.listed is.only is.patterns
          (ap (option_map shard_asked) is.shard ∙ c.shard_of-shard.ensures) is.processors,
      (made.0, made.1, record { cause = writes.cause; leaves = writes.leaves }),
    )
