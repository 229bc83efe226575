use Rattle.std.proofs.Common.{map, option_map, ap, ◌∙◌}
use Rattle.std.proofs.lemmas.Result.{err_from_is_err_and}
use Rattle.iso_run.specs.Commands.{shard_asked}
use Rattle.iso_run.specs.Suites.{texts}
use Rattle.iso_run.proofs.Lending.{are-for, are-of-bytes, inputs-for, texts-lent}
use Rattle.iso_run.proofs.Unread.{gives-up-early, unread-ends-early}
use Rattle.iso_run.proofs.mending.suite_of.Goals as goal

pub returns-in_err-scripts-clause-read : goal.returns-in_err-scripts-clause-read
returns-in_err-scripts-clause-read c = λ input read.
    let p = err_from_is_err_and c.from_residual.result c.from_residual.ensures.1 in
    let files = c.args.files.now in
    let bytes = c.args.bytes.now in
    let shard = c.shard_of-shard in
    let inputs = inputs-for files bytes shard.result in
    (inputs, are-of-bytes files input bytes shard.result read shard.ensures, texts-lent bytes.scripts.items, rw (p.1, p.2) tt)

pub returns-in-Ok-clause-read : goal.returns-in-Ok-clause-read
returns-in-Ok-clause-read c = λ input read.
    let is = c.inputs_of-inputs.ensures in
    let scripts = ap texts (is.scripts ∙ c.deref-2.ensures.value) ∙ c.in_ok-scripts.ensures ∙ ap (map (λ v. v.items)) c.deref.ensures.value in (
      c.inputs_of-inputs.result,
      are-for c.args.files.now input c.args.bytes.now c.inputs_of-inputs.result read scripts is.settings is.world is.listed is.only is.patterns
          (ap (option_map shard_asked) is.shard ∙ c.shard_of-shard.ensures) is.processors,
      scripts,
      c.in-Ok.ensures,
    )

pub returns-clause-read : goal.returns-clause-read
returns-clause-read c = λ input read.
    let is = c.inputs_of-inputs.ensures in
    let scripts = ap texts (is.scripts ∙ c.deref-2.ensures.value) ∙ c.in_ok-scripts.ensures ∙ ap (map (λ v. v.items)) c.deref.ensures.value in (
      c.inputs_of-inputs.result,
      are-for c.args.files.now input c.args.bytes.now c.inputs_of-inputs.result read scripts is.settings is.world is.listed is.only is.patterns
          (ap (option_map shard_asked) is.shard ∙ c.shard_of-shard.ensures) is.processors,
      scripts,
      c.in-Err.ensures,
    )

pub returns-in_err-scripts-clause-early : goal.returns-in_err-scripts-clause-early
returns-in_err-scripts-clause-early c =
    let p = err_from_is_err_and c.from_residual.result c.from_residual.ensures.1 in
    rw (p.1, p.2) gives-up-early

pub returns-clause-early : goal.returns-clause-early
returns-clause-early c = unread-ends-early c.inputs_of-inputs.result c.in-Err.fault c.in-Err.ensures
