use Rattle.std.proofs.Common.{ap}
use Rattle.iso_settings.specs.Settings.{settings_in}
use Rattle.iso_run.proofs.Documents.{document-of_text, document-of_broken}
use Rattle.iso_run.proofs.inputs.settings_from.Goals as goal

pub returns-in-Ok-clause-exact : goal.returns-in-Ok-clause-exact
returns-in-Ok-clause-exact c =
    let text = c.in-Ok.ensures.cases in
    rw (document-of_text c.args.bytes.now c.in-Ok.text.now text.0 text.1) c.read_settings.ensures.exact

pub returns-in-Err-clause-exact : goal.returns-in-Err-clause-exact
returns-in-Err-clause-exact c = ap (λ d. settings_in d c.args.processors) (document-of_broken c.args.bytes.now c.in-Err.ensures.cases.0)
