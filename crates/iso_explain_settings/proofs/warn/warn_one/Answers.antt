use Rattle.std.proofs.Common.{ap, ◌∙◌}
use Rattle.iso_explain_settings.specs.Warned.{line_end}
use Rattle.iso_explain_settings.proofs.warn.warn_one.Goals as goal

pub returns : goal.returns
returns c =
    let ended = c.line_end-note.ensures ∙ ap line_end c.in_ok-meant.ensures in
    rw (← ended) c.add_line.ensures
