use Rattle.std.proofs.Common.{ap, sym, ◌∙◌}
use Rattle.iso_junit.proofs.EscapeLemmas.{escaped-append}
use Rattle.iso_junit.specs.Escapes.{escaped}
use Rattle.iso_summary.specs.Words.{folder, shell_word}
use Rattle.iso_tap.proofs.PrinterLemmas.{prints_as, prints_stopped, prints_then}
use Rattle.iso_html.proofs.word.file.Goals as goal

pub returns-in_err-escaped : goal.returns-in_err-escaped
returns-in_err-escaped g c =
    let name = c.args.file.now in
    let first = prints_as c.in_err-escaped.ensures (escaped (folder name)) (ap escaped (c.folder.ensures ∙ ap folder c.as_bytes.ensures.value)) in
    prints_as (prints_stopped (escaped (shell_word name)) _ c.from_residual.ensures.0 first) _ (sym (escaped-append (folder name) (shell_word name)))

pub returns : goal.returns
returns g c =
    let name = c.args.file.now in
    let first = prints_as c.in_ok-escaped.ensures (escaped (folder name)) (ap escaped (c.folder.ensures ∙ ap folder c.as_bytes.ensures.value)) in
    let second = prints_as c.word.ensures (escaped (shell_word name)) (ap (λ w. escaped (shell_word w)) c.as_bytes-2.ensures.value) in
    prints_as (prints_then _ first second) _ (sym (escaped-append (folder name) (shell_word name)))
