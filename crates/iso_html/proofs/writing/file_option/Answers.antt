use Rattle.std.proofs.Common.{ap, sym}
use Rattle.iso_junit.proofs.EscapeLemmas.{escaped-append}
use Rattle.iso_junit.specs.Escapes.{escaped}
use Rattle.iso_summary.specs.Words.{file_word}
use Rattle.iso_tap.proofs.PrinterLemmas.{prints_as, prints_stopped, prints_then}
use Rattle.iso_html.proofs.writing.file_option.Goals as goal

pub returns-in_err-escaped-in-Some : goal.returns-in_err-escaped-in-Some
returns-in_err-escaped-in-Some g c =
    let option = c.args.option.now in
    let first = prints_as c.in_err-escaped-in-Some.ensures (escaped option) (ap escaped c.as_bytes.ensures.value) in
    rw c.in-Some.is
    (prints_as (prints_stopped (escaped (file_word c.in-Some.name.now)) _ c.from_residual.ensures.0 first) _ (sym (escaped-append option (file_word c.in-Some.name.now))))

pub returns-in_ok-escaped-in-Some : goal.returns-in_ok-escaped-in-Some
returns-in_ok-escaped-in-Some g c =
    let option = c.args.option.now in
    let first = prints_as c.in_ok-escaped-in-Some.ensures (escaped option) (ap escaped c.as_bytes.ensures.value) in
    rw c.in-Some.is
    (prints_as (prints_then _ first c.file.ensures) _ (sym (escaped-append option (file_word c.in-Some.name.now))))
