use Rattle.std.proofs.Common.{sym, ap, ◌∙◌}
use Rattle.iso_junit.specs.Escapes.{escaped}
use Rattle.iso_junit.proofs.FileLemmas.{shown-alone, shown-as-it-is, unseen-is-plain}
use Rattle.iso_summary.specs.Names.{shown_char, shown_name}
use Rattle.iso_tap.proofs.PrinterLemmas.{prints_as}
use Rattle.iso_junit.proofs.file.shown.Goals as goal

pub returns-then-is_unseen : goal.returns-then-is_unseen
returns-then-is_unseen g c =
    let is = sym c.is_unseen.ensures ∙ c.if-is_unseen.true in
    prints_as c.name.ensures (escaped (shown_char c.args.c))
    (ap shown_name c.encode_utf8-text.ensures.value ∙ shown-alone c.args.c c.ranges.c.0 ∙ sym (unseen-is-plain c.args.c is))

pub returns-else-is_unseen : goal.returns-else-is_unseen
returns-else-is_unseen g c =
    let is = sym c.is_unseen.ensures ∙ c.if-is_unseen.false in
    prints_as c.escaped.ensures (escaped (shown_char c.args.c))
    (ap escaped (c.as_bytes.ensures.value ∙ c.encode_utf8-text.ensures.value ∙ sym (shown-as-it-is c.args.c is)))
