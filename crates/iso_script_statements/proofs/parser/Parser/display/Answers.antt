use Rattle.std.proofs.Common.{◌∙◌, ap, sym}
use Rattle.iso_script_statements.specs.Statements.{is_display}
use Rattle.iso_script_statements.proofs.Statements.{is_display_text}
use Rattle.iso_script_statements.proofs.parser.Parser.display.Goals as goal

pub returns : goal.returns
returns c =
    is_display_text _ _ _ _ _ (rw c.in-Text.is at c.peek.ensures.next) c.advance.ensures (c.new-text.ensures ∙ c.in_ok-decode.ensures.value)
    (ap is_display (sym (c.as_bytes.ensures.value ∙ c.as_str.ensures)) ∙ sym c.if-not-is_display.ensures)
