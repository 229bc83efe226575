use Rattle.std.proofs.Common.{◌∙◌, sym, ap}
use Rattle.iso_script.specs.Marks.{key_fault}
use Rattle.iso_script.proofs.Marks.{is_key_text, not_some}
use Rattle.iso_script.proofs.mark.key.Goals as goal

pub returns : goal.returns
returns c = is_key_text _ _ _ _ _ (c.in_ok-key.ensures ∙ c.new.ensures ∙ c.in_ok-decode.ensures.value) (rw c.in-Text.is at c.peek.ensures.next) c.advance.ensures
    (ap key_fault (sym c.as_str-2.ensures) ∙ sym c.key_fault.ensures ∙ not_some _ c.in_default-key_fault.not-Some)
