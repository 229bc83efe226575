use Rattle.std.proofs.Common.{sym, ◌∙◌}
use Rattle.iso_affected_text.proofs.PlaceLemmas.{at-place, past-place}
use Rattle.iso_model.specs.declared.heads.Mark.{Mark}
use Rattle.iso_affected_text.proofs.parts.key_at.Goals as goal

pub returns-then-place-marks : goal.returns-then-place-marks
returns-then-place-marks c = c.as_str.ensures ∙ sym (at-place (λ (m : Mark). m.key) c.args.marks.now c.args.place c.index-marks-place.result c.if-place-marks.true)

pub returns-else-place-marks : goal.returns-else-place-marks
returns-else-place-marks c = sym (past-place (λ (m : Mark). m.key) c.args.marks.now c.args.place c.if-place-marks.false)
