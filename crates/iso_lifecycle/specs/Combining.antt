-- The combined verdict, from the last ending to the first.
use Rattle.iso_model.specs.declared.outcome.Ending.{Ending}
use Rattle.iso_model.specs.declared.outcome.Ending.TheVariants as E
use Rattle.iso_model.specs.declared.outcome.Note.{Note}
use Rattle.iso_model.specs.declared.outcome.Verdict.{Verdict}
use Rattle.iso_model.specs.declared.outcome.Verdict.TheVariants as V

-- a fail or fault, or else Skipped by this note
abbrev pub or_skipped : Verdict → Note → Verdict
or_skipped V.Pass note = V.Skipped note
or_skipped (V.Fail n) note = V.Fail n
or_skipped (V.Fault kind n) note = V.Fault kind n
or_skipped (V.Skipped n) note = V.Skipped note
or_skipped (V.Blocked n) note = V.Skipped note

-- the verdict with an ending before those that came to this
abbrev pub with_first : Ending → Verdict → Verdict
with_first E.Well v = v
with_first (E.Fail note) v = V.Fail note
with_first (E.Fault kind note) v = V.Fault kind note
with_first (E.Assumed note) v = or_skipped v note
