-- The combined verdict is the same from the last ending to the first.
use Rattle.std.proofs.Common.{◌≡◌, List, [], ◌∷◌, ◌++◌, refl, ap, ◌∙◌}
use Rattle.std.specs.Prelude.{unwrap_or}
use Rattle.iso_model.specs.Verdicts.{first_failure, first_skip, verdict}
use Rattle.iso_model.specs.declared.outcome.Ending.{Ending}
use Rattle.iso_model.specs.declared.outcome.Ending.TheVariants as E
use Rattle.iso_model.specs.declared.outcome.Note.{Note}
use Rattle.iso_model.specs.declared.outcome.Verdict.{Verdict}
use Rattle.iso_model.specs.declared.outcome.Verdict.TheVariants as V
use Rattle.iso_lifecycle.specs.Combining.{or_skipped, with_first}

-- the verdict of endings before those that came to this
abbrev pub before : List Ending → Verdict → Verdict
before [] v = v
before (e ∷ es) v = with_first e (before es v)

pub before-last : (es : List Ending) (e : Ending) (v : Verdict) → before (es ++ e ∷ []) v ≡ before es (with_first e v)
before-last [] e v = refl
before-last (x ∷ es) e v = ap (with_first x) (before-last es e v)

no-fail : (es : List Ending) (note : Note) → or_skipped (unwrap_or (first_skip es) V.Pass) note ≡ V.Skipped note
no-fail [] note = refl
no-fail (E.Well ∷ es) note = no-fail es note
no-fail (E.Fail n ∷ es) note = no-fail es note
no-fail (E.Fault kind n ∷ es) note = no-fail es note
no-fail (E.Assumed n ∷ es) note = refl

fail-or : (es : List Ending) (note : Note) (v : Verdict) → or_skipped v note ≡ V.Skipped note
    → or_skipped (unwrap_or (first_failure es) v) note ≡ unwrap_or (first_failure es) (V.Skipped note)
fail-or [] note v is = is
fail-or (E.Well ∷ es) note v is = fail-or es note v is
fail-or (E.Fail n ∷ es) note v is = refl
fail-or (E.Fault kind n ∷ es) note v is = refl
fail-or (E.Assumed n ∷ es) note v is = fail-or es note v is

first-is : (e : Ending) (es : List Ending) → with_first e (verdict es) ≡ verdict (e ∷ es)
first-is E.Well es = refl
first-is (E.Fail note) es = refl
first-is (E.Fault kind note) es = refl
first-is (E.Assumed note) es = fail-or es note (unwrap_or (first_skip es) V.Pass) (no-fail es note)

pub before-none : (es : List Ending) → before es V.Pass ≡ verdict es
before-none [] = refl
before-none (e ∷ es) = ap (with_first e) (before-none es) ∙ first-is e es
