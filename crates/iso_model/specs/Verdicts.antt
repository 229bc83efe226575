-- The combined verdict of the endings of a body's blocks, in the order of their execution.
--
-- combined verdict: The first fail or fault; else Skipped by the first false assumption; else Pass
-- (`verdict`).
-- Standard: JUnit 5 User Guide, assumptions.
use Rattle.std.specs.Prelude.{List, [], ◌∷◌, Option, Some, None, unwrap_or}
use Rattle.iso_model.specs.declared.outcome.Ending.{Ending}
use Rattle.iso_model.specs.declared.outcome.Ending.TheVariants as E
use Rattle.iso_model.specs.declared.outcome.Verdict.{Verdict}
use Rattle.iso_model.specs.declared.outcome.Verdict.TheVariants as V

-- the first fail or fault
abbrev pub first_failure : List Ending → Option Verdict
first_failure [] = None
first_failure (E.Fail note ∷ es) = Some (V.Fail note)
first_failure (E.Fault kind note ∷ es) = Some (V.Fault kind note)
first_failure (E.Assumed note ∷ es) = first_failure es
first_failure (E.Well ∷ es) = first_failure es

-- the first false assumption
abbrev pub first_skip : List Ending → Option Verdict
first_skip [] = None
first_skip (E.Assumed note ∷ es) = Some (V.Skipped note)
first_skip (E.Fail note ∷ es) = first_skip es
first_skip (E.Fault kind note ∷ es) = first_skip es
first_skip (E.Well ∷ es) = first_skip es

-- the first fail or fault; else Skipped by the first false assumption; else Pass
abbrev pub verdict : List Ending → Verdict
verdict endings = unwrap_or (first_failure endings) (unwrap_or (first_skip endings) V.Pass)

-- the verdict of a node under a class whose `before_all` ended so: Blocked after a fail or fault,
-- Skipped after a false assumption
abbrev pub barred_verdict : Ending → Verdict
barred_verdict E.Well = V.Pass
barred_verdict (E.Fail note) = V.Blocked note
barred_verdict (E.Fault kind note) = V.Blocked note
barred_verdict (E.Assumed note) = V.Skipped note
