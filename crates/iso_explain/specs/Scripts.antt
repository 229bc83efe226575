-- What was written of bytes that are no script.
use Rattle.std.specs.Prelude.{◌≡◌, ℕ, List}
use Rattle.iso_script.specs.declared.explain.Explained.{Explained}
use Rattle.iso_tap.specs.Sinks.{Account, CutOff}
use Rattle.iso_explain.specs.Explanations.{explanation}
use Rattle.iso_explain.specs.Meant.{meant_by}
use Rattle.iso_explain.specs.declared.script.ExplainError.{ExplainError}
use Rattle.iso_explain.specs.declared.script.ExplainError.TheVariants as E

-- the explanation of a fault, with the word that was meant
abbrev pub explained_text : List ℕ → Explained → List ℕ
explained_text bytes told = explanation bytes told (meant_by bytes told)

-- where memory ran out nothing was written; where the sink failed, the beginning of this text
abbrev pub IsBegun : (text : List ℕ) → (old new : Account) → ExplainError → Type 0
IsBegun text old new E.OutOfMemory = new ≡ old
IsBegun text old new E.SinkFailed = CutOff old new text
