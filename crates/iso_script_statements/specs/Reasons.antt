-- Why a fault is answered.
use Rattle.std.specs.Prelude.{ℕ, ◌≡◌}
use Rattle.iso_model.specs.declared.limits.TheConstants.{BODY_DEPTH, CLASS_DEPTH, FILE_BYTES, KEY_BYTES, OPERANDS, PARENTHESES}
use Rattle.iso_script_statements.specs.declared.reason.Limit as D
use Rattle.iso_script_statements.specs.declared.reason.Limit.TheVariants as L
use Rattle.iso_script_statements.specs.declared.reason.Reason.{Reason}
use Rattle.iso_script_statements.specs.declared.reason.Reason.TheVariants.{Kind, Unmet, Beyond}
use Rattle.iso_script_statements.specs.declared.wanted.Wanted.{Wanted}

-- this is told to be wanted
abbrev pub Tells : Wanted → Reason → Type 0
Tells wanted (Unmet unmet) = unmet.wanted ≡ wanted
Tells wanted Kind = ⊥
Tells wanted (Beyond limit) = ⊥

-- how many there may be
abbrev pub most : D.Limit → ℕ
most L.Classes = CLASS_DEPTH
most L.Bodies = BODY_DEPTH
most L.Parentheses = PARENTHESES
most L.Operands = OPERANDS
most L.KeyBytes = KEY_BYTES
most L.ScriptBytes = FILE_BYTES
