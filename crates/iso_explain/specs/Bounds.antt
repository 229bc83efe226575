-- What there may be at most.
use Rattle.std.specs.Prelude.{ℕ, ◌-◌, ◌^◌, List, [], ◌++◌, codes}
use Rattle.std.specs.Fmt.{decimal}
use Rattle.iso_hints.specs.Pictures.{hint_line}
use Rattle.iso_model.specs.declared.limits.TheConstants.{DISPLAY_BYTES, NAME_BYTES, TEXT_BYTES}
use Rattle.iso_script_statements.specs.Reasons.{most}
use Rattle.iso_script_statements.specs.declared.fault.ScriptFaultKind.{ScriptFaultKind}
use Rattle.iso_script_statements.specs.declared.fault.ScriptFaultKind.TheVariants as K
use Rattle.iso_script_statements.specs.declared.reason.Limit.{Limit}
use Rattle.iso_script_statements.specs.declared.reason.Limit.TheVariants as L
use Rattle.iso_script_statements.specs.declared.reason.Reason.{Reason}
use Rattle.iso_script_statements.specs.declared.reason.Reason.TheVariants as R

-- what is limited in number
abbrev pub limit_words : Limit → List ℕ
limit_words L.Classes = codes " classes stand in one another"
limit_words L.Bodies = codes " bodies stand in one another"
limit_words L.Parentheses = codes " parentheses are open at once"
limit_words L.Operands = codes " operands stand in one chain"
limit_words L.KeyBytes = codes " bytes stand in a key"
limit_words L.ScriptBytes = codes " bytes stand in a script"

abbrev pub limit_note : Limit → List ℕ
limit_note limit = hint_line (codes "at most " ++ decimal (most limit) ++ limit_words limit)

-- how big a number may be, how long a name and a text, and how a display text and a reason are
-- written
abbrev pub number_note : List ℕ
number_note = hint_line (codes "at most " ++ decimal (2 ^ 63 - 1)
    ++ codes ", after the minus of a literal " ++ decimal (2 ^ 63))

abbrev pub token_note : List ℕ
token_note = hint_line (codes "at most " ++ decimal NAME_BYTES
    ++ codes " bytes stand in a name, and " ++ decimal TEXT_BYTES ++ codes " in a text")

abbrev pub display_note : List ℕ
display_note =
    hint_line (codes "a display text and a reason have 1 to " ++ decimal DISPLAY_BYTES
    ++ codes " bytes, and no space at either end")

-- what is allowed where a fault of this kind is
abbrev pub kind_note : ScriptFaultKind → List ℕ
kind_note K.NumberTooBig = number_note
kind_note K.TooLong = token_note
kind_note K.BadDisplay = display_note
kind_note _ = []

-- what there may be at most, or what is allowed there
abbrev pub bound_note : ScriptFaultKind → Reason → List ℕ
bound_note kind R.Kind = kind_note kind
bound_note kind (R.Unmet unmet) = kind_note kind
bound_note kind (R.Beyond limit) = limit_note limit
