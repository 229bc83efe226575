-- What mends a fault: by rules, by the table of hints, and by how forms are written.
use Rattle.std.specs.Prelude.{ℕ, List, Bool, true, false, ◌&&◌, Option, None, cond}
use Rattle.std.specs.Option.{option_or}
use Rattle.iso_hints.specs.Hints.{form_at, hint_at}
use Rattle.iso_script.specs.declared.explain.Explained.{Explained}
use Rattle.iso_script_lexer.specs.declared.symbol.Symbol.{Symbol}
use Rattle.iso_script_lexer.specs.declared.symbol.Symbol.TheVariants as S
use Rattle.iso_script_statements.specs.declared.fault.ScriptFault.{ScriptFault}
use Rattle.iso_script_statements.specs.declared.fault.ScriptFaultKind.{ScriptFaultKind}
use Rattle.iso_script_statements.specs.declared.fault.ScriptFaultKind.TheVariants as K
use Rattle.iso_script_statements.specs.declared.reason.Reason.{Reason}
use Rattle.iso_script_statements.specs.declared.reason.Reason.TheVariants as R
use Rattle.iso_script_statements.specs.declared.unmet.Unmet.{Unmet}
use Rattle.iso_script_statements.specs.declared.wanted.Wanted.{Wanted}
use Rattle.iso_script_statements.specs.declared.wanted.Wanted.TheVariants as W
use Rattle.iso_explain.specs.Met.{met_of}
use Rattle.iso_explain.specs.Rules.{Rule, first_rules, other_rules, told_in}
use Rattle.iso_explain.specs.Spots.{offset_of, place_at_fault}

-- a fault of this kind is a token that doesn't fit
abbrev pub is_unfit : ScriptFaultKind → Bool
is_unfit K.Expected = true
is_unfit _ = false

-- what these rules say of what is wanted and what is found
abbrev pub told_of : List Rule → List ℕ → ScriptFault → Unmet → Option (List ℕ)
told_of rules bytes fault unmet =
    cond (is_unfit fault.kind) (told_in rules (met_of (place_at_fault bytes fault) unmet)) None

abbrev pub told_for : List Rule → List ℕ → ScriptFault → Reason → Option (List ℕ)
told_for rules bytes fault (R.Unmet unmet) = told_of rules bytes fault unmet
told_for rules bytes fault R.Kind = None
told_for rules bytes fault (R.Beyond limit) = None

-- what these rules say of a fault
abbrev pub told_by : List Rule → List ℕ → Explained → Option (List ℕ)
told_by rules bytes told = told_for rules bytes told.fault told.reason

-- whether a fault of this kind may have a hint: a token that doesn't fit, or none
abbrev pub tells_hint : ScriptFaultKind → Bool
tells_hint K.Expected = true
tells_hint K.BadToken = true
tells_hint K.BadByte = true
tells_hint _ = false

-- what the table of hints says of a fault
abbrev pub table_hint : List ℕ → ScriptFault → Option (List ℕ)
table_hint bytes fault =
    cond (tells_hint fault.kind) (hint_at bytes (offset_of bytes fault.line fault.column)) None

-- a symbol stands between two parts of a statement or head
abbrev pub is_joint : Symbol → Bool
is_joint S.Equals = true
is_joint S.Comma = true
is_joint S.OpenBrace = true
is_joint _ = false

-- how a statement or head is written says more than that this is wanted
abbrev pub has_form : Wanted → Bool
has_form W.Name = true
has_form W.Text = true
has_form W.Display = true
has_form (W.Symbol symbol) = is_joint symbol
has_form (W.Operator symbol) = is_joint symbol
has_form (W.SameOperator operator symbol) = is_joint symbol
has_form _ = false

-- how what is begun is written, where that says more than what is wanted
abbrev pub form_or_none : List ℕ → ScriptFault → Wanted → Option (List ℕ)
form_or_none bytes fault wanted =
    cond (is_unfit fault.kind && has_form wanted)
    (form_at bytes (offset_of bytes fault.line fault.column)) None

abbrev pub form_for : List ℕ → ScriptFault → Reason → Option (List ℕ)
form_for bytes fault (R.Unmet unmet) = form_or_none bytes fault unmet.wanted
form_for bytes fault R.Kind = None
form_for bytes fault (R.Beyond limit) = None

abbrev pub form_of : List ℕ → Explained → Option (List ℕ)
form_of bytes told = form_for bytes told.fault told.reason

-- the hint for a fault: what a rule says that is asked first, or else what the table says
abbrev pub hint_of : List ℕ → Explained → Option (List ℕ)
hint_of bytes told = option_or (told_by first_rules bytes told) (table_hint bytes told.fault)

-- what is told where there is no hint, and no word was meant: what another rule says, or else how
-- what is begun is written
abbrev pub other_of : List ℕ → Explained → Option (List ℕ)
other_of bytes told = option_or (told_by other_rules bytes told) (form_of bytes told)
