-- Why there is no script.
--
-- why there is no script: The kind of the fault at a piece that the grammar does not allow
-- (`IsUnexpected`), and out of memory (`IsMemory`), of a reader's error (`ScriptError`).
use Rattle.std.specs.Prelude.{◌≡◌, ◌≢◌, List, [], ◌∷◌, ◌^◌, nat_lt, if◌then◌else◌, None}
use Rattle.iso_script_lexer.specs.Piece.{Piece, number_at, bad_at}
use Rattle.iso_script_lexer.specs.declared.token.TokenFault as T
use Rattle.iso_script_lexer.specs.declared.token.TokenFault.TheVariants as V
use Rattle.iso_script_lexer.specs.declared.symbol.Symbol.{Symbol}
use Rattle.iso_script_lexer.specs.Tokens.{after}
use Rattle.iso_script_statements.specs.declared.fault.ScriptFault.{ScriptFault}
use Rattle.iso_script_statements.specs.declared.fault.ScriptFaultKind.{ScriptFaultKind}
use Rattle.iso_script_statements.specs.declared.fault.ScriptFaultKind.TheVariants.{BadByte, BadToken, NumberTooBig, OpenText, Expected, TooDeep, TooLong, EndOfInput}
use Rattle.iso_model.specs.declared.input_error.InputError.{InputError}
use Rattle.iso_model.specs.declared.input_error.InputError.TheVariants.{Fault, OutOfMemory}

-- why a script could not be read
abbrev pub ScriptError : Type 0
ScriptError = InputError ScriptFault

-- memory ran out
abbrev pub IsMemory : ScriptError → Type 0
IsMemory OutOfMemory = Unit {0}
IsMemory (Fault fault) = ⊥

-- the fault of a script where bytes are no token
abbrev pub kind_of : T.TokenFault → ScriptFaultKind
kind_of V.BadByte = BadByte
kind_of V.BadToken = BadToken
kind_of V.NumberTooBig = NumberTooBig
kind_of V.OpenText = OpenText
kind_of V.TooLong = TooLong

-- the script has a fault of such a kind
abbrev pub IsFaultOf : (ScriptFaultKind → Type 0) → ScriptError → Type 0
IsFaultOf IsKind OutOfMemory = ⊥
IsFaultOf IsKind (Fault fault) = IsKind fault.kind

-- memory ran out, or the script has a fault of this kind
abbrev pub IsMemoryOr : ScriptFaultKind → ScriptError → Type 0
IsMemoryOr kind OutOfMemory = Unit {0}
IsMemoryOr kind (Fault fault) = fault.kind ≡ kind

-- The kind of the fault at what is next, where the grammar does not allow it. What is no token has
-- the kind of its fault, and 2^63, which only the minus of a literal may precede, one of its own.
abbrev pub IsUnexpected : List Piece → ScriptFaultKind → Type 0
IsUnexpected [] kind = kind ≡ EndOfInput
IsUnexpected (bad_at r fault ∷ ps) kind = kind ≡ kind_of fault
IsUnexpected (number_at r n ∷ ps) kind =
    kind ≡ (if nat_lt n (2 ^ 63) then Expected else NumberTooBig)
IsUnexpected (_ ∷ ps) kind = kind ≡ Expected

-- the kind of the fault where a symbol isn't next, and where it is and no more of them may be
-- opened
abbrev pub IsUnopened : Symbol → List Piece → ScriptFaultKind → Type 0
IsUnopened symbol ps kind =
    (after symbol ps ≡ None → IsUnexpected ps kind) × (after symbol ps ≢ None → kind ≡ TooDeep)
