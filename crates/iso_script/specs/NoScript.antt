-- Why bytes are no script.
--
-- fault of a script: That the bytes are no script, and what is known of the kind and place
-- (`HasScriptFault`, `too_long`).
use Rattle.std.specs.Prelude.{◌≡◌, ◌<◌, ◌≤◌, ℕ, List, None, Some, length}
use Rattle.iso_model.specs.Scripts.{Script}
use Rattle.iso_model.specs.declared.limits.TheConstants.{FILE_BYTES}
use Rattle.iso_script.specs.Grammar.{Reads}
use Rattle.iso_script_lexer.specs.LexicalGrammar.{ArePiecesOf}
use Rattle.iso_script_lexer.specs.Piece.{Piece}
use Rattle.iso_script_lexer.specs.Tokens.{after_word}
use Rattle.iso_script_lexer.specs.declared.word.Word.TheVariants as W
use Rattle.iso_script_statements.specs.Faults.{IsUnexpected, ScriptError}
use Rattle.iso_script_statements.specs.Pieces.{name_next}
use Rattle.iso_model.specs.declared.input_error.InputError.TheVariants.{Fault, OutOfMemory}
use Rattle.iso_script_statements.specs.declared.fault.ScriptFault.{ScriptFault}
use Rattle.iso_script_statements.specs.declared.fault.ScriptFaultKind.{ScriptFaultKind}
use Rattle.iso_script_statements.specs.declared.fault.ScriptFaultKind.TheVariants.{TooLong}

-- the fault of a script of more bytes than a script may have
abbrev pub too_long : ScriptFault
too_long = record { kind = TooLong; line = 1; column = 1 }

-- Pieces that don't begin with the word `team` and a name have the fault of the first of the two
-- that isn't there.
pub record IsOfBeginning (ps : List Piece) (kind : ScriptFaultKind) : Type 0 where
  pub word : after_word W.Team ps ≡ None → IsUnexpected ps kind
  pub name : (qs : List Piece) → after_word W.Team ps ≡ Some qs → name_next qs ≡ None
      → IsUnexpected qs kind

-- The fault that bytes have: they are no script, which is too long before all else. Of the kind is
-- said what the beginning gives.
pub record HasScriptFault (bytes : List ℕ) (fault : ScriptFault) : Type 0 where
  pub unread : (s : Script) → Reads bytes s → ⊥
  pub long : FILE_BYTES < length bytes → fault ≡ too_long
  pub begins : (ps : List Piece) → length bytes ≤ FILE_BYTES → ArePiecesOf bytes ps
      → IsOfBeginning ps fault.kind

-- memory ran out, or this holds of the fault
abbrev pub UnlessMemory : (ScriptFault → Type 0) → ScriptError → Type 0
UnlessMemory Is OutOfMemory = Unit {0}
UnlessMemory Is (Fault fault) = Is fault
