-- The lines below the picture.
use Rattle.std.specs.Prelude.{ℕ, List, [], ◌++◌, Bool, true, false, ◌||◌, ◌&&◌, Option, None, Some, codes, cond, not, option_map}
use Rattle.std.specs.Fmt.{decimal}
use Rattle.iso_hints.specs.Pictures.{hint_line}
use Rattle.iso_script.specs.declared.explain.Explained.{Explained}
use Rattle.iso_script_lexer.specs.declared.symbol.Symbol.TheVariants.{CloseBrace, Semicolon}
use Rattle.iso_script_lexer.specs.declared.token.Position.{Position}
use Rattle.iso_script_statements.specs.declared.fault.ScriptFaultKind.{ScriptFaultKind}
use Rattle.iso_script_statements.specs.declared.fault.ScriptFaultKind.TheVariants as K
use Rattle.iso_script_statements.specs.declared.reason.Reason.{Reason}
use Rattle.iso_script_statements.specs.declared.reason.Reason.TheVariants as R
use Rattle.iso_script_statements.specs.declared.wanted.Wanted.{Wanted}
use Rattle.iso_explain.specs.Finds.{is_of_class, symbol_found}
use Rattle.iso_explain.specs.Met.{found_of}
use Rattle.iso_explain.specs.Wants.{is_body, is_symbol, symbol_wanted}
use Rattle.iso_explain.specs.declared.met.Found.{Found}

-- a line of its own for a text, if there is one
abbrev pub note : Option (List ℕ) → List ℕ
note None = []
note (Some text) = hint_line text

-- a place as it is told
abbrev pub place_text : Position → List ℕ
place_text at = decimal at.line ++ codes ":" ++ decimal at.column

-- what was meant, in words
abbrev pub did_you_mean : List ℕ → List ℕ
did_you_mean word = codes "did you mean `" ++ word ++ codes "`?"

-- what mends the fault: a hint, or else what was meant, or else what else is told
abbrev pub mending_note : (hint meant other : Option (List ℕ)) → List ℕ
mending_note (Some hint) meant other = hint_line hint
mending_note None (Some word) other = hint_line (did_you_mean word)
mending_note None None other = note other

-- where something stands first
abbrev pub first_text : Position → List ℕ
first_text at = codes "first at " ++ place_text at

abbrev pub first_note : Option Position → List ℕ
first_note first = note (option_map first_text first)

-- which brace is open
abbrev pub open_text : Position → List ℕ
open_text at = codes "the brace at " ++ place_text at ++ codes " is open"

-- the script ends
abbrev pub is_end : ScriptFaultKind → Bool
is_end K.EndOfInput = true
is_end _ = false

-- a brace is closed where something else is wanted than a `;`
abbrev pub closes_early : Wanted → Found → Bool
closes_early wanted found =
    is_symbol CloseBrace (symbol_found found) && not (is_symbol Semicolon (symbol_wanted wanted))

-- a brace is missing: one is closed too early, or what stands outside of bodies is found in one
abbrev pub lacks_brace : Wanted → Found → Bool
lacks_brace wanted found = closes_early wanted found || (is_body wanted && is_of_class found)

-- whether the open brace is told: the script ends, or a brace is missing
abbrev pub tells_brace : ScriptFaultKind → Reason → Bool
tells_brace kind (R.Unmet unmet) = is_end kind || lacks_brace unmet.wanted (found_of unmet.found)
tells_brace kind R.Kind = is_end kind
tells_brace kind (R.Beyond limit) = is_end kind

abbrev pub brace_note : Explained → List ℕ
brace_note told =
    cond (tells_brace told.fault.kind told.reason) (note (option_map open_text told.brace)) []
