-- The words of the examples.
use Prim.Native.String.{String}
use Rattle.std.specs.Prelude.{◌≡◌, ℕ, List, [], ◌∷◌, ◌++◌, false, Option, None, Some, codes}
use Rattle.iso_script.specs.declared.explain.Explained.{Explained}
use Rattle.iso_script_lexer.specs.declared.symbol.Symbol.{Symbol}
use Rattle.iso_script_lexer.specs.declared.token.Position.{Position}
use Rattle.iso_script_lexer.specs.declared.token.Token.TheVariants as T
use Rattle.iso_script_lexer.specs.declared.word.Word.{Word}
use Rattle.iso_script_statements.specs.Wanted.{a_name, a_symbol, a_word, takes, the_end}
use Rattle.iso_script_statements.specs.declared.fault.ScriptFaultKind.{ScriptFaultKind}
use Rattle.iso_script_statements.specs.declared.reason.Reason.{Reason}
use Rattle.iso_script_statements.specs.declared.reason.Reason.TheVariants as R
use Rattle.iso_script_statements.specs.declared.wanted.Wanted.{Wanted}

-- lines with their line ends
abbrev pub lines_of : List String → List ℕ
lines_of [] = []
lines_of (line ∷ lines) = codes line ++ codes "\n" ++ lines_of lines

-- these lines in a test of a class
abbrev pub in_a_test : List String → List String
in_a_test lines = "team shop" ∷ "class Cart {" ∷ "  test adds {" ∷ lines ++ ("}" ∷ "}" ∷ [])

-- a place
abbrev pub at : (line column : ℕ) → Position
at line column = record { line = line; column = column }

-- this is wanted where a name is found, a symbol or a word, and where the script ends
abbrev pub name_met : (wanted : Wanted) → String → takes wanted a_name ≡ false → Reason
name_met wanted name other =
    R.Unmet (record {
      wanted = wanted;
      found =
          T.Name (record { ref_ptr = (0, 0); now = codes name });
      otherwise = other;
    })

abbrev pub symbol_met : (wanted : Wanted) (symbol : Symbol) → takes wanted (a_symbol symbol)
    ≡ false → Reason
symbol_met wanted symbol other =
    R.Unmet (record { wanted = wanted; found = T.Symbol symbol; otherwise = other })

abbrev pub word_met : (wanted : Wanted) (word : Word) → takes wanted (a_word word) ≡ false → Reason
word_met wanted word other =
    R.Unmet (record { wanted = wanted; found = T.Word word; otherwise = other })

abbrev pub end_met : (wanted : Wanted) → takes wanted the_end ≡ false → Reason
end_met wanted other = R.Unmet (record { wanted = wanted; found = T.End; otherwise = other })

-- a fault with its reason, the width of what is found there, and the brace that is open there
abbrev pub fault_in : ScriptFaultKind → Position → Reason → (width : ℕ)
    → (brace : Option Position) → Explained
fault_in kind place reason width brace =
    record {
      fault = record { kind = kind; line = place.line; column = place.column };
      reason = reason;
      width = width;
      brace = brace;
      first = None;
    }

-- the fault of what stands a second time, and where it stands first
abbrev pub second_of : ScriptFaultKind → Position → (width : ℕ) → (first : Position) → Explained
second_of kind place width first =
    record (fault_in kind place R.Kind width None) { first = Some first }
