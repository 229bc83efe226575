-- What is met at a fault.
use Rattle.std.specs.Prelude.{ℕ, Bool, false, ◌==◌, Option, Some, None, is_some}
use Rattle.iso_hints.specs.Patterns.{last_byte}
use Rattle.iso_hints.specs.Places.{PlaceView, name_of}
use Rattle.iso_script_lexer.specs.declared.token.Token.{Token}
use Rattle.iso_script_lexer.specs.declared.token.Token.TheVariants as T
use Rattle.iso_script_lexer.specs.declared.word.Word.{Word}
use Rattle.iso_script_lexer.specs.declared.word.Word.TheVariants as W
use Rattle.iso_script_statements.specs.declared.unmet.Unmet.{Unmet}
use Rattle.iso_explain.specs.declared.met.Found.{Found}
use Rattle.iso_explain.specs.declared.met.Found.TheVariants as F
use Rattle.iso_explain.specs.declared.met.Met.{Met}

-- what kind a reserved word is of
abbrev pub kind_of : Word → Found
kind_of W.Let = F.Statement
kind_of W.Print = F.Statement
kind_of W.Assert = F.Statement
kind_of W.AssertEqual = F.Statement
kind_of W.Assume = F.Statement
kind_of W.Fail = F.Statement
kind_of W.Repeat = F.Statement
kind_of W.SetProp = F.Statement
kind_of W.ClearProp = F.Statement
kind_of W.SetLocale = F.Statement
kind_of W.WriteFile = F.Statement
kind_of W.AppendFile = F.Statement
kind_of W.DeleteFile = F.Statement
kind_of W.If = F.If
kind_of W.Else = F.Else
kind_of W.SameThread = F.Mark
kind_of W.Concurrent = F.Mark
kind_of W.Isolated = F.Mark
kind_of W.Disabled = F.Mark
kind_of W.Read = F.Mark
kind_of W.Write = F.Mark
kind_of W.BeforeAll = F.Block
kind_of W.AfterAll = F.Block
kind_of W.BeforeEach = F.Block
kind_of W.AfterEach = F.Block
kind_of W.Static = F.Variable
kind_of W.Field = F.Variable
kind_of W.Class = F.Member
kind_of W.Test = F.Member
kind_of W.Team = F.Team
kind_of W.True = F.Operand
kind_of W.False = F.Operand
kind_of W.Text = F.Operand
kind_of W.Len = F.Operand
kind_of W.Prop = F.Operand
kind_of W.HasProp = F.Operand
kind_of W.Locale = F.Operand
kind_of W.File = F.Operand
kind_of W.HasFile = F.Operand
kind_of W.Children = F.Children

-- what kind a token is of
abbrev pub found_of : Token → Found
found_of (T.Name name) = F.Name
found_of (T.Number n) = F.Number
found_of (T.Text text) = F.Text
found_of (T.Word word) = kind_of word
found_of (T.Symbol symbol) = F.Symbol symbol
found_of T.End = F.End
found_of (T.Bad fault) = F.Bad

-- there is a byte, and it is a double quote
abbrev pub is_quote : Option ℕ → Bool
is_quote None = false
is_quote (Some b) = b == 34

-- what is met at a place: what is wanted there, what is found, and what stands before
abbrev pub met_of : PlaceView → Unmet → Met
met_of place unmet =
    record {
      wanted = unmet.wanted;
      found = found_of unmet.found;
      leads = place.leads;
      named = is_some (name_of place.statement);
      behind_text = is_quote (last_byte place.before);
    }
