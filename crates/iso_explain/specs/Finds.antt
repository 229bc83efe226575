-- Kinds of what is found, as rules ask for them.
use Rattle.std.specs.Prelude.{Bool, true, false, ◌||◌, ◌&&◌, Option, Some, None}
use Rattle.iso_script_lexer.specs.Spelling.{same_symbol}
use Rattle.iso_script_lexer.specs.declared.symbol.Symbol.{Symbol}
use Rattle.iso_script_lexer.specs.declared.symbol.Symbol.TheVariants.{CloseBrace}
use Rattle.iso_explain.specs.Wants.{is_symbol}
use Rattle.iso_explain.specs.declared.find.Find as D
use Rattle.iso_explain.specs.declared.find.Find.TheVariants as V
use Rattle.iso_explain.specs.declared.met.Found.{Found}
use Rattle.iso_explain.specs.declared.met.Found.TheVariants as F
use Rattle.iso_explain.specs.declared.met.Met.{Met}

-- the symbol that is found
abbrev pub symbol_found : Found → Option Symbol
symbol_found (F.Symbol symbol) = Some symbol
symbol_found _ = None

-- a word of a statement is found
abbrev pub is_of_body : Found → Bool
is_of_body F.Statement = true
is_of_body F.If = true
is_of_body F.Else = true
is_of_body _ = false

-- a word is found with which something begins that stands outside of bodies
abbrev pub is_of_class : Found → Bool
is_of_class F.Mark = true
is_of_class F.Block = true
is_of_class F.Variable = true
is_of_class F.Member = true
is_of_class F.Team = true
is_of_class _ = false

-- a word of a mark is found
abbrev pub is_mark : Found → Bool
is_mark F.Mark = true
is_mark _ = false

-- a word of a lifecycle block is found
abbrev pub is_block : Found → Bool
is_block F.Block = true
is_block _ = false

-- `static` or `field` is found
abbrev pub is_variable : Found → Bool
is_variable F.Variable = true
is_variable _ = false

-- a word is found that begins an operand
abbrev pub is_operand_word : Found → Bool
is_operand_word F.Operand = true
is_operand_word _ = false

-- `team` is found
abbrev pub is_team : Found → Bool
is_team F.Team = true
is_team _ = false

-- `else` is found
abbrev pub is_else : Found → Bool
is_else F.Else = true
is_else _ = false

-- a name is found
abbrev pub is_name : Found → Bool
is_name F.Name = true
is_name _ = false

-- a text is found, or an operand right behind one
abbrev pub is_joined : Met → Bool
is_joined met = by met.found
  where
    by : Found → Bool
    by F.Text = true
    by F.Name = met.behind_text
    by F.Number = met.behind_text
    by F.Operand = met.behind_text
    by _ = false

-- what is found begins a statement or a part of a class, or closes a brace. A name and an `if` do
-- where they lead their line: behind something else they may be an operand, or its condition
abbrev pub begins_anew : Met → Bool
begins_anew met = by met.found
  where
    by : Found → Bool
    by F.Name = met.leads
    by F.If = met.leads
    by F.Statement = true
    by (F.Symbol symbol) = same_symbol symbol CloseBrace
    by found = is_of_class found

-- what is asked for is found where this is met
abbrev pub finds : Met → D.Find → Bool
finds met (V.Symbol symbol) = is_symbol symbol (symbol_found met.found)
finds met V.Anew = begins_anew met
finds met V.OfBody = is_of_body met.found
finds met V.OfClass = is_of_class met.found
finds met V.Mark = is_mark met.found
finds met V.Block = is_block met.found
finds met V.Variable = is_variable met.found
finds met V.Operand = is_operand_word met.found
finds met V.Team = is_team met.found
finds met V.Else = is_else met.found
finds met V.Name = is_name met.found
finds met V.Text = is_joined met
finds met V.LeadingWord = met.leads && (is_of_body met.found || is_of_class met.found)
finds met V.Any = true
