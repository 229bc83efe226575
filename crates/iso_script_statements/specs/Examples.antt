-- The words of examples: texts that are expressions and blocks. What each is, the source module
-- `examples` states and proves.
use Prim.Native.String.{String}
use Rattle.std.specs.Prelude.{ℕ, List, [], ◌∷◌, ◌++◌, codes}
use Rattle.std.specs.List.{flat_map}
use Rattle.iso_model.specs.Examples.Words.{body, fail, number, print}
use Rattle.iso_model.specs.Syntax.{Term, Act, repeat, Acts}
use Rattle.iso_model.specs.SyntaxView.{acts_of}
use Rattle.iso_model.specs.declared.limits.TheConstants.{PARENTHESES}
use Rattle.iso_script_lexer.specs.LexicalGrammar.{ArePiecesOf}
use Rattle.iso_script_lexer.specs.Piece.{Piece}
use Rattle.iso_script_statements.specs.Expressions.{IsExpression}
use Rattle.iso_script_statements.specs.Statements.{IsBlock}

-- a text is an expression, and nothing more
abbrev pub IsExpressionText : String → Term → Type 0
IsExpressionText text e = (ps : List Piece) × ArePiecesOf (codes text) ps
    × IsExpression PARENTHESES e ps []

-- lines, each with its line feed
abbrev pub text_of : List String → List ℕ
text_of lines = flat_map (λ l. codes l ++ codes "\n") lines

-- lines are a block, and nothing more
abbrev pub IsBlockText : List String → Acts → Type 0
IsBlockText lines body = (ps : List Piece) × ArePiecesOf (text_of lines) ps × IsBlock body ps []

-- a text is a block of one statement, on its first row
abbrev pub IsStatementText : String → Act → Type 0
IsStatementText text a = IsBlockText (text ∷ []) (body (a ∷ []))

-- one statement on a row
abbrev pub on : ℕ → Act → Acts
on row a = acts_of ((row, a) ∷ [])

-- statements over several lines, the block's brace on the second of them
abbrev pub rows_text : List String
rows_text = "" ∷ "{ print 1; print" ∷ "2; repeat 3 {" ∷ "fail \"\"; } }" ∷ []

-- each of them has the row of its first token, counted from the line of the brace
abbrev pub rows_acts : Acts
rows_acts = acts_of ((1, print (number 1)) ∷ (1, print (number 2))
    ∷ (2, repeat (number 3) (on 3 (fail ""))) ∷ [])
