-- How the derivations of examples are built: what stands often in a text, by the rules of the grammar.
use Rattle.std.proofs.Common.{◌≡◌, ℕ, List, ◌∷◌, None, ap, subst, option_map}
use Rattle.iso_script_lexer.specs.Piece.{Piece, symbol_at}
use Rattle.iso_script_lexer.specs.declared.symbol.Symbol.{Symbol}
use Rattle.iso_model.specs.Syntax.{Term, Act, Acts, act}
use Rattle.iso_script_statements.specs.Expressions.{infix_of, IsOperand, an_operand, IsBefore, before}
use Rattle.iso_script_statements.specs.Pieces.{row_in}
use Rattle.iso_script_statements.specs.Statements as S
use Rattle.iso_script_statements.specs.Statements.{IsStatement, IsStatements}
use Rattle.iso_script_lexer.specs.declared.token.Position.{Position}

-- one operand of a statement, and the symbol that follows it
pub alone : {s : Symbol} {q : Position} {e : Term} {ps qs : List Piece} → IsOperand 32 e ps (symbol_at q s ∷ qs) → infix_of s ≡ None → IsBefore s e ps qs
alone {s = s} h end = before (an_operand h (ap (option_map (λ i. (s, i))) end))

-- a statement on its row, and those that follow it
pub on_row : {d above row : ℕ} {a : Act} {body : Acts} {ps qs rs : List Piece} → row_in above ps ≡ row → IsStatement d above a ps qs
    → IsStatements d above body qs rs → IsStatements d above (act row a body) ps rs
on_row {d = d} {above = above} {a = a} {body = body} {ps = ps} {rs = rs} is h more =
    subst (λ row. IsStatements d above (act row a body) ps rs) is (S.and_then h more)
