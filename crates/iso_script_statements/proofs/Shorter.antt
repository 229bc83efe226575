-- What is read takes a piece at least.
use Rattle.std.proofs.Common.{ℕ, ◌<◌, ◌≤◌, List, length, arith}
use Rattle.iso_script_lexer.specs.Piece.{Piece}
use Rattle.iso_script_lexer.specs.declared.symbol.Symbol.{Symbol}
use Rattle.iso_model.specs.declared.data.Data.{Data}
use Rattle.iso_model.specs.Syntax.{Term, Terms, Act, Acts}
use Rattle.iso_script_statements.specs.Expressions.{IsLiteral, a_number, a_negative, a_text, a_true, a_false, no_argument, IsOperand, a_literal, a_name, in_parentheses, a_call, the_locale, IsEnclosed, enclosed, IsChained, chained, IsExpression, an_operand, a_chain, a_comparison, IsBefore, before}
use Rattle.iso_script_statements.specs.Expressions.IsChained.{and_then}
use Rattle.iso_script_statements.specs.declared.simple.Simple.{Simple}
use Rattle.iso_script_statements.specs.Statements as G
use Rattle.iso_script_statements.specs.Statements.{IsDisplay, a_display, IsBinding, a_binding, IsSimple, of_one, of_two, a_let, an_assumption, a_fail, IsStatement, a_simple, an_assignment, an_if, a_repeat, IsElse, no_else, an_else, IsStatements, closed, IsBody, a_body, IsBlock, a_block}

pub literal_shorter : {x : Data} {ps qs : List Piece} → IsLiteral x ps qs → length qs < length ps
literal_shorter (a_number h) = omega arith
literal_shorter (a_negative h) = omega arith
literal_shorter a_text = omega arith
literal_shorter a_true = omega arith
literal_shorter a_false = omega arith

mutual
  pub operand_shorter : {d : ℕ} {e : Term} {ps qs : List Piece} → IsOperand d e ps qs → length qs < length ps
  operand_shorter (a_literal h) = literal_shorter h
  operand_shorter a_name = omega arith
  operand_shorter (in_parentheses h) = enclosed_shorter h
  operand_shorter (a_call f h) = omega (arith, enclosed_shorter h)
  operand_shorter (the_locale no_argument) = omega arith

  enclosed_shorter : {d : ℕ} {e : Term} {ps qs : List Piece} → IsEnclosed d e ps qs → length qs < length ps
  enclosed_shorter (enclosed h) = omega (arith, expression_shorter h)

  chained_shorter : {d n : ℕ} {s : Symbol} {es : Terms} {ps qs : List Piece} → IsChained d s n es ps qs → length qs ≤ length ps
  chained_shorter (chained none) = omega arith
  chained_shorter (and_then h k) = omega (arith, operand_shorter h, chained_shorter k)

  pub expression_shorter : {d : ℕ} {e : Term} {ps qs : List Piece} → IsExpression d e ps qs → length qs < length ps
  expression_shorter (an_operand h n) = operand_shorter h
  expression_shorter (a_chain op h k) = omega (arith, operand_shorter h, chained_shorter k)
  expression_shorter (a_comparison c h k n) = omega (arith, operand_shorter h, operand_shorter k)

pub before_shorter : {s : Symbol} {e : Term} {ps qs : List Piece} → IsBefore s e ps qs → length qs < length ps
before_shorter (before h) = omega (arith, expression_shorter h)

pub binding_shorter : {b : List ℕ × Term} {ps qs : List Piece} → IsBinding b ps qs → length qs < length ps
binding_shorter (a_binding h) = omega (arith, before_shorter h)

simple_shorter : {k : Simple} {a : Act} {ps qs : List Piece} → IsSimple k a ps qs → length qs < length ps
simple_shorter (of_one h) = before_shorter h
simple_shorter (of_two h k) = omega (arith, before_shorter h, before_shorter k)
simple_shorter (a_let h) = binding_shorter h
simple_shorter (an_assumption h (a_display is)) = omega (arith, before_shorter h)
simple_shorter a_fail = omega arith

mutual
  pub statement_shorter : {d above : ℕ} {a : Act} {ps qs : List Piece} → IsStatement d above a ps qs → length qs < length ps
  statement_shorter (a_simple is h) = omega (arith, simple_shorter h)
  statement_shorter (an_assignment h) = binding_shorter h
  statement_shorter (an_if h k l) = omega (arith, expression_shorter h, body_shorter k, else_shorter l)
  statement_shorter (a_repeat h k) = omega (arith, expression_shorter h, body_shorter k)

  else_shorter : {d above : ℕ} {a : Acts} {ps qs : List Piece} → IsElse d above a ps qs → length qs ≤ length ps
  else_shorter (no_else none) = omega arith
  else_shorter (an_else h) = omega (arith, body_shorter h)

  pub statements_shorter : {d above : ℕ} {body : Acts} {ps qs : List Piece} → IsStatements d above body ps qs → length qs < length ps
  statements_shorter closed = omega arith
  statements_shorter (G.IsStatements.and_then h k) = omega (arith, statement_shorter h, statements_shorter k)

  pub body_shorter : {d above : ℕ} {body : Acts} {ps qs : List Piece} → IsBody d above body ps qs → length qs < length ps
  body_shorter (a_body h) = omega (arith, statements_shorter h)

pub block_shorter : {body : Acts} {ps qs : List Piece} → IsBlock body ps qs → length qs < length ps
block_shorter (a_block h) = body_shorter h
