use Rattle.std.proofs.Common.{codes, refl, arith}
use Rattle.iso_script_lexer.specs.Scan.{gap_from, front_of, pieces, pieces_of, quoted_length, symbol_front}
use Rattle.iso_script_lexer.specs.Spelling.{word_of}
use Rattle.iso_script_lexer.specs.Text.{decoded}
use Rattle.iso_script_lexer.proofs.Pieces.{pieces_of-HasPieces}
use Rattle.iso_script_statements.specs.Expressions.{a_number, a_negative, a_text, a_true, a_false, no_argument, a_literal, a_name, in_parentheses, a_call, the_locale, enclosed, chained, and_then, an_operand, a_chain, a_comparison}
use Rattle.iso_script_statements.proofs.examples.expressions_are_read.Goals as goal

pub returns-clause-chains : goal.returns-clause-chains
unfolding pieces_of pieces gap_from front_of symbol_front quoted_length decoded word_of
returns-clause-chains c = (
  _,
  pieces_of-HasPieces _ (codes "(1 - 2 - -3) * (x + 004 + y)"),
  a_chain refl
      (in_parentheses (enclosed (a_chain refl (a_literal (a_number (omega arith))) (and_then (a_literal (a_number (omega arith))) (and_then (a_literal (a_negative (omega arith))) (chained refl))))))
      (and_then (in_parentheses (enclosed (a_chain refl a_name (and_then (a_literal (a_number (omega arith))) (and_then a_name (chained refl)))))) (chained refl)),
)

pub returns-clause-texts : goal.returns-clause-texts
unfolding pieces_of pieces gap_from front_of symbol_front quoted_length decoded word_of
returns-clause-texts c = (
  _,
  pieces_of-HasPieces _ (codes "text(len(prop(file(\"a\")))) ++ locale() ++ \"b\""),
  a_chain refl
      (a_call refl (enclosed (an_operand (a_call refl (enclosed (an_operand (a_call refl (enclosed (an_operand (a_call refl (enclosed (an_operand (a_literal a_text) refl))) refl))) refl))) refl)))
      (and_then (the_locale no_argument) (and_then (a_literal a_text) (chained refl))),
)

pub returns-clause-comparisons : goal.returns-clause-comparisons
unfolding pieces_of pieces gap_from front_of symbol_front quoted_length decoded word_of
returns-clause-comparisons c = (
  _,
  pieces_of-HasPieces _ (codes "(has_prop(\"a\") == has_file(\"b\")) != (true == (false == (1 < 2)))"),
  a_comparison refl
      (in_parentheses (enclosed (a_comparison refl (a_call refl (enclosed (an_operand (a_literal a_text) refl))) (a_call refl (enclosed (an_operand (a_literal a_text) refl))) refl)))
      (in_parentheses (enclosed (a_comparison refl (a_literal a_true)
      (in_parentheses (enclosed (a_comparison refl (a_literal a_false)
      (in_parentheses (enclosed (a_comparison refl (a_literal (a_number (omega arith))) (a_literal (a_number (omega arith))) refl))) refl))) refl)))
      refl,
)

pub returns-clause-numbers : goal.returns-clause-numbers
unfolding pieces_of pieces gap_from front_of symbol_front quoted_length decoded word_of
returns-clause-numbers c = (
  _,
  pieces_of-HasPieces _ (codes "9223372036854775807 - -9223372036854775808"),
  a_chain refl (a_literal (a_number (omega arith))) (and_then (a_literal (a_negative (omega arith))) (chained refl)),
)
