use Rattle.std.proofs.Common.{◌∷◌, [], refl, arith}
use Rattle.iso_script_lexer.specs.Scan.{gap_from, front_of, pieces, pieces_of, quoted_length, symbol_front}
use Rattle.iso_script_lexer.specs.Spelling.{word_of}
use Rattle.iso_script_lexer.specs.Text.{decoded}
use Rattle.iso_script_lexer.proofs.Pieces.{pieces_of-HasPieces}
use Rattle.iso_script_statements.specs.Examples.{text_of, rows_text}
use Rattle.iso_script_statements.specs.Expressions.{a_number, a_literal, a_name, an_operand}
use Rattle.iso_script_statements.specs.Statements.{of_one, a_fail, a_simple, an_if, a_repeat, no_else, an_else, closed, a_body, a_block}
use Rattle.iso_script_statements.proofs.ExampleLemmas.{alone, on_row}
use Rattle.iso_script_statements.proofs.examples.bodies_are_read.Goals as goal

pub returns-clause-none : goal.returns-clause-none
unfolding pieces_of pieces gap_from front_of symbol_front quoted_length decoded word_of
returns-clause-none c = (_, pieces_of-HasPieces _ (text_of ("{ }" ∷ [])), a_block (a_body closed))

pub returns-clause-inner_else : goal.returns-clause-inner_else
unfolding pieces_of pieces gap_from front_of symbol_front quoted_length decoded word_of
returns-clause-inner_else c = (
  _,
  pieces_of-HasPieces _ (text_of ("{ if x { if y { } else { fail \"\"; } } }" ∷ [])),
  a_block
      (a_body (on_row refl (an_if (an_operand a_name refl)
      (a_body (on_row refl (an_if (an_operand a_name refl) (a_body closed) (an_else (a_body (on_row refl (a_simple refl a_fail) closed)))) closed)) (no_else refl)) closed)),
)

pub returns-clause-outer_else : goal.returns-clause-outer_else
unfolding pieces_of pieces gap_from front_of symbol_front quoted_length decoded word_of
returns-clause-outer_else c = (
  _,
  pieces_of-HasPieces _ (text_of ("{ if x { if y { fail \"\"; } } else { print z; } }" ∷ [])),
  a_block
      (a_body (on_row refl (an_if (an_operand a_name refl) (a_body (on_row refl (an_if (an_operand a_name refl) (a_body (on_row refl (a_simple refl a_fail) closed)) (no_else refl)) closed))
      (an_else (a_body (on_row refl (a_simple refl (of_one (alone a_name refl))) closed)))) closed)),
)

pub returns-clause-turns : goal.returns-clause-turns
unfolding pieces_of pieces gap_from front_of symbol_front quoted_length decoded word_of
returns-clause-turns c = (
  _,
  pieces_of-HasPieces _ (text_of ("{ repeat x { repeat y { } } }" ∷ [])),
  a_block
      (a_body (on_row refl (a_repeat (an_operand a_name refl) (a_body (on_row refl (a_repeat (an_operand a_name refl) (a_body closed)) closed))) closed)),
)

pub returns-clause-rows : goal.returns-clause-rows
unfolding pieces_of pieces gap_from front_of symbol_front quoted_length decoded word_of
returns-clause-rows c = (
  _,
  pieces_of-HasPieces _ (text_of rows_text),
  a_block (a_body
      (on_row refl (a_simple refl (of_one (alone (a_literal (a_number (omega arith))) refl)))
      (on_row refl (a_simple refl (of_one (alone (a_literal (a_number (omega arith))) refl)))
      (on_row refl (a_repeat (an_operand (a_literal (a_number (omega arith))) refl) (a_body (on_row refl (a_simple refl a_fail) closed)))
      closed)))),
)
