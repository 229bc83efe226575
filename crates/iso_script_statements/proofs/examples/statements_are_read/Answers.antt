use Rattle.std.proofs.Common.{◌∷◌, [], refl, arith}
use Rattle.iso_script_lexer.specs.Scan.{gap_from, front_of, pieces, pieces_of, quoted_length, symbol_front}
use Rattle.iso_script_lexer.specs.Spelling.{word_of}
use Rattle.iso_script_lexer.specs.Text.{decoded}
use Rattle.iso_script_lexer.proofs.Pieces.{pieces_of-HasPieces}
use Rattle.iso_script_statements.specs.Examples.{text_of}
use Rattle.iso_script_statements.specs.Expressions.{a_number, a_true, a_literal, a_name}
use Rattle.iso_script_statements.specs.Statements.{a_display, a_binding, of_one, of_two, a_let, an_assumption, a_fail, a_simple, an_assignment, closed, a_body, a_block}
use Rattle.iso_script_statements.proofs.ExampleLemmas.{alone, on_row}
use Rattle.iso_script_statements.proofs.examples.statements_are_read.Goals as goal

pub returns-clause-let_name : goal.returns-clause-let_name
unfolding pieces_of pieces gap_from front_of symbol_front quoted_length decoded word_of
returns-clause-let_name c = (
  _,
  pieces_of-HasPieces _ (text_of ("{ let x = 1; }" ∷ [])),
  a_block
      (a_body (on_row refl (a_simple refl (a_let (a_binding (alone (a_literal (a_number (omega arith))) refl)))) closed)),
)

pub returns-clause-assign : goal.returns-clause-assign
unfolding pieces_of pieces gap_from front_of symbol_front quoted_length decoded word_of
returns-clause-assign c = (_, pieces_of-HasPieces _ (text_of ("{ x = y; }" ∷ [])), a_block (a_body (on_row refl (an_assignment (a_binding (alone a_name refl))) closed)))

pub returns-clause-print : goal.returns-clause-print
unfolding pieces_of pieces gap_from front_of symbol_front quoted_length decoded word_of
returns-clause-print c = (_, pieces_of-HasPieces _ (text_of ("{ print 1; }" ∷ [])), a_block (a_body (on_row refl (a_simple refl (of_one (alone (a_literal (a_number (omega arith))) refl))) closed)))

pub returns-clause-assert : goal.returns-clause-assert
unfolding pieces_of pieces gap_from front_of symbol_front quoted_length decoded word_of
returns-clause-assert c = (_, pieces_of-HasPieces _ (text_of ("{ assert true; }" ∷ [])), a_block (a_body (on_row refl (a_simple refl (of_one (alone (a_literal a_true) refl))) closed)))

pub returns-clause-assert_equal : goal.returns-clause-assert_equal
unfolding pieces_of pieces gap_from front_of symbol_front quoted_length decoded word_of
returns-clause-assert_equal c = (
  _,
  pieces_of-HasPieces _ (text_of ("{ assert_equal 1, x; }" ∷ [])),
  a_block
      (a_body (on_row refl (a_simple refl (of_two (alone (a_literal (a_number (omega arith))) refl) (alone a_name refl))) closed)),
)

pub returns-clause-assume : goal.returns-clause-assume
unfolding pieces_of pieces gap_from front_of symbol_front quoted_length decoded word_of
returns-clause-assume c = (
  _,
  pieces_of-HasPieces _ (text_of ("{ assume x, \"not now\"; }" ∷ [])),
  a_block
      (a_body (on_row refl (a_simple refl (an_assumption (alone a_name refl) (a_display refl))) closed)),
)

pub returns-clause-fail : goal.returns-clause-fail
unfolding pieces_of pieces gap_from front_of symbol_front quoted_length decoded word_of
returns-clause-fail c = (_, pieces_of-HasPieces _ (text_of ("{ fail \" \"; }" ∷ [])), a_block (a_body (on_row refl (a_simple refl a_fail) closed)))

pub returns-clause-set_prop : goal.returns-clause-set_prop
unfolding pieces_of pieces gap_from front_of symbol_front quoted_length decoded word_of
returns-clause-set_prop c = (_, pieces_of-HasPieces _ (text_of ("{ set_prop x, y; }" ∷ [])), a_block (a_body (on_row refl (a_simple refl (of_two (alone a_name refl) (alone a_name refl))) closed)))

pub returns-clause-clear_prop : goal.returns-clause-clear_prop
unfolding pieces_of pieces gap_from front_of symbol_front quoted_length decoded word_of
returns-clause-clear_prop c = (_, pieces_of-HasPieces _ (text_of ("{ clear_prop x; }" ∷ [])), a_block (a_body (on_row refl (a_simple refl (of_one (alone a_name refl))) closed)))

pub returns-clause-set_locale : goal.returns-clause-set_locale
unfolding pieces_of pieces gap_from front_of symbol_front quoted_length decoded word_of
returns-clause-set_locale c = (_, pieces_of-HasPieces _ (text_of ("{ set_locale x; }" ∷ [])), a_block (a_body (on_row refl (a_simple refl (of_one (alone a_name refl))) closed)))

pub returns-clause-write_file : goal.returns-clause-write_file
unfolding pieces_of pieces gap_from front_of symbol_front quoted_length decoded word_of
returns-clause-write_file c = (_, pieces_of-HasPieces _ (text_of ("{ write_file x, y; }" ∷ [])), a_block (a_body (on_row refl (a_simple refl (of_two (alone a_name refl) (alone a_name refl))) closed)))

pub returns-clause-append_file : goal.returns-clause-append_file
unfolding pieces_of pieces gap_from front_of symbol_front quoted_length decoded word_of
returns-clause-append_file c = (
  _,
  pieces_of-HasPieces _ (text_of ("{ append_file x, y; }" ∷ [])),
  a_block
      (a_body (on_row refl (a_simple refl (of_two (alone a_name refl) (alone a_name refl))) closed)),
)

pub returns-clause-delete_file : goal.returns-clause-delete_file
unfolding pieces_of pieces gap_from front_of symbol_front quoted_length decoded word_of
returns-clause-delete_file c = (_, pieces_of-HasPieces _ (text_of ("{ delete_file x; }" ∷ [])), a_block (a_body (on_row refl (a_simple refl (of_one (alone a_name refl))) closed)))
