use Rattle.std.proofs.Common.{refl, List, [], ◌∷◌, codes}
use Rattle.iso_script_lexer.specs.Piece.{Piece, name_at, number_at, word_at, symbol_at}
use Rattle.iso_script_lexer.specs.Scan.{gap_from, front_of, pieces, pieces_of, symbol_front}
use Rattle.iso_script_lexer.specs.Spelling.{word_of}
use Rattle.iso_script_lexer.specs.declared.symbol.Symbol.TheVariants.{CloseBrace, Equals, OpenBrace, Semicolon}
use Rattle.iso_script_lexer.specs.declared.word.Word.TheVariants as W
use Rattle.iso_script_statements.specs.Expressions.{a_name}
use Rattle.iso_script_statements.specs.Statements.{of_one, a_simple, closed, a_body, a_block}
use Rattle.iso_script_statements.proofs.ExampleLemmas as S
use Rattle.iso_script_lexer.specs.Examples.{at}
use Rattle.iso_script.proofs.ExampleLemmas.{are_read, only_class, alone, a_plain_test, a_plain_class, a_number_alone}
use Rattle.iso_script.proofs.examples.comments_and_line_ends_are_left_out.Goals as goal

abbrev commented : List Piece
commented =
    word_at (at 3 1) W.Class ∷ name_at (at 3 7) (codes "C") ∷ symbol_at (at 3 9) OpenBrace ∷ word_at (at 4 2) W.Static ∷ name_at (at 4 9) (codes "n") ∷ symbol_at (at 4 11) Equals
    ∷ number_at (at 4 13) 1 ∷ symbol_at (at 4 14) Semicolon ∷ word_at (at 5 2) W.Test ∷ name_at (at 5 7) (codes "t") ∷ symbol_at (at 5 9) OpenBrace ∷ word_at (at 6 3) W.Print
    ∷ name_at (at 6 9) (codes "n") ∷ symbol_at (at 6 10) Semicolon ∷ symbol_at (at 7 1) CloseBrace ∷ symbol_at (at 7 3) CloseBrace ∷ []

pub returns : goal.returns
unfolding pieces_of pieces gap_from front_of symbol_front word_of
returns c =
    are_read {ps = commented} _ refl refl
    (only_class (a_plain_class (a_number_alone refl refl refl) refl
    (alone (a_plain_test (a_block (a_body (S.on_row refl (a_simple refl (of_one (S.alone a_name refl))) closed)))))))
