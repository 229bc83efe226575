use Rattle.std.proofs.Common.{refl, List, [], ◌∷◌, codes}
use Rattle.iso_script_lexer.specs.Piece.{Piece, name_at, word_at, symbol_at}
use Rattle.iso_script_lexer.specs.Scan.{gap_from, front_of, pieces, pieces_of, symbol_front}
use Rattle.iso_script_lexer.specs.Spelling.{word_of}
use Rattle.iso_script_lexer.specs.declared.symbol.Symbol.TheVariants.{CloseBrace, OpenBrace}
use Rattle.iso_script_lexer.specs.declared.word.Word.TheVariants as W
use Rattle.iso_script_lexer.specs.Examples.{at}
use Rattle.iso_script.proofs.ExampleLemmas.{are_read, two_classes, no_variables, alone, an_empty_test, a_plain_class}
use Rattle.iso_script.proofs.examples.teams_have_classes.Goals as goal

pub returns-clause-none : goal.returns-clause-none
unfolding pieces_of pieces gap_from front_of symbol_front word_of
returns-clause-none c = are_read [] refl refl (refl, refl)

abbrev two : List Piece
two =
    word_at (at 2 1) W.Class ∷ name_at (at 2 7) (codes "C") ∷ symbol_at (at 2 9) OpenBrace ∷ word_at (at 2 11) W.Test ∷ name_at (at 2 16) (codes "t") ∷ symbol_at (at 2 18) OpenBrace
    ∷ symbol_at (at 2 20) CloseBrace ∷ symbol_at (at 2 22) CloseBrace ∷ word_at (at 2 24) W.Class ∷ name_at (at 2 30) (codes "C") ∷ symbol_at (at 2 32) OpenBrace ∷ word_at (at 2 34) W.Test
    ∷ name_at (at 2 39) (codes "t") ∷ symbol_at (at 2 41) OpenBrace ∷ symbol_at (at 2 43) CloseBrace ∷ symbol_at (at 2 45) CloseBrace ∷ []

pub returns-clause-two : goal.returns-clause-two
unfolding pieces_of pieces gap_from front_of symbol_front word_of
returns-clause-two c =
    are_read {ps = two} _ refl refl
    (two_classes (a_plain_class (no_variables refl) refl (alone an_empty_test)) (a_plain_class (no_variables refl) refl (alone an_empty_test)))
