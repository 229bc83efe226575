use Rattle.std.proofs.Common.{refl, List, [], ◌∷◌, codes}
use Rattle.std.specs.List.{IsDistinct}
use Rattle.iso_script_lexer.specs.Piece.{Piece, name_at, number_at, word_at, symbol_at}
use Rattle.iso_script_lexer.specs.Scan.{gap_from, front_of, pieces, pieces_of, symbol_front}
use Rattle.iso_script_lexer.specs.Spelling.{word_of}
use Rattle.iso_script_lexer.specs.declared.symbol.Symbol.TheVariants.{CloseBrace, Equals, OpenBrace, Semicolon}
use Rattle.iso_script_lexer.specs.declared.word.Word.TheVariants as W
use Rattle.iso_script.specs.Grammar.{has_members, closed, and_then}
use Rattle.iso_script_lexer.specs.Examples.{at}
use Rattle.iso_script.proofs.ExampleLemmas.{are_read, only_class, no_variables, some_member, alone, an_empty_test, a_plain_class, a_number_alone}
use Rattle.iso_script.proofs.examples.members_are_read.Goals as goal

abbrev members : List Piece
members =
    word_at (at 2 1) W.Class ∷ name_at (at 2 7) (codes "C") ∷ symbol_at (at 2 9) OpenBrace ∷ word_at (at 2 11) W.Test ∷ name_at (at 2 16) (codes "C") ∷ symbol_at (at 2 18) OpenBrace
    ∷ symbol_at (at 2 20) CloseBrace ∷ word_at (at 2 22) W.Class ∷ name_at (at 2 28) (codes "D") ∷ symbol_at (at 2 30) OpenBrace ∷ word_at (at 2 32) W.Field ∷ name_at (at 2 38) (codes "x")
    ∷ symbol_at (at 2 40) Equals ∷ number_at (at 2 42) 1 ∷ symbol_at (at 2 43) Semicolon ∷ word_at (at 2 45) W.Test ∷ name_at (at 2 50) (codes "C") ∷ symbol_at (at 2 52) OpenBrace
    ∷ symbol_at (at 2 54) CloseBrace ∷ symbol_at (at 2 56) CloseBrace ∷ word_at (at 3 1) W.Class ∷ name_at (at 3 7) (codes "E") ∷ symbol_at (at 3 9) OpenBrace ∷ word_at (at 3 11) W.Field
    ∷ name_at (at 3 17) (codes "x") ∷ symbol_at (at 3 19) Equals ∷ number_at (at 3 21) 1 ∷ symbol_at (at 3 22) Semicolon ∷ word_at (at 3 24) W.Test ∷ name_at (at 3 29) (codes "C")
    ∷ symbol_at (at 3 31) OpenBrace ∷ symbol_at (at 3 33) CloseBrace ∷ symbol_at (at 3 35) CloseBrace ∷ word_at (at 3 37) W.Test ∷ name_at (at 3 42) (codes "F") ∷ symbol_at (at 3 44) OpenBrace
    ∷ symbol_at (at 3 46) CloseBrace ∷ symbol_at (at 3 48) CloseBrace ∷ []

pub returns : goal.returns
unfolding pieces_of pieces gap_from front_of symbol_front word_of IsDistinct
returns c =
    are_read {ps = members} _ refl refl
    (only_class (a_plain_class (no_variables refl) refl
    (has_members
    (and_then an_empty_test
    (and_then (a_plain_class (a_number_alone refl refl refl) refl (alone an_empty_test))
    (and_then (a_plain_class (a_number_alone refl refl refl) refl (alone an_empty_test))
    (and_then an_empty_test
    closed))))
    some_member ((refl, (refl, (refl, tt))), ((refl, (refl, tt)), ((refl, tt), (tt, tt)))))))
