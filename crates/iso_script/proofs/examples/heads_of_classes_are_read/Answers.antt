use Rattle.std.proofs.Common.{List, [], ◌∷◌, codes, refl, negsuc, arith}
use Rattle.std.specs.List.{IsDistinct}
use Rattle.iso_model.specs.Examples.Words.{variable}
use Rattle.iso_model.specs.declared.data.Data.TheVariants.{Text, Whole}
use Rattle.iso_model.specs.declared.place.Lifecycle.TheVariants.{BeforeAll, AfterAll, BeforeEach, AfterEach}
use Rattle.iso_script_lexer.specs.Piece.{Piece, name_at, number_at, text_at, word_at, symbol_at}
use Rattle.iso_script_lexer.specs.Scan.{gap_from, front_of, pieces, pieces_of, quoted_length, symbol_front}
use Rattle.iso_script_lexer.specs.Spelling.{word_of}
use Rattle.iso_script_lexer.specs.Text.{decoded}
use Rattle.iso_script_lexer.specs.declared.symbol.Symbol.TheVariants.{CloseBrace, Equals, Minus, OpenBrace, Semicolon}
use Rattle.iso_script_lexer.specs.declared.word.Word.TheVariants as W
use Rattle.iso_script_statements.specs.Expressions.{a_number, a_negative, a_text}
use Rattle.iso_script.specs.Blocks.{Block, Blocks, a_block}
use Rattle.iso_script.specs.Displays.{none_displayed}
use Rattle.iso_script.specs.Examples.{variable_of, with_blocks, with_variables}
use Rattle.iso_script.specs.Grammar.{as_class, a_class}
use Rattle.iso_script.specs.Variables.{Variables, a_variable}
use Rattle.iso_script.specs.declared.variable.VariableWord.TheVariants.{Static, Field}
use Rattle.iso_script_lexer.specs.Examples.{at}
use Rattle.iso_script.proofs.ExampleLemmas.{are_read, only_class, none_declared, no_marks, no_variables, alone, an_empty_test, a_plain_class, fails, each_block, written, each_written}
use Rattle.iso_script.proofs.examples.heads_of_classes_are_read.Goals as goal

abbrev head_variables : Variables
head_variables = record { statics = with_variables.statics; fields = with_variables.fields }

abbrev variables : List Piece
variables =
    word_at (at 2 1) W.Class ∷ name_at (at 2 7) (codes "C") ∷ symbol_at (at 2 9) OpenBrace ∷ word_at (at 2 11) W.Static ∷ name_at (at 2 18) (codes "a") ∷ symbol_at (at 2 20) Equals
    ∷ number_at (at 2 22) 7 ∷ symbol_at (at 2 23) Semicolon ∷ word_at (at 2 25) W.Field ∷ name_at (at 2 31) (codes "b") ∷ symbol_at (at 2 33) Equals ∷ symbol_at (at 2 35) Minus ∷ number_at (at 2 36) 1
    ∷ symbol_at (at 2 37) Semicolon ∷ word_at (at 2 39) W.Static ∷ name_at (at 2 46) (codes "c") ∷ symbol_at (at 2 48) Equals ∷ text_at (at 2 50) (codes "x") ∷ symbol_at (at 2 53) Semicolon
    ∷ word_at (at 2 55) W.Test ∷ name_at (at 2 60) (codes "t") ∷ symbol_at (at 2 62) OpenBrace ∷ symbol_at (at 2 64) CloseBrace ∷ symbol_at (at 2 66) CloseBrace ∷ []

pub returns-clause-variables : goal.returns-clause-variables
unfolding pieces_of pieces gap_from front_of symbol_front quoted_length decoded word_of IsDistinct
returns-clause-variables c =
    are_read {ps = variables} _ refl refl
    (only_class (a_plain_class {variables = head_variables}
    (record {
      written = record { word = Static; variable = variable "a" 7 } ∷ record { word = Field; variable = variable_of "b" (Whole (negsuc 0)) }
          ∷ record { word = Static; variable = variable_of "c" (Text (codes "x")) } ∷ [];
      read = (_, a_variable refl (a_number (omega arith)), (_, a_variable refl (a_negative (omega arith)), (_, a_variable refl a_text, refl)));
      ends = refl;
      distinct = ((refl, (refl, tt)), ((refl, tt), (tt, tt)));
      free = (refl, (refl, (refl, tt)));
      statics = refl;
      fields = refl;
    })
    refl (alone an_empty_test)))

abbrev before_all : Block
before_all = record { line = 3; body = with_blocks.before_all }

abbrev after_all : Block
after_all = record { line = 3; body = with_blocks.after_all }

abbrev before_each : Block
before_each = record { line = 5; body = with_blocks.before_each }

abbrev after_each : Block
after_each = record { line = 2; body = with_blocks.after_each }

abbrev head_blocks : Blocks
head_blocks = each_block before_all after_all before_each after_each

abbrev blocks : List Piece
blocks =
    word_at (at 2 1) W.Class ∷ name_at (at 2 7) (codes "C") ∷ symbol_at (at 2 9) OpenBrace ∷ word_at (at 2 11) W.AfterEach ∷ symbol_at (at 2 22) OpenBrace ∷ word_at (at 3 1) W.Fail
    ∷ text_at (at 3 6) (codes "a") ∷ symbol_at (at 3 9) Semicolon ∷ symbol_at (at 3 11) CloseBrace ∷ word_at (at 3 13) W.BeforeAll ∷ symbol_at (at 3 24) OpenBrace ∷ word_at (at 3 26) W.Fail
    ∷ text_at (at 3 31) (codes "b") ∷ symbol_at (at 3 34) Semicolon ∷ symbol_at (at 3 36) CloseBrace ∷ word_at (at 3 38) W.AfterAll ∷ symbol_at (at 3 48) OpenBrace ∷ word_at (at 5 1) W.Fail
    ∷ text_at (at 5 6) (codes "c") ∷ symbol_at (at 5 9) Semicolon ∷ symbol_at (at 5 11) CloseBrace ∷ word_at (at 5 13) W.BeforeEach ∷ symbol_at (at 5 25) OpenBrace ∷ word_at (at 5 27) W.Fail
    ∷ text_at (at 5 32) (codes "d") ∷ symbol_at (at 5 35) Semicolon ∷ symbol_at (at 5 37) CloseBrace ∷ word_at (at 5 39) W.Test ∷ name_at (at 5 44) (codes "t") ∷ symbol_at (at 5 46) OpenBrace
    ∷ symbol_at (at 5 48) CloseBrace ∷ symbol_at (at 5 50) CloseBrace ∷ []

pub returns-clause-blocks : goal.returns-clause-blocks
unfolding pieces_of pieces gap_from front_of symbol_front quoted_length decoded word_of
returns-clause-blocks c =
    are_read {ps = blocks} _ refl refl
    (only_class (as_class (no_marks refl)
    (a_class {variables = none_declared} {blocks = head_blocks} (none_displayed refl) (no_variables refl)
    (record {
      written = written AfterEach after_each ∷ written BeforeAll before_all ∷ written AfterAll after_all ∷ written BeforeEach before_each ∷ [];
      read = (_, a_block refl fails, (_, a_block refl fails, (_, a_block refl fails, (_, a_block refl fails, refl))));
      ends = refl;
      each = each_written before_all after_all before_each after_each;
    })
    (alone an_empty_test))))
