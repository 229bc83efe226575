use Rattle.std.proofs.Common.{◌≡◌, ℕ, List, [], ◌∷◌, Some, None, codes, refl}
use Rattle.std.specs.List.{IsDistinct, filter_map}
use Rattle.std.specs.Option.{option_to_list}
use Rattle.iso_model.specs.Syntax.{no_acts}
use Rattle.iso_model.specs.declared.place.Lifecycle.{Lifecycle}
use Rattle.iso_model.specs.declared.place.Lifecycle.TheVariants.{BeforeAll, AfterAll, BeforeEach, AfterEach}
use Rattle.iso_model.specs.Examples.Words.{fail}
use Rattle.iso_script_lexer.specs.Piece.{Piece, name_at, text_at, word_at, symbol_at}
use Rattle.iso_script_lexer.specs.Scan.{gap_from, front_of, pieces, pieces_of, quoted_length, symbol_front}
use Rattle.iso_script_lexer.specs.Spelling.{word_of}
use Rattle.iso_script_lexer.specs.Text.{decoded}
use Rattle.iso_script_lexer.specs.declared.symbol.Symbol.TheVariants.{CloseBrace, OpenBrace, Semicolon}
use Rattle.iso_script_lexer.specs.declared.word.Word.TheVariants as W
use Rattle.iso_script_lexer.specs.Examples.{at}
use Rattle.iso_script_statements.specs.Examples.{on}
use Rattle.iso_script_statements.specs.Statements.{a_display, closed, a_body}
use Rattle.iso_script_statements.specs.Statements as S
use Rattle.iso_script.specs.Blocks.{Block, Blocks, block_in, a_block}
use Rattle.iso_script.specs.Displays.{none_displayed, displayed}
use Rattle.iso_script.specs.Grammar.{as_test, a_test, as_class, a_class, has_members, closed as no_member, and_then}
use Rattle.iso_script.proofs.ExampleLemmas.{are_placed, only_class, none_declared, no_marks, no_variables, some_member, alone, an_empty_test, fails, written}
use Rattle.iso_script.proofs.examples.nodes_stand_where_their_names_do.Goals as goal

abbrev placed : List Piece
placed =
    word_at (at 2 1) W.Class ∷ name_at (at 2 7) (codes "C") ∷ symbol_at (at 2 9) OpenBrace ∷ word_at (at 3 1) W.BeforeAll ∷ symbol_at (at 4 1) OpenBrace ∷ word_at (at 5 1) W.Fail
    ∷ text_at (at 5 6) (codes "a") ∷ symbol_at (at 5 9) Semicolon ∷ symbol_at (at 5 11) CloseBrace ∷ word_at (at 5 13) W.AfterEach ∷ symbol_at (at 5 24) OpenBrace
    ∷ symbol_at (at 5 26) CloseBrace ∷ word_at (at 6 1) W.Test ∷ name_at (at 6 6) (codes "t") ∷ text_at (at 6 8) (codes "The test") ∷ symbol_at (at 7 3) OpenBrace
    ∷ symbol_at (at 7 5) CloseBrace ∷ word_at (at 7 7) W.Class ∷ name_at (at 7 13) (codes "D") ∷ symbol_at (at 7 15) OpenBrace ∷ word_at (at 7 17) W.BeforeEach
    ∷ symbol_at (at 7 29) OpenBrace ∷ symbol_at (at 8 1) CloseBrace ∷ word_at (at 8 3) W.Test ∷ name_at (at 8 8) (codes "t") ∷ symbol_at (at 8 10) OpenBrace
    ∷ symbol_at (at 8 12) CloseBrace ∷ symbol_at (at 8 14) CloseBrace ∷ word_at (at 9 1) W.Test ∷ name_at (at 9 6) (codes "u") ∷ symbol_at (at 9 8) OpenBrace
    ∷ symbol_at (at 9 10) CloseBrace ∷ symbol_at (at 9 12) CloseBrace ∷ []

abbrev before_all : Block
before_all = record { line = 4; body = on 2 (fail "a") }

abbrev empty_on : (line : ℕ) → Block
empty_on line = record { line = line; body = no_acts }

abbrev outer : Blocks
outer BeforeAll = Some before_all
outer AfterEach = Some (empty_on 5)
outer _ = None

abbrev inner : Blocks
inner BeforeEach = Some (empty_on 7)
inner _ = None

outer_each : (k : Lifecycle) → filter_map (block_in k) (written BeforeAll before_all ∷ written AfterEach (empty_on 5) ∷ []) ≡ option_to_list (outer k)
outer_each BeforeAll = refl
outer_each AfterAll = refl
outer_each BeforeEach = refl
outer_each AfterEach = refl

inner_each : (k : Lifecycle) → filter_map (block_in k) (written BeforeEach (empty_on 7) ∷ []) ≡ option_to_list (inner k)
inner_each BeforeAll = refl
inner_each AfterAll = refl
inner_each BeforeEach = refl
inner_each AfterEach = refl

pub returns : goal.returns
unfolding pieces_of pieces gap_from front_of symbol_front quoted_length decoded word_of IsDistinct
returns c =
    are_placed {ps = placed} _ refl refl
    (only_class (as_class (no_marks refl)
    (a_class {variables = none_declared} {blocks = outer} (none_displayed refl) (no_variables refl)
    (record {
      written = written BeforeAll before_all ∷ written AfterEach (empty_on 5) ∷ [];
      read = (_, a_block refl fails, (_, a_block refl (S.a_block (a_body closed)), refl));
      ends = refl;
      each = outer_each;
    })
    (has_members
    (and_then (as_test (no_marks refl) refl (a_test (displayed (a_display refl)) (S.a_block (a_body closed))))
    (and_then (as_class (no_marks refl)
    (a_class {variables = none_declared} {blocks = inner} (none_displayed refl) (no_variables refl)
    (record {
      written = written BeforeEach (empty_on 7) ∷ [];
      read = (_, a_block refl (S.a_block (a_body closed)), refl);
      ends = refl;
      each = inner_each;
    })
    (alone an_empty_test)))
    (and_then an_empty_test
    no_member)))
    some_member ((refl, (refl, tt)), ((refl, tt), (tt, tt)))))))
