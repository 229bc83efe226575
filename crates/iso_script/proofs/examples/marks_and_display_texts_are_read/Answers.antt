use Rattle.std.proofs.Common.{List, [], ◌∷◌, Some, true, false, codes, refl}
use Rattle.iso_model.specs.Examples.Words.{for_children, reads, writes}
use Rattle.iso_model.specs.declared.script.Mode.TheVariants.{SameThread, Concurrent}
use Rattle.iso_script_lexer.specs.Piece.{Piece, name_at, text_at, word_at, symbol_at}
use Rattle.iso_script_lexer.specs.Scan.{gap_from, front_of, pieces, pieces_of, quoted_length, symbol_front}
use Rattle.iso_script_lexer.specs.Spelling.{word_of}
use Rattle.iso_script_lexer.specs.Text.{decoded}
use Rattle.iso_script_lexer.specs.declared.symbol.Symbol.TheVariants.{CloseBrace, OpenBrace}
use Rattle.iso_script_lexer.specs.declared.word.Word.TheVariants as W
use Rattle.iso_script_statements.specs.Statements.{a_display, closed, a_body, a_block}
use Rattle.iso_script.specs.Displays.{displayed}
use Rattle.iso_script.specs.Grammar.{as_test, a_test, as_class, a_class}
use Rattle.iso_script.specs.Marks.{a_key, of_children, of_itself, runs, isolates, disables, declares, a_mode, an_isolation, a_disabling, a_declaration, a_mark, Marks}
use Rattle.iso_script_lexer.specs.Examples.{at}
use Rattle.iso_script.proofs.ExampleLemmas.{are_read, only_class, none_declared, none_written, no_variables, no_blocks, alone}
use Rattle.iso_script.proofs.examples.marks_and_display_texts_are_read.Goals as goal

abbrev class_marks : Marks
class_marks =
    record {
      mode = Some Concurrent;
      isolated = true;
      disabled = Some (codes "not yet");
      keys = writes (codes "d") ∷ for_children (reads (codes "c")) ∷ reads (codes "d") ∷ for_children (writes (codes "c")) ∷ [];
    }

abbrev test_marks : Marks
test_marks = record { mode = Some SameThread; isolated = false; disabled = Some (codes "later"); keys = reads (codes "e") ∷ [] }

abbrev marks : List Piece
marks =
    word_at (at 2 1) W.Write ∷ text_at (at 2 7) (codes "d") ∷ word_at (at 2 11) W.Read ∷ word_at (at 2 16) W.Children ∷ text_at (at 2 25) (codes "c") ∷ word_at (at 2 29) W.Read
    ∷ text_at (at 2 34) (codes "d") ∷ word_at (at 2 38) W.Isolated ∷ word_at (at 2 47) W.Write ∷ word_at (at 2 53) W.Children ∷ text_at (at 2 62) (codes "c") ∷ word_at (at 2 66) W.Concurrent
    ∷ word_at (at 3 1) W.Disabled ∷ text_at (at 3 10) (codes "not yet") ∷ word_at (at 3 20) W.Class ∷ name_at (at 3 26) (codes "C") ∷ text_at (at 3 28) (codes "The class")
    ∷ symbol_at (at 3 40) OpenBrace ∷ word_at (at 4 3) W.Disabled ∷ text_at (at 4 12) (codes "later") ∷ word_at (at 4 20) W.SameThread ∷ word_at (at 4 32) W.Read
    ∷ text_at (at 4 37) (codes "e") ∷ word_at (at 4 41) W.Test ∷ name_at (at 4 46) (codes "t") ∷ text_at (at 4 48) (codes "The test") ∷ symbol_at (at 4 59) OpenBrace
    ∷ symbol_at (at 4 61) CloseBrace ∷ symbol_at (at 4 63) CloseBrace ∷ []

pub returns : goal.returns
unfolding pieces_of pieces gap_from front_of symbol_front quoted_length decoded word_of
returns c =
    are_read {ps = marks} _ refl refl
    (only_class (as_class {marks = class_marks}
    (record {
      written = declares (writes (codes "d")) ∷ declares (for_children (reads (codes "c"))) ∷ declares (reads (codes "d")) ∷ isolates
          ∷ declares (for_children (writes (codes "c"))) ∷ runs Concurrent ∷ disables (codes "not yet") ∷ [];
      read = (
        _,
        a_mark refl (a_declaration (of_itself refl) (a_key refl)),
        (
          _,
          a_mark refl (a_declaration of_children (a_key refl)),
          (
            _,
            a_mark refl (a_declaration (of_itself refl) (a_key refl)),
            (
              _,
              a_mark refl an_isolation,
              (
                _,
                a_mark refl (a_declaration of_children (a_key refl)),
                (
                  _,
                  a_mark refl a_mode,
                  (
                    _,
                    a_mark refl (a_disabling (a_display refl)),
                    refl,
                  ),
                ),
              ),
            ),
          ),
        ),
      );
      ends = refl;
      come = record { mode = refl; isolated = refl; disabled = refl; keys = refl };
    })
    (a_class {variables = none_declared} {blocks = none_written} (displayed (a_display refl)) (no_variables refl) (no_blocks refl)
    (alone (as_test {marks = test_marks}
    (record {
      written = disables (codes "later") ∷ runs SameThread ∷ declares (reads (codes "e")) ∷ [];
      read = (
        _,
        a_mark refl (a_disabling (a_display refl)),
        (
          _,
          a_mark refl a_mode,
          (
            _,
            a_mark refl (a_declaration (of_itself refl) (a_key refl)),
            refl,
          ),
        ),
      );
      ends = refl;
      come = record { mode = refl; isolated = refl; disabled = refl; keys = refl };
    }) refl (a_test (displayed (a_display refl)) (a_block (a_body closed))))))))
