-- What is wanted in a class, and before and after its members.
--
-- what is wanted in a class: After marks, lifecycle blocks, a display text and the word of an
-- access, by whether these are written (`after_marks`, `after_blocks`, `after_display`,
-- `after_target`); where a member is, that none of it is next unless a member is (`IsPlace`).
use Rattle.std.specs.Prelude.{ℕ, List, [], ◌∷◌, ◌≡◌, Bool, true, false, not, ◌&&◌, Option, Some, None, is_some, if◌then◌else◌}
use Rattle.iso_model.specs.declared.heads.Mark.{Mark}
use Rattle.iso_model.specs.declared.heads.Target.{Target}
use Rattle.iso_model.specs.declared.heads.Target.TheVariants.{Itself, Children}
use Rattle.iso_model.specs.declared.place.Lifecycle.TheVariants.{BeforeAll, AfterAll, BeforeEach, AfterEach}
use Rattle.iso_script.specs.Blocks.{Blocks}
use Rattle.iso_script.specs.Marks.{Marks, fits_test, mark_next}
use Rattle.iso_script_lexer.specs.Piece.{Piece}
use Rattle.iso_script_lexer.specs.Tokens.{after_word}
use Rattle.iso_script_lexer.specs.declared.symbol.Symbol.TheVariants.{OpenBrace}
use Rattle.iso_script_lexer.specs.declared.word.Word.TheVariants as W
use Rattle.iso_script_statements.specs.Wanted.{IsUnmet}
use Rattle.iso_script_statements.specs.declared.wanted.Wanted.{Wanted}
use Rattle.iso_script_statements.specs.declared.wanted.Wanted.TheVariants as V

abbrev pub no_mark : List Mark → Bool
no_mark [] = true
no_mark (m ∷ ms) = false

-- no mark is written
abbrev pub is_unmarked : Marks → Bool
is_unmarked marks = not (is_some marks.mode)
    && (not marks.isolated && (not (is_some marks.disabled) && no_mark marks.keys))

-- what is wanted after marks where no member is next, and where no top-level class is
abbrev pub after_marks : Marks → (place : Wanted) → Wanted
after_marks marks place =
    if is_unmarked marks then place
    else if fits_test marks then V.MarkedMember
    else V.MarkedClass

abbrev pub after_class_marks : Marks → Wanted
after_class_marks marks = if is_unmarked marks then V.TopClass else V.MarkedClass

-- no lifecycle block is written
abbrev pub are_none : Blocks → Bool
are_none blocks =
    not (is_some (blocks BeforeAll)) && (not (is_some (blocks AfterAll))
    && (not (is_some (blocks BeforeEach)) && not (is_some (blocks AfterEach))))

-- what is wanted after lifecycle blocks, where no member is next
abbrev pub after_blocks : Blocks → Wanted
after_blocks blocks = if are_none blocks then V.ClassPart else V.BlockOrMember

-- what is wanted after a display text, or none, where the brace is not next
abbrev pub after_display : Option (List ℕ) → Wanted
after_display (Some text) = V.Symbol OpenBrace
after_display None = V.Display

-- what is wanted after what a key is declared for, where no key is next
abbrev pub after_target : Target → Wanted
after_target Itself = V.Target
after_target Children = V.Key

-- This is wanted where a member is, if none is next.
abbrev pub IsPlace : Wanted → List Piece → Type 0
IsPlace place ps = mark_next ps ≡ None → after_word W.Test ps ≡ None → after_word W.Class ps ≡ None
    → IsUnmet place ps
