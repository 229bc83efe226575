-- Which reserved word was meant by a name.
use Rattle.std.specs.Prelude.{ℕ, List, [], ◌∷◌, Option, Some, None, cond, map, slice_get}
use Rattle.iso_hints.specs.Nearest.{near_words}
use Rattle.iso_hints.specs.Places.{PlaceView, name_of}
use Rattle.iso_script.specs.declared.explain.Explained.{Explained}
use Rattle.iso_script_lexer.specs.Spelling.{spelling}
use Rattle.iso_script_lexer.specs.declared.symbol.Symbol.TheVariants.{Equals}
use Rattle.iso_script_lexer.specs.declared.token.Token.{Token}
use Rattle.iso_script_lexer.specs.declared.token.Token.TheVariants as T
use Rattle.iso_script_lexer.specs.declared.word.Word.{Word}
use Rattle.iso_script_lexer.specs.declared.word.Word.TheVariants.{Class, Test, SameThread, Concurrent, Isolated, Read, Write, Static, Field, BeforeAll, AfterAll, BeforeEach, AfterEach, Let, Print, Assert, AssertEqual, Assume, Fail, If, Else, Repeat, SetProp, ClearProp, SetLocale, WriteFile, AppendFile, DeleteFile, True, False, Children, Disabled}
use Rattle.iso_script_statements.specs.declared.fault.ScriptFault.{ScriptFault}
use Rattle.iso_script_statements.specs.declared.reason.Reason.{Reason}
use Rattle.iso_script_statements.specs.declared.reason.Reason.TheVariants as R
use Rattle.iso_script_statements.specs.declared.wanted.Wanted.{Wanted}
use Rattle.iso_script_statements.specs.declared.unmet.Unmet.{Unmet}
use Rattle.iso_script_statements.specs.declared.wanted.Wanted.TheVariants as W
use Rattle.iso_explain.specs.Spots.{place_at_fault}
use Rattle.iso_explain.specs.Wants.{is_symbol, symbol_wanted}

-- the words that begin a top-level class, a member, a lifecycle block or a member, and any part
-- of a class
abbrev pub class_words : List Word
class_words = Class ∷ SameThread ∷ Concurrent ∷ Isolated ∷ Disabled ∷ Read ∷ Write ∷ []

abbrev pub member_words : List Word
member_words = Test ∷ class_words

abbrev pub block_words : List Word
block_words = BeforeAll ∷ AfterAll ∷ BeforeEach ∷ AfterEach ∷ member_words

abbrev pub part_words : List Word
part_words = Static ∷ Field ∷ block_words

-- the words that begin a statement, and `else`
abbrev pub statement_words : List Word
statement_words =
    Let ∷ Print ∷ Assert ∷ AssertEqual ∷ Assume ∷ Fail ∷ If ∷ Else ∷ Repeat ∷ SetProp ∷ ClearProp
    ∷ SetLocale ∷ WriteFile ∷ AppendFile ∷ DeleteFile ∷ []

-- the reserved words that a name may have been meant for where this is wanted: those that could
-- stand there, where no name could
abbrev pub words_of : Wanted → List Word
words_of (W.Word word) = word ∷ []
words_of W.Literal = True ∷ False ∷ []
words_of W.Target = Children ∷ []
words_of W.TopClass = class_words
words_of W.MarkedClass = class_words
words_of W.Member = member_words
words_of W.MarkedMember = member_words
words_of W.BlockOrMember = block_words
words_of W.ClassPart = part_words
words_of _ = []

-- of these words the one that is nearest to a name, if one is near
unfoldable pub nearest_of : List ℕ → List (List ℕ) → Option (List ℕ)
nearest_of name words = slice_get (near_words name words) 0

-- the word that was meant by what is found where this is wanted
abbrev pub meant_for : Wanted → Token → Option (List ℕ)
meant_for wanted (T.Name name) = nearest_of name.now (map spelling (words_of wanted))
meant_for wanted _ = None

-- the word that was meant by a name that begins a statement, if there is one
abbrev pub begun_for : Option (List ℕ) → Option (List ℕ)
begun_for (Some name) = nearest_of name (map spelling statement_words)
begun_for None = None

-- the word that was meant at a place: where `=` is wanted by the name before it, which begins a
-- statement, and else by what is found
abbrev pub meant_at : PlaceView → Unmet → Option (List ℕ)
meant_at place unmet =
    cond (is_symbol Equals (symbol_wanted unmet.wanted)) (begun_for (name_of place.statement))
    (meant_for unmet.wanted unmet.found)

abbrev pub meant_of : List ℕ → ScriptFault → Reason → Option (List ℕ)
meant_of bytes fault (R.Unmet unmet) = meant_at (place_at_fault bytes fault) unmet
meant_of bytes fault R.Kind = None
meant_of bytes fault (R.Beyond limit) = None

-- the word that was meant where a fault is, if one is near
abbrev pub meant_by : List ℕ → Explained → Option (List ℕ)
meant_by bytes told = meant_of bytes told.fault told.reason
