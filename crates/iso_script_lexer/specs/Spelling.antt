-- How symbols and reserved words are written, and which bytes stand where. A byte is its ASCII
-- code.
--
-- spelling: Which bytes a symbol and a reserved word are, and which bytes may stand in a name, a
-- gap, a comment.
use Rattle.std.specs.Prelude.{ℕ, List, [], ◌∷◌, Bool, false, Option, nat_eq, nat_le, ◌&&◌, ◌||◌, ◌++◌, codes}
use Rattle.std.specs.List.{find}
use Rattle.std.specs.Str.{bytes_eq}
use Rattle.iso_script_lexer.specs.declared.symbol.Symbol.{Symbol}
use Rattle.iso_script_lexer.specs.declared.symbol.Symbol.TheVariants.{OpenBrace, CloseBrace, OpenParen, CloseParen, Semicolon, Comma, Equals, Plus, Minus, Star, PlusPlus, EqualsEquals, NotEquals, Less}
use Rattle.iso_script_lexer.specs.declared.word.Word.{Word}
use Rattle.iso_script_lexer.specs.declared.word.Word.TheVariants.{Team, Class, Test, SameThread, Concurrent, Isolated, Read, Write, Static, Field, BeforeAll, AfterAll, BeforeEach, AfterEach, Let, Print, Assert, AssertEqual, Assume, Fail, If, Else, Repeat, SetProp, ClearProp, SetLocale, WriteFile, AppendFile, DeleteFile, True, False, Text, Len, Prop, HasProp, Locale, File, HasFile, Children, Disabled}

-- bytes by name
abbrev pub line_feed : ℕ
line_feed = 10

abbrev pub quote : ℕ
quote = 34

abbrev pub slash : ℕ
slash = 47

abbrev pub backslash : ℕ
backslash = 92

-- how a symbol is written
abbrev pub marks : Symbol → List ℕ
marks OpenBrace = codes "{"
marks CloseBrace = codes "}"
marks OpenParen = codes "("
marks CloseParen = codes ")"
marks Semicolon = codes ";"
marks Comma = codes ","
marks Equals = codes "="
marks Plus = codes "+"
marks Minus = codes "-"
marks Star = codes "*"
marks PlusPlus = codes "++"
marks EqualsEquals = codes "=="
marks NotEquals = codes "!="
marks Less = codes "<"

-- how a reserved word is written
abbrev pub spelling : Word → List ℕ
spelling Team = codes "team"
spelling Class = codes "class"
spelling Test = codes "test"
spelling SameThread = codes "same_thread"
spelling Concurrent = codes "concurrent"
spelling Isolated = codes "isolated"
spelling Read = codes "read"
spelling Write = codes "write"
spelling Static = codes "static"
spelling Field = codes "field"
spelling BeforeAll = codes "before_all"
spelling AfterAll = codes "after_all"
spelling BeforeEach = codes "before_each"
spelling AfterEach = codes "after_each"
spelling Let = codes "let"
spelling Print = codes "print"
spelling Assert = codes "assert"
spelling AssertEqual = codes "assert_equal"
spelling Assume = codes "assume"
spelling Fail = codes "fail"
spelling If = codes "if"
spelling Else = codes "else"
spelling Repeat = codes "repeat"
spelling SetProp = codes "set_prop"
spelling ClearProp = codes "clear_prop"
spelling SetLocale = codes "set_locale"
spelling WriteFile = codes "write_file"
spelling AppendFile = codes "append_file"
spelling DeleteFile = codes "delete_file"
spelling True = codes "true"
spelling False = codes "false"
spelling Text = codes "text"
spelling Len = codes "len"
spelling Prop = codes "prop"
spelling HasProp = codes "has_prop"
spelling Locale = codes "locale"
spelling File = codes "file"
spelling HasFile = codes "has_file"
spelling Children = codes "children"
spelling Disabled = codes "disabled"

-- the reserved words
abbrev pub all_words : List Word
all_words = Team ∷ Class ∷ Test ∷ SameThread ∷ Concurrent ∷ Isolated ∷ Read ∷ Write ∷ Static
    ∷ Field ∷ BeforeAll ∷
    AfterAll ∷ BeforeEach ∷ AfterEach ∷ Let ∷ Print ∷ Assert ∷ AssertEqual ∷ Assume ∷ Fail ∷ If
    ∷ Else ∷ Repeat ∷
    SetProp ∷ ClearProp ∷ SetLocale ∷ WriteFile ∷ AppendFile ∷ DeleteFile ∷ True ∷ False ∷ Text
    ∷ Len ∷ Prop ∷ HasProp ∷
    Locale ∷ File ∷ HasFile ∷ Children ∷ Disabled ∷ []

-- the same as they are written, with a space between two
abbrev pub words_text : List ℕ
words_text =
    codes "team class test same_thread concurrent isolated read write static field before_all after_all before_each "
    ++ (codes "after_each let print assert assert_equal assume fail if else repeat set_prop clear_prop set_locale "
    ++ codes "write_file append_file delete_file true false text len prop has_prop locale file has_file children disabled")

-- the reserved word that is written so
unfoldable pub word_of : List ℕ → Option Word
word_of n = find (λ w. bytes_eq (spelling w) n) all_words

-- the place of a symbol among the symbols
abbrev pub symbol_number : Symbol → ℕ
symbol_number OpenBrace = 0
symbol_number CloseBrace = 1
symbol_number OpenParen = 2
symbol_number CloseParen = 3
symbol_number Semicolon = 4
symbol_number Comma = 5
symbol_number Equals = 6
symbol_number Plus = 7
symbol_number Minus = 8
symbol_number Star = 9
symbol_number PlusPlus = 10
symbol_number EqualsEquals = 11
symbol_number NotEquals = 12
symbol_number Less = 13

-- the place of a word among the reserved words
abbrev pub word_number : Word → ℕ
word_number Team = 0
word_number Class = 1
word_number Test = 2
word_number SameThread = 3
word_number Concurrent = 4
word_number Isolated = 5
word_number Read = 6
word_number Write = 7
word_number Static = 8
word_number Field = 9
word_number BeforeAll = 10
word_number AfterAll = 11
word_number BeforeEach = 12
word_number AfterEach = 13
word_number Let = 14
word_number Print = 15
word_number Assert = 16
word_number AssertEqual = 17
word_number Assume = 18
word_number Fail = 19
word_number If = 20
word_number Else = 21
word_number Repeat = 22
word_number SetProp = 23
word_number ClearProp = 24
word_number SetLocale = 25
word_number WriteFile = 26
word_number AppendFile = 27
word_number DeleteFile = 28
word_number True = 29
word_number False = 30
word_number Text = 31
word_number Len = 32
word_number Prop = 33
word_number HasProp = 34
word_number Locale = 35
word_number File = 36
word_number HasFile = 37
word_number Children = 38
word_number Disabled = 39

-- whether two symbols are one, and two reserved words
abbrev pub same_symbol : Symbol → Symbol → Bool
same_symbol s t = nat_eq (symbol_number s) (symbol_number t)

abbrev pub same_word : Word → Word → Bool
same_word w v = nat_eq (word_number w) (word_number v)

-- space, tab and carriage return
abbrev pub is_blank : ℕ → Bool
is_blank b = nat_eq b 32 || (nat_eq b 9 || nat_eq b 13)

-- space and the printable characters of ASCII
abbrev pub is_printable : ℕ → Bool
is_printable b = nat_le 32 b && nat_le b 126

-- the bytes of a comment
abbrev pub in_comment : ℕ → Bool
in_comment b = is_printable b || is_blank b

abbrev pub is_letter : ℕ → Bool
is_letter b = (nat_le 97 b && nat_le b 122) || (nat_le 65 b && nat_le b 90)

abbrev pub is_digit : ℕ → Bool
is_digit b = nat_le 48 b && nat_le b 57

-- a letter, a digit or an underscore
abbrev pub in_name : ℕ → Bool
in_name b = is_letter b || (is_digit b || nat_eq b 95)

-- whether this byte is next, and whether one of these is
abbrev pub begins : ℕ → List ℕ → Bool
begins c [] = false
begins c (b ∷ bs) = nat_eq b c

abbrev pub begins_in : (ℕ → Bool) → List ℕ → Bool
begins_in test [] = false
begins_in test (b ∷ bs) = test b

-- a quote and a backslash, which are escaped in a text
abbrev pub is_escaped : ℕ → Bool
is_escaped b = nat_eq b quote || nat_eq b backslash
