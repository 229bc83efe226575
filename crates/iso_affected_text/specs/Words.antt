-- The words that lines are made of, as texts.
use Rattle.std.specs.Prelude.{ℕ, List, [], ◌∷◌, ◌++◌, Option, Some, None, Bool, cond, codes, drop}
use Rattle.std.specs.Char.{is_ascii_whitespace}
use Rattle.std.specs.Fmt.{decimal}
use Rattle.std.specs.List.{prefix_len}
use Rattle.std.specs.Option.{option_copied}
use Rattle.iso_affected_text.specs.declared.word.Word.{Word}
use Rattle.iso_affected_text.specs.declared.word.Word.TheVariants.{Plain, Number, Name, Optional, Other, Source}
use Rattle.iso_summary.specs.Names.{shown_name}
use Rattle.iso_summary.specs.ShownLines.{shown_source}

-- texts one after another
abbrev pub joined : List (List ℕ) → List ℕ
joined [] = []
joined (t ∷ ts) = t ++ joined ts

-- a text behind another one, where there is one
abbrev pub optional : (before : List ℕ) → Option (List ℕ) → List ℕ
optional before None = []
optional before (Some text) = before ++ text

-- a file's name and a colon, where it is another file
abbrev pub other_file : Bool → List ℕ → List ℕ
other_file is_other file = cond is_other (shown_name file ++ codes ":") []

-- a line of a script without its indent, as it is shown
abbrev pub source_text : List ℕ → List ℕ
source_text line = shown_source (drop (prefix_len is_ascii_whitespace line) line)

-- the text of a word
abbrev pub word_text : Word → List ℕ
word_text (Plain text) = text.now
word_text (Number n) = decimal n
word_text (Name file) = shown_name file.now
word_text (Optional before text) = optional before.now (option_copied text)
word_text (Other is_other file) = other_file is_other file.now
word_text (Source line) = source_text line.now
