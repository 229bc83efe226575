-- How a shell reads the words of a command.
use Rattle.std.specs.Prelude.{ℕ, List, [], ◌∷◌, ◌++◌, Option, None, Some, ◌==◌, cond, codes}
use Rattle.std.specs.Fmt.{decimal}
use Rattle.std.specs.Option.{option_map}
use Rattle.iso_summary.specs.Views.{AgainView, LocatedView}
use Rattle.iso_summary.specs.Words.{folder, is_plain}

-- where the next byte stands
pub data Reading : Type 0 where
  between_words : Reading
  in_word : Reading
  between_quotes : Reading
  behind_backslash : Reading

-- a byte more at the beginning of the first word
abbrev pub with_byte : ℕ → Option (List (List ℕ)) → Option (List (List ℕ))
with_byte b None = None
with_byte b (Some []) = Some ((b ∷ []) ∷ [])
with_byte b (Some (w ∷ ws)) = Some ((b ∷ w) ∷ ws)

-- a word more before the others
abbrev pub with_word : List ℕ → Option (List (List ℕ)) → Option (List (List ℕ))
with_word word words = option_map (λ ws. word ∷ ws) words

-- What a byte outside of quotes begins, which is no space and no line feed: quotes, what is behind
-- a backslash, or a byte of a word where it means nothing to a shell. With any other byte a text is
-- no command of words. The arguments are what the bytes behind it are in each of the three cases.
abbrev pub read_unquoted : ℕ → (quotes backslash word : Option (List (List ℕ)))
    → Option (List (List ℕ))
read_unquoted b quotes backslash word =
    cond (b == 39) quotes (cond (b == 92) backslash (cond (is_plain b) (with_byte b word) None))

-- The words that bytes are from there on; in a word the first of them is what is left of it.
-- Between quotes each byte up to the next quote stands for itself, and so does the one behind a
-- backslash. A line feed ends the command. Where a quote is open at the end it is none.
abbrev pub read_from : Reading → List ℕ → Option (List (List ℕ))
read_from between_words [] = Some []
read_from in_word [] = Some ([] ∷ [])
read_from between_quotes [] = None
read_from behind_backslash [] = None
read_from between_words (b ∷ bs) =
    cond (b == 10) (Some [])
    (cond (b == 32) (read_from between_words bs)
    (read_unquoted b (read_from between_quotes bs) (read_from behind_backslash bs)
    (read_from in_word bs)))
read_from in_word (b ∷ bs) =
    cond (b == 10) (Some ([] ∷ []))
    (cond (b == 32) (with_word [] (read_from between_words bs))
    (read_unquoted b (read_from between_quotes bs) (read_from behind_backslash bs)
    (read_from in_word bs)))
read_from between_quotes (b ∷ bs) =
    cond (b == 39) (read_from in_word bs) (with_byte b (read_from between_quotes bs))
read_from behind_backslash (b ∷ bs) = with_byte b (read_from in_word bs)

-- the words of a command
abbrev pub read_words : List ℕ → Option (List (List ℕ))
read_words text = read_from between_words text

-- a file as a command names it: one whose name begins with a dash by its folder
abbrev pub named_file : List ℕ → List ℕ
named_file name = folder name ++ name

-- the words of an option with its file and of one with its number, where they were given
abbrev pub file_words : (option : List ℕ) → Option (List ℕ) → List (List ℕ)
file_words option None = []
file_words option (Some name) = option ∷ named_file name ∷ []

abbrev pub number_words : (option : List ℕ) → Option ℕ → List (List ℕ)
number_words option None = []
number_words option (Some n) = option ∷ decimal n ∷ []

-- the words of the command that runs a node again
abbrev pub command_words : AgainView → LocatedView → (path : List ℕ) → List (List ℕ)
command_words again at path =
    codes "jtap" ∷ codes "run"
    ∷ file_words (codes "--settings") again.settings
    ++ (file_words (codes "--world") again.world
    ++ (number_words (codes "--processors") again.processors
    ++ codes "--only" ∷ path ∷ named_file at.file ∷ []))
