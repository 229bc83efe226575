-- Words of a command as a shell reads them.
--
-- word of a command: As it is where its bytes mean nothing to a shell, else in single quotes
-- (`shell_word`, `file_word`); the words that a shell reads of a command (`read_words`), and those
-- that it is to read (`command_words`). No command is told that has a word with a character that no
-- reader sees (`can_be_told`).
-- Also in: `Shells`, `Entries`.
-- Standard: POSIX.1-2017, Shell Command Language, quoting.
use Rattle.std.specs.Prelude.{ℕ, List, [], ◌∷◌, ◌++◌, Bool, false, not, ◌&&◌, ◌||◌, ◌==◌, cond, codes, flat_map, length, nat_eq}
use Rattle.std.specs.Char.{is_ascii_alphanumeric}
use Rattle.std.specs.List.{list_all, list_any}

-- whether a byte means nothing to a shell: it is a letter, a digit or one of these
abbrev pub is_plain : ℕ → Bool
is_plain b = is_ascii_alphanumeric b || list_any (λ p. nat_eq p b) (codes "_./:=@%+,-")

-- whether a word needs no quotes
abbrev pub is_plain_word : List ℕ → Bool
is_plain_word word = list_all is_plain word && not (length word == 0)

-- a byte between single quotes: a quote ends them, stands behind a backslash, and begins them again
abbrev pub in_quotes : ℕ → List ℕ
in_quotes b = cond (b == 39) (codes "'\\''") (b ∷ [])

-- a word: as it is, or in single quotes
abbrev pub shell_word : List ℕ → List ℕ
shell_word word = cond (is_plain_word word) word (codes "'" ++ flat_map in_quotes word ++ codes "'")

-- whether a name could be taken for an option
abbrev pub begins_with_dash : List ℕ → Bool
begins_with_dash [] = false
begins_with_dash (b ∷ bs) = b == 45

-- what stands before such a name: the folder that it is in
abbrev pub folder : List ℕ → List ℕ
folder name = cond (begins_with_dash name) (codes "./") []

-- a file's name as a word
abbrev pub file_word : List ℕ → List ℕ
file_word name = folder name ++ shell_word name
