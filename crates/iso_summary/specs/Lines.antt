-- Lines, and what they are made of.
use Rattle.std.specs.Prelude.{ℕ, List, [], ◌∷◌, ◌++◌, Option, None, Some, ◌==◌, cond, codes}
use Rattle.std.specs.Fmt.{decimal}
use Rattle.iso_summary.specs.Words.{file_word}

-- a line: these texts one after another, and its end
abbrev pub line : List (List ℕ) → List ℕ
line [] = codes "\n"
line (t ∷ ts) = t ++ line ts

-- `n` things, with the word for one and the word for several
abbrev pub counted : ℕ → (one many : List ℕ) → List ℕ
counted n one many = decimal n ++ cond (n == 1) one many

-- how many classes failed, where any did
abbrev pub failed_classes : ℕ → List ℕ
failed_classes n = cond (n == 0) [] (codes "; " ++ counted n (codes " class") (codes " classes")
    ++ codes " not ok")

-- an option with its file, where one was given
abbrev pub file_option : (option : List ℕ) → Option (List ℕ) → List ℕ
file_option option None = []
file_option option (Some file) = option ++ file_word file

-- an option with its number, where one was given
abbrev pub number_option : (option : List ℕ) → Option ℕ → List ℕ
number_option option None = []
number_option option (Some n) = option ++ decimal n
