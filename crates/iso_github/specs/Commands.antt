-- Commands that GitHub reads in the output of a workflow's step (GitHub Docs, workflow commands for
-- GitHub Actions).
--
-- error for GitHub: The command that tells one at a line of a file, with a path as its title
-- (`error_line`), or why a file is refused (`refusal_line`), made of parts (`part_text`); which
-- texts are escaped how (`in_message`, `in_property`), and which text is read back, if any
-- (`message_of`, `property_of`); the errors of a run: of each node that failed by itself
-- (`error_of`, `errors_text`).
-- Also in: `Readers`, `Errors`, `Parts`.
-- Standard: GitHub Docs, workflow commands for GitHub Actions.
use Rattle.std.specs.Prelude.{ℕ, List, [], ◌∷◌, ◌==◌, cond, codes, flat_map}
use Rattle.std.specs.Fmt.{decimal}
use Rattle.iso_junit.specs.Texts.{joined}

-- a byte of a message: a percent sign and the ends of lines are escaped
abbrev pub message_byte : ℕ → List ℕ
message_byte b = cond (b == 37) (codes "%25")
    (cond (b == 13) (codes "%0D") (cond (b == 10) (codes "%0A") (b ∷ [])))

-- a byte of a property: so are the signs that end one
abbrev pub property_byte : ℕ → List ℕ
property_byte b = cond (b == 58) (codes "%3A") (cond (b == 44) (codes "%2C") (message_byte b))

-- a text as a message, and as a property
abbrev pub in_message : List ℕ → List ℕ
in_message text = flat_map message_byte text

abbrev pub in_property : List ℕ → List ℕ
in_property text = flat_map property_byte text

-- the command that tells an error at a line of a file; a node's path, its title, has nothing to
-- escape
abbrev pub error_line : (file : List ℕ) → (line : ℕ) → (path message : List ℕ) → List ℕ
error_line file line path message =
    joined
    (codes "::error file="
    ∷ in_property file
    ∷ codes ",line="
    ∷ decimal line
    ∷ codes ",title="
    ∷ path
    ∷ codes "::"
    ∷ in_message message
    ∷ codes "\n"
    ∷ [])

-- the command that tells why a file is refused, and where
abbrev pub refusal_line : (file : List ℕ) → (line column : ℕ) → (kind : List ℕ) → List ℕ
refusal_line file line column kind =
    joined
    (codes "::error file="
    ∷ in_property file
    ∷ codes ",line="
    ∷ decimal line
    ∷ codes ",col="
    ∷ decimal column
    ∷ codes ",title=jtap::"
    ∷ in_message kind
    ∷ codes "\n"
    ∷ [])
