-- Texts as they stand in XML, in an attribute or in an element (XML 1.0, sections 2.4 and 4.1).
--
-- text in XML: `<`, `>`, `&` and `"` by their names, control characters by their numbers, each
-- other byte as it is (`escaped`); the text that a reader reads of bytes, if there is one
-- (`unescaped`). A file's name, whose characters that no reader sees and U+FFFE, U+FFFF are escaped
-- before (`file_name`); which characters XML allows (`is_allowed`).
-- Also in: `Readers`, `Files`.
-- Standard: XML 1.0, sections 2.2, 2.4, 4.1, 4.6.
use Rattle.std.specs.Prelude.{ℕ, suc, List, [], ◌∷◌, ◌++◌, Bool, ◌||◌, ◌==◌, cond, codes, flat_map}
use Rattle.std.specs.Char.{is_ascii_control}
use Rattle.std.specs.Fmt.{decimal}

-- a byte by its number
abbrev pub numbered : ℕ → List ℕ
numbered b = codes "&#" ++ decimal b ++ codes ";"

-- A byte as it stands there: those that mean something to a reader of XML by their names, control
-- characters by their numbers, as a reader could take a line feed for a space, and each other byte
-- as it is.
abbrev pub escaped_byte : ℕ → List ℕ
escaped_byte b =
    cond (b == 60) (codes "&lt;")
    (cond (b == 62) (codes "&gt;")
    (cond (b == 38) (codes "&amp;")
    (cond (b == 34) (codes "&quot;")
    (cond (is_ascii_control b) (numbered b) (b ∷ [])))))

-- a text as it stands there
abbrev pub escaped : List ℕ → List ℕ
escaped text = flat_map escaped_byte text

-- whether a byte doesn't stand there as it is
abbrev pub is_special : ℕ → Bool
is_special b = b == 60 || (b == 62 || (b == 38 || (b == 34 || is_ascii_control b)))

-- how many bytes stand before the first such one
abbrev pub plain_len : List ℕ → ℕ
plain_len [] = 0
plain_len (b ∷ bs) = cond (is_special b) 0 (suc (plain_len bs))
