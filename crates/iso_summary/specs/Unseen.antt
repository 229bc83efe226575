-- Characters that no reader sees, or that change how others are seen.
--
-- character that no reader sees: One of the general categories Cc, Cf, Zl and Zp (`is_unseen`,
-- `is_unseen_category`), which are those of 23 ranges (`unseen_ranges`); whether a text has one
-- (`has_unseen`; `given_has_unseen`).
-- Also in: `GeneralCategory` of `ucd_category`, a crate of the kit.
-- Standard: The Unicode Standard, version 18.0.0, section 4.5, General Category.
use Rattle.std.specs.Prelude.{ℕ, List, [], ◌∷◌, Option, Some, None, Bool, true, false, chars}
use Rattle.std.specs.List.{list_any}
use Rattle.ucd_category.specs.GeneralCategory.{general_category, general_category_eq}
use Rattle.ucd_category.specs.declared.GeneralCategory.{GeneralCategory}
use Rattle.ucd_category.specs.declared.GeneralCategory.TheVariants.{Control, Format, LineSeparator, ParagraphSeparator}
use Rattle.ucd_table.specs.Rows.{Range}

-- whether a general category is one of theirs: Cc, Cf, Zl or Zp
abbrev pub is_unseen_category : GeneralCategory → Bool
is_unseen_category category = list_any (λ unseen. general_category_eq category unseen)
    (Control ∷ Format ∷ LineSeparator ∷ ParagraphSeparator ∷ [])

-- whether a character is one of them (The Unicode Standard, version 18.0.0, section 4.5, General
-- Category)
abbrev pub is_unseen : ℕ → Bool
is_unseen c = is_unseen_category (general_category c)

-- these are they, by a law: the control characters of ASCII and those of U+0080 to U+009F, marks of
-- format, U+2028 and U+2029
abbrev pub unseen_ranges : List Range
unseen_ranges =
    (0x0000, 0x001F)
    ∷ (0x007F, 0x009F)
    ∷ (0x00AD, 0x00AD)
    ∷ (0x0600, 0x0605)
    ∷ (0x061C, 0x061C)
    ∷ (0x06DD, 0x06DD)
    ∷ (0x070F, 0x070F)
    ∷ (0x0890, 0x0891)
    ∷ (0x08E2, 0x08E2)
    ∷ (0x180E, 0x180E)
    ∷ (0x200B, 0x200F)
    ∷ (0x2028, 0x202E)
    ∷ (0x2060, 0x2064)
    ∷ (0x2066, 0x206F)
    ∷ (0xFEFF, 0xFEFF)
    ∷ (0xFFF9, 0xFFFB)
    ∷ (0x110BD, 0x110BD)
    ∷ (0x110CD, 0x110CD)
    ∷ (0x13430, 0x1343F)
    ∷ (0x1BCA0, 0x1BCA3)
    ∷ (0x1D173, 0x1D17A)
    ∷ (0xE0001, 0xE0001)
    ∷ (0xE0020, 0xE007F)
    ∷ []

-- whether a text has one of them
abbrev pub has_unseen : List ℕ → Bool
has_unseen text = list_any is_unseen (chars text)

-- whether a word was given and has a character that no reader sees
abbrev pub given_has_unseen : Option (List ℕ) → Bool
given_has_unseen None = false
given_has_unseen (Some word) = has_unseen word
