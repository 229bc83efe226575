-- Warnings of settings.
use Rattle.std.specs.Prelude.{ℕ, List, [], ◌∷◌, Bool, codes, Option, None, Some}
use Rattle.iso_hints.specs.Keys.{known_keys, meant_key}
use Rattle.iso_settings.specs.Leaves.{Leaf}
use Rattle.iso_summary.specs.Names.{shown_name}
use Rattle.iso_explain_settings.specs.Chosen.{is_fixed_in, told_at, unused}
use Rattle.iso_explain_settings.specs.Parts.{in_front, joined, shown_text}
use Rattle.iso_explain_settings.specs.Unknown.{Kept, unknown_in, with_more, with_one}

-- that the value at a key isn't used, as a line
abbrev pub unused_warning : (name key why : List ℕ) → List ℕ
unused_warning name key why = joined
    (codes "jtap: warning: " ∷ shown_name name ∷ codes ": " ∷ key ∷ codes " isn't used: " ∷ why
    ∷ codes "\n" ∷ [])

-- one warning more, where a key has a value that isn't used
abbrev pub with_why : Kept → (name key : List ℕ) → (value why : Option (List ℕ)) → Kept
with_why kept name key (Some value) (Some why) = with_one kept (unused_warning name key why)
with_why kept name key (Some value) None = kept
with_why kept name key None why = kept

abbrev pub with_unused : Kept → (name : List ℕ) → List Leaf → (is_parallel : Bool)
    → (key : List ℕ) → Kept
with_unused kept name leaves is_parallel key =
    with_why kept name key (told_at key leaves) (unused key is_parallel (is_fixed_in leaves))

-- the same for each of these keys
abbrev pub with_unused_keys : Kept → (name : List ℕ) → List Leaf → (is_parallel : Bool)
    → (keys : List (List ℕ)) → Kept
with_unused_keys kept name leaves is_parallel [] = kept
with_unused_keys kept name leaves is_parallel (key ∷ keys) =
    with_unused_keys (with_unused kept name leaves is_parallel key) name leaves is_parallel keys

-- the key that was meant, if one was, and the line's end
abbrev pub line_end : Option (List ℕ) → List ℕ
line_end (Some key) = joined (codes ": did you mean " ∷ key ∷ codes "?\n" ∷ [])
line_end None = codes "\n"

-- that a key is unknown, as a line
abbrev pub unknown_warning : (name key : List ℕ) → List ℕ
unknown_warning name key =
    in_front (codes "jtap: warning: " ∷ shown_name name ∷ codes ": unknown "
    ∷ shown_text 160 key ∷ [])
    (line_end (meant_key key))

-- a warning more for each of these keys, which are unknown
abbrev pub with_unknown : Kept → (name : List ℕ) → (keys : List (List ℕ)) → Kept
with_unknown kept name [] = kept
with_unknown kept name (key ∷ keys) =
    with_unknown (with_one kept (unknown_warning name key)) name keys

-- the warnings of settings besides: of values that aren't used, and of keys that are unknown
abbrev pub warned : Kept → (name : List ℕ) → List Leaf → (is_parallel : Bool) → Kept
warned kept name leaves is_parallel =
    with_more (with_unknown (with_unused_keys kept name leaves is_parallel known_keys) name
    (unknown_in leaves).0) (unknown_in leaves).1
