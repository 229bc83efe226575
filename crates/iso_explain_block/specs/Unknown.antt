-- The lines of a name that isn't visible.
use Rattle.std.specs.Prelude.{ℕ, List, [], ◌∷◌, ◌++◌, Bool, false, ◌||◌, Option, None, Some, bytes_eq, codes, cond, length, nat_lt, slice_get}
use Rattle.iso_explain_block.specs.Blocks.{block_acts, sees_fields, visible_classes}
use Rattle.iso_explain_block.specs.Lets.{lets}
use Rattle.iso_explain_block.specs.Lines.{with_line}
use Rattle.iso_explain_block.specs.Messages.{after}
use Rattle.iso_explain_block.specs.Variables.{with_fields, with_statics}
use Rattle.iso_explain_block.specs.Views.{BlockFaultView}
use Rattle.iso_hints.specs.Nearest.{near_words}
use Rattle.iso_model.specs.Chains.{ClassHead}
use Rattle.iso_model.specs.declared.place.BlockName.{BlockName}

-- names with those of the fields of classes more, where a block sees fields
abbrev pub with_seen_fields : BlockName → List ClassHead → List (List ℕ) → List (List ℕ)
with_seen_fields block heads names = cond (sees_fields block) (with_fields heads names) names

-- the names that are visible at the statement: those of lets before it, then statics, then fields
unfoldable pub visible_names : BlockFaultView → List (List ℕ)
visible_names f =
    let heads = visible_classes f.block f.heads in
    with_seen_fields f.block heads
    (with_statics heads (lets f.row (block_acts f.block f.heads f.test) []))

-- of these names the one that is nearest to a name, if one is near and they are 256 at most
unfoldable pub nearest_of : List ℕ → List (List ℕ) → Option (List ℕ)
nearest_of name names = cond (nat_lt 256 (length names)) None (slice_get (near_words name names) 0)

-- what was meant, in words, and its line
abbrev pub did_you_mean : List ℕ → List ℕ
did_you_mean name = codes "did you mean `" ++ name ++ codes "`?"

abbrev pub nearest_lines : Option (List ℕ) → List (List ℕ) → List (List ℕ)
nearest_lines None lines = lines
nearest_lines (Some name) lines = with_line (did_you_mean name) lines

-- whether a name stands among these
abbrev pub has_name : List ℕ → List (List ℕ) → Bool
has_name name [] = false
has_name name (n ∷ ns) = bytes_eq n name || has_name name ns

-- that a name is a field's, in words, and its line where the block doesn't see fields
abbrev pub field_text : List ℕ → List ℕ
field_text name = name ++ codes " is a field: tests, before_each and after_each see fields"

unfoldable pub field_lines : List ℕ → BlockFaultView → List (List ℕ) → List (List ℕ)
field_lines name f lines =
    cond (sees_fields f.block) lines
    (cond (has_name name (with_fields f.heads [])) (with_line (field_text name) lines) lines)

-- which names a block sees, in words
abbrev pub scope_rule : BlockName → List ℕ
scope_rule block =
    cond (sees_fields block)
    (codes "a block sees names let before, and statics and fields of its class and those around it")
    (codes "before_all and after_all see names let before, and statics of their class and those around it")

-- lines with those of a name more that isn't visible
abbrev pub name_lines : Option (List ℕ) → BlockFaultView → List (List ℕ) → List (List ℕ)
name_lines None f lines = lines
name_lines (Some name) f lines =
    with_line (scope_rule f.block)
    (field_lines name f (nearest_lines (nearest_of name (visible_names f)) lines))

abbrev pub unknown_lines : BlockFaultView → List (List ℕ) → List (List ℕ)
unknown_lines f lines = name_lines (after (codes "unknown name ") f.message) f lines
