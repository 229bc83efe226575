-- The line of a key that isn't declared.
use Rattle.std.specs.Prelude.{ℕ, List, [], ◌∷◌, ◌++◌, Bool, true, ◌&&◌, ◌||◌, not, ◌==◌, Option, None, Some, codes, cond, length, nat_lt}
use Rattle.iso_explain_block.specs.Lines.{with_line}
use Rattle.iso_explain_block.specs.Messages.{after}
use Rattle.iso_explain_block.specs.Views.{BlockFaultView}
use Rattle.iso_model.specs.Chains.{ClassHead, TestHead}
use Rattle.iso_model.specs.declared.limits.TheConstants.{KEY_BYTES}

-- whether a key stands between quotes as it is: without a quote or a backslash
abbrev pub is_quotable : List ℕ → Bool
is_quotable [] = true
is_quotable (b ∷ bs) = not (b == 34 || b == 92) && is_quotable bs

-- the word that a class or a test is written with
abbrev pub node_word : Option TestHead → List ℕ
node_word None = codes "class"
node_word (Some t) = codes "test"

-- that the mark may also stand before a class around it, if there is one
abbrev pub around : List ClassHead → Option TestHead → List ℕ
around heads None = cond (nat_lt 1 (length heads)) (codes ", or before a class around it") []
around heads (Some t) = codes ", or before a class around it"

-- before which class or test the mark stands
abbrev pub where_text : BlockFaultView → List ℕ
where_text f = codes " before " ++ node_word f.test ++ codes " " ++ f.name ++ around f.heads f.test

-- the mark to write, and where
unfoldable pub mark_text : (word key : List ℕ) → BlockFaultView → List ℕ
mark_text word key f =
    cond (nat_lt KEY_BYTES (length key))
    (codes "a key has at most 255 bytes, so no script can declare this one")
    (cond (is_quotable key) (codes "add " ++ word ++ codes " \"" ++ key ++ codes "\""
    ++ where_text f)
    (codes "declare the key with " ++ word ++ where_text f))

-- lines with that of a mark more
abbrev pub mark_lines : (word key : List ℕ) → BlockFaultView → List (List ℕ) → List (List ℕ)
mark_lines word key f lines = with_line (mark_text word key f) lines

-- the same of the key that a message names, if it does
abbrev pub marks_for : (read write : Option (List ℕ)) → BlockFaultView → List (List ℕ)
    → List (List ℕ)
marks_for (Some key) write f lines = mark_lines (codes "read") key f lines
marks_for None (Some key) f lines = mark_lines (codes "write") key f lines
marks_for None None f lines = lines

abbrev pub undeclared_lines : BlockFaultView → List (List ℕ) → List (List ℕ)
undeclared_lines f lines = marks_for (after (codes "undeclared READ of ") f.message)
    (after (codes "undeclared READ_WRITE of ") f.message) f lines
