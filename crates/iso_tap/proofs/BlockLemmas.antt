-- The lines of a block, piece by piece.
use Rattle.std.proofs.Common.{◌≡◌, ◌==◌, ℕ, ◌+◌, List, [], ◌∷◌, ◌++◌, length, codes, refl, sym, ap, ◌∙◌, true≢false, false, append_assoc}
use Rattle.iso_tap.specs.Escapes.{quoted}
use Rattle.iso_tap.specs.ReportBlocks.{item_lines, output_lines}
use Rattle.iso_tap.specs.ReportLines.{line_at}

-- the items of lines that are printed one after another
pub items-append : (indent : ℕ) (ls ms : List (List ℕ)) → item_lines indent (ls ++ ms) ≡ item_lines indent ls ++ item_lines indent ms
items-append indent [] ms = refl
items-append indent (l ∷ ls) ms =
    let first = line_at indent (codes "- " ++ quoted l) in
    ap (λ (t : List ℕ). first ++ t) (items-append indent ls ms) ∙ sym (append_assoc first (item_lines indent ls) (item_lines indent ms))

-- an output that has lines
output_some : (indent : ℕ) (ls : List (List ℕ)) → (length ls == 0) ≡ false → output_lines indent ls ≡ line_at indent (codes "output:") ++ item_lines (indent + 2) ls
output_some indent [] h = absurd (true≢false h)
output_some indent (l ∷ ls) h = refl

pub output-lines : (indent : ℕ) (ls ms : List (List ℕ)) → (length (ls ++ ms) == 0) ≡ false
    → output_lines indent (ls ++ ms) ≡ line_at indent (codes "output:") ++ item_lines (indent + 2) ls ++ item_lines (indent + 2) ms
output-lines indent ls ms h =
    let head = line_at indent (codes "output:") in
    output_some indent (ls ++ ms) h ∙ ap (λ (t : List ℕ). head ++ t) (items-append (indent + 2) ls ms)
    ∙ sym (append_assoc head (item_lines (indent + 2) ls) (item_lines (indent + 2) ms))
