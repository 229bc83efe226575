-- What a node printed, part by part.
use Rattle.std.proofs.Common.{◌≡◌, ℕ, List, [], ◌∷◌, ◌++◌, Bool, false, cond, codes, sym, ap, ◌∙◌, append_assoc}
use Rattle.std.proofs.lemmas.List.Concat.{flat_map-append}
use Rattle.iso_plan.specs.Tree.{Row}
use Rattle.iso_junit.specs.Elements.{display_line, is_silent, lines_text, output_text}
use Rattle.iso_junit.specs.Escapes.{escaped}
use Rattle.iso_junit.specs.Texts.{joined}

-- the element's beginning, with the display text
abbrev pub output_head : List ℕ → Row → List ℕ
output_head indent row = joined (indent ∷ codes "<system-out>" ∷ display_line row ∷ [])

pub output-apart : (indent : List ℕ) (row : Row) (ls ms : List (List ℕ)) → is_silent row (ls ++ ms) ≡ false
    → output_text indent row (ls ++ ms) ≡ output_head indent row ++ lines_text ls ++ lines_text ms ++ codes "</system-out>\n"
output-apart indent row ls ms h =
    let closing = codes "</system-out>\n" in
    ap (λ (b : Bool). cond b [] (output_head indent row ++ lines_text (ls ++ ms) ++ closing)) h
    ∙ ap (λ (t : List ℕ). output_head indent row ++ t ++ closing) (flat_map-append (λ (l : List ℕ). escaped l ++ codes "\n") ls ms)
    ∙ ap (λ (t : List ℕ). t ++ closing) (sym (append_assoc (output_head indent row) (lines_text ls) (lines_text ms)))
