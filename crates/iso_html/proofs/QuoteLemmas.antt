-- Lines of scripts, piece by piece.
use Rattle.std.proofs.Common.{◌≡◌, ◌==◌, Bool, false, cond, codes, ◌<◌, ◌+◌, ◌++◌, List, [], ◌∷◌, ℕ, length, ap, drop, get_or, map, flat_map, ◌∙◌, append-nil, sym}
use Rattle.std.proofs.lemmas.List.{length-map}
use Rattle.iso_html.specs.Quotes.{line_of, line_text, quote_text}
use Rattle.iso_html.specs.declared.quote.Line.{Line}
use Rattle.iso_junit.specs.Escapes.{escaped, escaped_byte}
use Rattle.iso_summary.specs.ShownLines.{shown_byte}
use Rattle.iso_tap.proofs.PrinterLemmas.{drop_next}

pub shown-next : (bytes : List ℕ) (i : ℕ) → i < length bytes
    → escaped (map shown_byte (drop i bytes)) ≡ escaped (shown_byte (get_or bytes i 0) ∷ []) ++ escaped (map shown_byte (drop (i + 1) bytes))
shown-next bytes i less =
    ap (λ (bs : List ℕ). escaped (map shown_byte bs)) (drop_next bytes i 0 less)
    ∙ ap (λ (t : List ℕ). t ++ escaped (map shown_byte (drop (i + 1) bytes))) (sym (append-nil (escaped_byte (shown_byte (get_or bytes i 0)))))

pub lines-next : (ended : ℕ) (lines : List Line) (i : ℕ) (d : Line) → i < length lines
    → flat_map (line_text ended) (map line_of (drop i lines)) ≡ line_text ended (line_of (get_or lines i d)) ++ flat_map (line_text ended) (map line_of (drop (i + 1) lines))
lines-next ended lines i d less = ap (λ (ls : List Line). flat_map (line_text ended) (map line_of ls)) (drop_next lines i d less)

pub quote-some : (ended : ℕ) (lines : List Line) → (length lines == 0) ≡ false
    → quote_text ended (map line_of lines) ≡ codes "<pre>\n" ++ flat_map (line_text ended) (map line_of lines) ++ codes "</pre>\n"
quote-some ended lines h =
    ap (λ (b : Bool). cond b [] (codes "<pre>\n" ++ flat_map (line_text ended) (map line_of lines) ++ codes "</pre>\n"))
    (ap (λ (n : ℕ). n == 0) (length-map lines line_of) ∙ h)
