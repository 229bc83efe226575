-- Words of a command, byte by byte.
use Rattle.std.proofs.Common.{◌≡◌, ℕ, ◌+◌, ◌<◌, List, ◌++◌, length, drop, get_or, codes, ap, sym, ◌∙◌}
use Rattle.std.specs.List.{flat_map}
use Rattle.iso_junit.proofs.EscapeLemmas.{escaped-append}
use Rattle.iso_junit.specs.Escapes.{escaped}
use Rattle.iso_summary.specs.Words.{in_quotes}
use Rattle.iso_tap.proofs.PrinterLemmas.{drop_next}

pub bytes-next : (word : List ℕ) (i : ℕ) → i < length word
    → escaped (flat_map in_quotes (drop i word)) ≡ escaped (in_quotes (get_or word i 0)) ++ escaped (flat_map in_quotes (drop (i + 1) word))
bytes-next word i h =
    ap (λ (bs : List ℕ). escaped (flat_map in_quotes bs)) (drop_next word i 0 h)
    ∙ escaped-append (in_quotes (get_or word i 0)) (flat_map in_quotes (drop (i + 1) word))

-- a word in quotes
pub quoted-is : (text : List ℕ) → codes "'" ++ escaped text ++ codes "'" ≡ escaped (codes "'" ++ text ++ codes "'")
quoted-is text =
    ap (λ (t : List ℕ). codes "'" ++ t) (sym (escaped-append text (codes "'")))
