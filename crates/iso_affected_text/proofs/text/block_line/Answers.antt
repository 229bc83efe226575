use Rattle.std.proofs.Common.{List, [], ◌∷◌, ℕ, codes, option_copied, option_map, ap}
use Rattle.iso_affected_text.specs.Rows.{spot_of}
use Rattle.iso_affected_text.specs.Texts.{block_word, spots_text}
use Rattle.iso_affected_text.specs.Words.{joined, optional}
use Rattle.iso_tap.proofs.PrinterLemmas.{prints_as, prints_stopped, prints_then}
use Rattle.iso_affected_text.proofs.text.block_line.Goals as goal

pub returns-in_err-words : goal.returns-in_err-words
returns-in_err-words g c =
    let head : List ℕ → List ℕ = λ word. joined (codes "  " ∷ word ∷ optional (codes " of ") (option_copied c.args.of) ∷ []) in
    prints_stopped (spots_text (option_map spot_of c.args.now) (option_map spot_of c.args.before)) _ c.from_residual.ensures.0
    (prints_as c.in_err-words.ensures (head (block_word c.args.block)) (ap head c.block_word.ensures))

pub returns : goal.returns
returns g c =
    let head : List ℕ → List ℕ = λ word. joined (codes "  " ∷ word ∷ optional (codes " of ") (option_copied c.args.of) ∷ []) in
    prints_then _ (prints_as c.in_ok-words.ensures (head (block_word c.args.block)) (ap head c.block_word.ensures)) c.spots.ensures
