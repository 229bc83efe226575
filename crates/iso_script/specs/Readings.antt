-- What is read item after item, and what the word that is next means.
use Rattle.std.specs.Prelude.{List, [], ◌∷◌, ◌++◌, ◌≡◌, Option, None}
use Rattle.iso_script.specs.declared.place.NodePlace.{NodePlace}
use Rattle.iso_script_lexer.specs.Piece.{Piece, word_at}
use Rattle.iso_script_lexer.specs.declared.word.Word.{Word}

-- these items are read one after another
abbrev pub AreRead : {W : Type 0} → (W → List Piece → List Piece → Type 0) → List W → List Piece
    → List Piece → Type 0
AreRead Is [] ps qs = ps ≡ qs
AreRead Is (w ∷ ws) ps rs = (qs : List Piece) × Is w ps qs × AreRead Is ws qs rs

-- the same of items that have places, which are these one after another
abbrev pub ArePlaced : {W : Type 0} → (W → List NodePlace → List Piece → List Piece → Type 0)
    → List W → List NodePlace → List Piece → List Piece → Type 0
ArePlaced Is [] places ps qs = (places ≡ []) × (ps ≡ qs)
ArePlaced Is (w ∷ ws) places ps rs =
    (own more : List NodePlace) × (qs : List Piece) × (places ≡ own ++ more) × Is w own ps qs
    × ArePlaced Is ws more qs rs

-- what the word that is next means, if a word is next and means anything
abbrev pub meant_next : {A : Type 0} → (Word → Option A) → List Piece → Option A
meant_next meaning (word_at r w ∷ ps) = meaning w
meant_next meaning _ = None
