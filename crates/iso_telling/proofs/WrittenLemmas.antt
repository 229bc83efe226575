-- Scripts that are what bytes say were read.
use Rattle.std.proofs.Common.{ℕ, List, [], ◌∷◌}
use Rattle.iso_model.specs.Scripts.{Script}
use Rattle.iso_places.specs.Located.{WereRead}
use Rattle.iso_script.specs.declared.place.NodePlace.{NodePlace}
use Rattle.iso_telling.specs.Written.{ArePlaced}

pub were-read : (texts : List (List ℕ)) (scripts : List Script) (places : List (List NodePlace)) → ArePlaced texts scripts places → WereRead scripts places
were-read [] [] [] h = tt
were-read [] [] (p ∷ ps) h = absurd h
were-read [] (s ∷ ss) [] h = absurd h
were-read [] (s ∷ ss) (p ∷ ps) h = absurd h
were-read (t ∷ ts) [] [] h = absurd h
were-read (t ∷ ts) [] (p ∷ ps) h = absurd h
were-read (t ∷ ts) (s ∷ ss) [] h = absurd h
were-read (t ∷ ts) (s ∷ ss) (p ∷ ps) h = ((t, h.0), were-read ts ss ps h.1)
