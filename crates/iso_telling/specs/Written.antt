-- Suites as they are written.
--
-- suite as it is written: Its scripts, the places of each one's nodes, and the bytes of each
-- (`WrittenView`, `written_of`); that they belong together (`ArePlaced`).
use Rattle.std.specs.Borrow.{Bor}
use Rattle.std.specs.Prelude.{ℕ, List, [], ◌∷◌, map}
use Rattle.iso_model.specs.ScriptView.{script_of}
use Rattle.iso_model.specs.Scripts.{Script}
use Rattle.iso_places.specs.Sites.{places_in}
use Rattle.iso_script.specs.Grammar.{ReadsPlaced}
use Rattle.iso_script.specs.declared.place.NodePlace.{NodePlace}
use Rattle.iso_telling.specs.declared.written.Written.{Written}

-- the scripts of a suite, the places of the nodes of each in written order, and the bytes of each
pub record WrittenView : Type 0 where
  pub scripts : List Script
  pub places : List (List NodePlace)
  pub texts : List (List ℕ)

-- texts that are lent
abbrev pub lent : List (Bor (List ℕ)) → List (List ℕ)
lent texts = map (λ (text : Bor (List ℕ)). text.now) texts

abbrev pub written_of : Written → WrittenView
written_of w = record {
  scripts = map script_of w.scripts.now;
  places = places_in w.places.now;
  texts = lent w.texts.now;
}

-- these bytes are these scripts, and these are the places of the nodes of each
abbrev pub ArePlaced : (texts : List (List ℕ)) → List Script
    → (places : List (List NodePlace)) → Type 0
ArePlaced [] [] [] = Unit {0}
ArePlaced (t ∷ ts) (s ∷ ss) (p ∷ ps) = ReadsPlaced t s p × ArePlaced ts ss ps
ArePlaced _ _ _ = ⊥
