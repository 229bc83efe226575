use Rattle.std.proofs.Common.{◌≡◌, List, length}
use Rattle.iso_script.specs.Grammar.{IsTopClass, classes_in}
use Rattle.iso_script.specs.Places.{kept, with_places}
use Rattle.iso_script.specs.Readings.{ArePlaced}
use Rattle.iso_script.specs.declared.place.NodePlace.{NodePlace}
use Rattle.iso_script.proofs.reader.classes.Given as goal

abbrev pub invariant-classes : goal.invariant-classes
invariant-classes l = (places : List NodePlace) × ArePlaced IsTopClass (classes_in l.classes) places l.fn.parser.lexer l.parser.lexer × (kept l.places ≡ with_places (kept l.fn.places) places)

abbrev pub decreases-classes : goal.decreases-classes
decreases-classes l = length l.parser.lexer
