use Rattle.std.proofs.Common.{◌≡◌, map, take, true}
use Rattle.iso_model.specs.ScriptView.{script_of}
use Rattle.iso_places.specs.Sites.{places_in}
use Rattle.iso_run.specs.Suites.{AreRead, texts}
use Rattle.iso_telling.specs.Written.{ArePlaced}
use Rattle.iso_run.proofs.inputs.read_scripts.Given as goal

abbrev pub invariant-loop-index : goal.invariant-loop-index
invariant-loop-index l = AreRead (texts (take l.index l.fn.inputs.scripts.now)) (map script_of l.read.scripts.items)
    × (l.fn.keeps ≡ true → ArePlaced (texts (take l.index l.fn.inputs.scripts.now)) (map script_of l.read.scripts.items) (places_in l.read.places.items))
