use Rattle.iso_core.proofs.FlatStates.{map-onward}
use Rattle.iso_core.proofs.FlatValues.{kinds-changed}
use Rattle.iso_core.specs.FlatMaps.{FlatView}
use Rattle.iso_model.specs.ResourceKeys.{spelling}
use Rattle.iso_core.proofs.flat_map.FlatMapTouch.change.Goals as goal

pub invariant_of-self : goal.invariant_of-self
invariant_of-self c =
    let v : FlatView = record { tray = c.self.inside.tray; marks = c.self.inside.marks.items } in
    let on = c.change.ensures.goes_on in
    map-onward v c.change.new.self on
    (kinds-changed c.change.result v.tray c.change.new.self (spelling c.args.key) c.args.change on.there c.change.ensures.ok c.change.ensures.err c.self.invariant.kinds)
    c.self.invariant
