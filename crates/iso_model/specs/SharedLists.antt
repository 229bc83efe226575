-- Lists that several owners share.
use Rattle.std.specs.Prelude.{List, [], Option, Some, None}
use Rattle.std.specs.Arc.{arc_value}
use Rattle.std.specs.declared.alloc.Global.{Global}
use Rattle.std.specs.declared.sync.Arc.{Arc}
use Rattle.std.specs.declared.vec.Vec.{Vec}

-- the items of a list, which stand apart where there are some
abbrev pub items_in : {T : Type 0} → Option (Arc (Vec T Global) Global) → List T
items_in None = []
items_in (Some items) = (arc_value items).items
