-- Shared class heads, outermost first, as heads.
use Rattle.std.specs.Prelude.{List, map}
use Rattle.std.specs.Arc.{arc_value}
use Rattle.std.specs.declared.alloc.Global.{Global}
use Rattle.std.specs.declared.sync.Arc.{Arc}
use Rattle.iso_model.specs.Chains as C
use Rattle.iso_model.specs.ScriptView.{class_head_of}
use Rattle.iso_model.specs.declared.heads.ClassHead.{ClassHead}

abbrev pub heads_in : List (Arc ClassHead Global) → List C.ClassHead
heads_in classes = map (λ c. class_head_of (arc_value c)) classes
