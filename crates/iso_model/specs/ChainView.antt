-- What the shared class heads of a chain stand for.
use Rattle.std.specs.Prelude.{List, map, reverse}
use Rattle.std.specs.Arc.{arc_value}
use Rattle.std.specs.declared.sync.Arc.{Arc}
use Rattle.std.specs.declared.alloc.Global.{Global}
use Rattle.iso_model.specs.Chains as C
use Rattle.iso_model.specs.ScriptView.{class_head_of}
use Rattle.iso_model.specs.declared.heads.ClassHead.{ClassHead}

-- shared class heads, outermost first, as a list of heads, innermost first
abbrev pub innermost_first : List (Arc ClassHead Global) → List C.ClassHead
innermost_first heads = reverse (map (λ c. class_head_of (arc_value c)) heads)
