-- The names of the statics and fields of classes.
use Rattle.std.specs.Arc.{arc_value}
use Rattle.std.specs.Prelude.{ℕ, List, [], ◌∷◌, ◌++◌, map}
use Rattle.std.specs.declared.alloc.Global.{Global}
use Rattle.std.specs.declared.sync.Arc.{Arc}
use Rattle.iso_model.specs.Chains as C
use Rattle.iso_model.specs.ScriptView.{class_head_of}
use Rattle.iso_model.specs.declared.heads.ClassHead.{ClassHead}
use Rattle.iso_model.specs.declared.heads.Variable.{Variable}

-- what shared class heads stand for, in the same order
abbrev pub heads_of : List (Arc ClassHead Global) → List C.ClassHead
heads_of heads = map (λ c. class_head_of (arc_value c)) heads

-- names with those of statics or fields more
abbrev pub with_variables : List Variable → List (List ℕ) → List (List ℕ)
with_variables [] names = names
with_variables (v ∷ vs) names = with_variables vs (names ++ v.name ∷ [])

-- names with those of the statics of classes more, and with those of their fields
abbrev pub with_statics : List C.ClassHead → List (List ℕ) → List (List ℕ)
with_statics [] names = names
with_statics (c ∷ cs) names = with_statics cs (with_variables c.statics names)

abbrev pub with_fields : List C.ClassHead → List (List ℕ) → List (List ℕ)
with_fields [] names = names
with_fields (c ∷ cs) names = with_fields cs (with_variables c.fields names)
