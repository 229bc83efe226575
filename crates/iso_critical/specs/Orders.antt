-- The bodies of nodes that have a time, one by one.
use Rattle.std.specs.Prelude.{ℕ, List, [], ◌∷◌, Option, Bool, true, false, cond}
use Rattle.std.specs.Option.{option_map}
use Rattle.iso_critical.specs.Bodies.{has_run, time_at}
use Rattle.iso_critical.specs.declared.body.Body.{Body}
use Rattle.iso_lifecycle.specs.declared.kind.BodyKind.{BodyKind}
use Rattle.iso_lifecycle.specs.declared.kind.BodyKind.TheVariants.{BeforeAll, Test, AfterAll}
use Rattle.iso_times.specs.Tables.{slot_of}
use Rattle.iso_times.specs.declared.times.BodyTime.{BodyTime}

-- whether a body closes its class
abbrev pub is_closing : BodyKind → Bool
is_closing BeforeAll = false
is_closing Test = false
is_closing AfterAll = true

-- a body of a node, if it has a time
abbrev pub body_of : List (Option BodyTime) → ℕ → BodyKind → Option Body
body_of bodies n kind =
    option_map (λ t. record {
      place = slot_of n kind;
      node = n;
      closes = is_closing kind;
      time = t;
    }) (time_at bodies (slot_of n kind))

-- a place, if a body with it has run
abbrev pub placed : List (Option BodyTime) → ℕ → List ℕ
placed bodies i = cond (has_run bodies i) (i ∷ []) []
