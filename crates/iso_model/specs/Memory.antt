-- Resources that are held in a list of keys with their values.
use Rattle.std.specs.Prelude.{ℕ, suc, List, [], ◌∷◌, Some, None, cond, bytes_eq}
use Rattle.iso_model.specs.Resources.{Resources}
use Rattle.iso_model.specs.declared.memory.Memory.{Memory}
use Rattle.iso_model.specs.declared.resource.Resource.{Resource}

-- the value that stands first at a key
abbrev pub value_at : List (List ℕ × Resource) → Resources
value_at [] k = None
value_at (e ∷ es) k = cond (bytes_eq k e.0) (Some e.1) (value_at es k)

-- where a key stands first, or the number of keys
abbrev pub slot_of : List (List ℕ × Resource) → List ℕ → ℕ
slot_of [] k = 0
slot_of (e ∷ es) k = cond (bytes_eq k e.0) 0 (suc (slot_of es k))

-- the values that a memory holds
abbrev pub held : Memory → Resources
held m = value_at m.slots.items
