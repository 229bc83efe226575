-- The names that a block sees, and which of them it may assign.
use Rattle.std.specs.Prelude.{ℕ, zero, suc, List, [], ◌∷◌, Option, Some, None, Result, Ok, Err, Bool, true, false, cond, bytes_eq, map}
use Rattle.iso_model.specs.declared.data.Data.{Data}
use Rattle.iso_model.specs.declared.heads.Variable.{Variable}
use Rattle.iso_model.specs.declared.names.Sort.{Sort}
use Rattle.iso_model.specs.declared.names.Sort.TheVariants.{Static, Frozen, Field, Local}
use Rattle.iso_model.specs.declared.names.AssignFault.{AssignFault}
use Rattle.iso_model.specs.declared.names.AssignFault.TheVariants as A
use Rattle.iso_model.specs.declared.names.Binding.{Binding}
use Rattle.iso_model.specs.declared.names.LentBinding.{LentBinding}
use Rattle.iso_model.specs.declared.fault.Fault.{Fault}
use Rattle.iso_model.specs.declared.fault.Fault.TheVariants as F

abbrev pub bound : Sort → List ℕ → Data → Binding
bound sort x d = record { name = x; value = d; sort = sort }

-- what a name stands for, where it is visible
abbrev pub binding_of : List Binding → List ℕ → Option Binding
binding_of [] x = None
binding_of (b ∷ bs) x = cond (bytes_eq x b.name) (Some b) (binding_of bs x)

-- the names, with another value for one of them
abbrev pub rebound : List Binding → List ℕ → Data → List Binding
rebound [] x d = []
rebound (b ∷ bs) x d = cond (bytes_eq x b.name) (bound b.sort b.name d ∷ bs) (b ∷ rebound bs x d)

-- the names, with another value at a place
abbrev pub revalued : List Binding → ℕ → Data → List Binding
revalued [] i d = []
revalued (b ∷ bs) zero d = bound b.sort b.name d ∷ bs
revalued (b ∷ bs) (suc i) d = b ∷ revalued bs i d

-- a name that is lent
abbrev pub lent : LentBinding → Binding
lent b = bound b.sort b.name.now b.value.now

-- where a name stands first, or the number of names
abbrev pub place_of : List Binding → List ℕ → ℕ
place_of [] x = 0
place_of (b ∷ bs) x = cond (bytes_eq x b.name) 0 (suc (place_of bs x))

abbrev pub is_frozen : Sort → Bool
is_frozen Frozen = true
is_frozen Static = false
is_frozen Field = false
is_frozen Local = false

-- what an assignment of a visible or unknown name makes of the names: the kind of the value may
-- change
abbrev pub assigned_to : Option Binding → List Binding → List ℕ → Data → Result (List Binding) Fault
assigned_to None names x d = Err (F.UnknownName x)
assigned_to (Some b) names x d = cond (is_frozen b.sort) (Err (F.Frozen x)) (Ok (rebound names x d))

-- what an assignment makes of the names: `x` has to be visible, and not frozen
abbrev pub assigned : List Binding → List ℕ → Data → Result (List Binding) Fault
assigned names x d = assigned_to (binding_of names x) names x d

-- what the answer of an assignment says of the names that it leaves
abbrev pub assignment : Result (Unit {0}) AssignFault → List ℕ → List Binding
    → Result (List Binding) Fault
assignment (Ok done) x names = Ok names
assignment (Err A.UnknownName) x names = Err (F.UnknownName x)
assignment (Err A.Frozen) x names = Err (F.Frozen x)

-- variables at their literals
abbrev pub at_literals : Sort → List Variable → List Binding
at_literals sort variables = map (λ v. bound sort v.name v.value) variables

-- names as they are once nothing may assign them
abbrev pub frozen : List Binding → List Binding
frozen names = map (λ b. bound Frozen b.name b.value) names
