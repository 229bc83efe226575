-- What makes scripts no plan.
--
-- faults of a plan: In their order; two top-level classes of one team and name are names that are
-- not all distinct (`has_double`); nodes and keys are counted of what is kept (`plan_fault`). Why
-- there is no plan is a fault or out of memory (`PlanError`).
use Rattle.std.specs.Prelude.{◌≡◌, ℕ, ◌+◌, ◌<◌, List, [], ◌∷◌, ◌++◌, ◌||◌, map, length, Bool, false, cond, nat_lt, Option, Some, None, ⊤}
use Rattle.std.specs.List.{list_any}
use Rattle.std.specs.Option.{option_or}
use Rattle.std.specs.Str.{bytes_eq}
use Rattle.iso_model.specs.Scripts.{Class, class, Script}
use Rattle.iso_model.specs.declared.limits.TheConstants.{SCRIPTS, NODES, KEYS}
use Rattle.iso_plan.specs.KeyTable.{keys}
use Rattle.iso_plan.specs.KeptNodes.{first_unknown, plan_tree}
use Rattle.iso_plan.specs.Tree.{Row, in_team, tree}
use Rattle.iso_plan.specs.declared.fault.PlanFault.{PlanFault}
use Rattle.iso_plan.specs.declared.fault.PlanFault.TheVariants.{DoubleClass, NotSelected, TooManyNodes, TooManyKeys, TooManyScripts}
use Rattle.iso_model.specs.declared.input_error.InputError.{InputError}
use Rattle.iso_model.specs.declared.input_error.InputError.TheVariants.{Fault, OutOfMemory}

-- why a plan was not made
abbrev pub PlanError : Type 0
PlanError = InputError PlanFault

abbrev pub class_name : Class → List ℕ
class_name (class title ms) = title.name

-- the names of a team's top-level classes, after the team's; no name has a dot in it
abbrev pub team_names : List ℕ → List Class → List (List ℕ)
team_names team cs = map (λ c. in_team team (class_name c)) cs

-- the names of all top-level classes
abbrev pub top_names : List Script → List (List ℕ)
top_names [] = []
top_names (s ∷ ss) = team_names s.team s.classes ++ top_names ss

-- whether a name stands again after it: the names are not all distinct
abbrev pub has_double : List (List ℕ) → Bool
has_double [] = false
has_double (n ∷ ns) = list_any (bytes_eq n) ns || has_double ns

-- what is wrong with scripts by themselves: there are too many, or two top-level classes of one
-- team and name
abbrev pub scripts_fault : List Script → Option PlanFault
scripts_fault scripts =
    cond (nat_lt SCRIPTS (length scripts)) (Some TooManyScripts)
    (cond (has_double (top_names scripts)) (Some DoubleClass) None)

-- the first path that names no node, as a fault
abbrev pub not_selected : Option ℕ → Option PlanFault
not_selected None = None
not_selected (Some index) = Some (NotSelected index)

-- too many nodes, the root among them
abbrev pub full_fault : List Row → Option PlanFault
full_fault tree = cond (nat_lt NODES (length tree)) (Some TooManyNodes) None

-- too many different declared keys, besides the global key
abbrev pub keys_fault : List Row → Option PlanFault
keys_fault tree = cond (nat_lt (KEYS + 1) (length (keys tree))) (Some TooManyKeys) None

-- what is wrong with paths that select among the nodes of scripts: one names no node, or too many
-- nodes are kept
abbrev pub nodes_fault : List Script → List (List ℕ) → Option PlanFault
nodes_fault scripts only = option_or (not_selected (first_unknown (tree scripts) only))
    (full_fault (plan_tree scripts only))

-- the first fault of scripts and paths. Nodes and keys are counted of what is kept.
abbrev pub plan_fault : List Script → List (List ℕ) → Option PlanFault
plan_fault scripts only = option_or (scripts_fault scripts)
    (option_or (nodes_fault scripts only) (keys_fault (plan_tree scripts only)))

-- a refusal: it is this fault, or memory ran out
abbrev pub IsFaultOf : Option PlanFault → PlanError → Type 0
IsFaultOf first (Fault fault) = first ≡ Some fault
IsFaultOf first OutOfMemory = ⊤

-- a refusal while a tree grows to `n` nodes: they are more than it may have, or memory
-- ran out
abbrev pub IsFull : (most n : ℕ) → PlanError → Type 0
IsFull most n (Fault fault) = (fault ≡ TooManyNodes) × (most < n)
IsFull most n OutOfMemory = ⊤

-- a refusal of `n` keys, the global key among them: they are too many, or memory ran out
abbrev pub IsCrowded : ℕ → PlanError → Type 0
IsCrowded n (Fault fault) = (fault ≡ TooManyKeys) × (KEYS + 1 < n)
IsCrowded n OutOfMemory = ⊤
