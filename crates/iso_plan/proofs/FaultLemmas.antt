-- What makes scripts no plan, test by test.
use Rattle.std.proofs.Common.{◌≡◌, ◌+◌, ◌≤◌, List, Option, None, Some, Bool, true, false, cond, length, ap, ◌∙◌}
use Rattle.std.proofs.lemmas.Bool.{le-ltb, lt-ltb}
use Rattle.std.specs.Option.{option_or}
use Rattle.iso_model.specs.Scripts.{Script}
use Rattle.iso_model.specs.declared.limits.TheConstants.{SCRIPTS, NODES, KEYS}
use Rattle.iso_plan.specs.Faults.{IsCrowded, IsFaultOf, IsFull, full_fault, has_double, keys_fault, scripts_fault, top_names, PlanError}
use Rattle.iso_plan.specs.KeyTable.{keys}
use Rattle.iso_plan.specs.Tree.{Row, tree}
use Rattle.iso_model.specs.declared.input_error.InputError.TheVariants.{Fault, OutOfMemory}
use Rattle.iso_plan.specs.declared.fault.PlanFault.{PlanFault}
use Rattle.iso_plan.specs.declared.fault.PlanFault.TheVariants.{DoubleClass, TooManyNodes, TooManyKeys, TooManyScripts}

pub scripts-accepted : (ss : List Script) → length ss ≤ SCRIPTS → has_double (top_names ss) ≡ false → scripts_fault ss ≡ None
scripts-accepted ss few single =
    ap (λ (b : Bool). cond b (Some TooManyScripts) (cond (has_double (top_names ss)) (Some DoubleClass) None)) (le-ltb SCRIPTS (length ss) few)
    ∙ ap (λ (b : Bool). cond b (Some DoubleClass) None) single

pub scripts-double : (ss : List Script) → length ss ≤ SCRIPTS → has_double (top_names ss) ≡ true → scripts_fault ss ≡ Some DoubleClass
scripts-double ss few double =
    ap (λ (b : Bool). cond b (Some TooManyScripts) (cond (has_double (top_names ss)) (Some DoubleClass) None)) (le-ltb SCRIPTS (length ss) few)
    ∙ ap (λ (b : Bool). cond b (Some DoubleClass) None) double

pub full-none : (tree : List Row) → length tree ≤ NODES → full_fault tree ≡ None
full-none tree small = ap (λ (b : Bool). cond b (Some TooManyNodes) None) (le-ltb NODES (length tree) small)

pub full-refused : (tree : List Row) (e : PlanError) → IsFull NODES (length tree) e → IsFaultOf (full_fault tree) e
full-refused tree (Fault f) full = rw full.0 (ap (λ (b : Bool). cond b (Some TooManyNodes) None) (lt-ltb NODES (length tree) full.1))
full-refused tree OutOfMemory full = full

pub keys-none : (tree : List Row) → length (keys tree) ≤ KEYS + 1 → keys_fault tree ≡ None
keys-none tree known = ap (λ (b : Bool). cond b (Some TooManyKeys) None) (le-ltb (KEYS + 1) (length (keys tree)) known)

pub keys-refused : (tree : List Row) (e : PlanError) → IsCrowded (length (keys tree)) e → IsFaultOf (keys_fault tree) e
keys-refused tree (Fault f) crowded = rw crowded.0 (ap (λ (b : Bool). cond b (Some TooManyKeys) None) (lt-ltb (KEYS + 1) (length (keys tree)) crowded.1))
keys-refused tree OutOfMemory crowded = crowded

-- a fault of a later test is the first where those before it find none
pub later : (first second : Option PlanFault) (e : PlanError) → first ≡ None → IsFaultOf second e → IsFaultOf (option_or first second) e
later first second (Fault f) none is = ap (λ (o : Option PlanFault). option_or o second) none ∙ is
later first second OutOfMemory none is = is

-- and a fault of the first test is the first
pub sooner : (first second : Option PlanFault) (e : PlanError) → IsFaultOf first e → IsFaultOf (option_or first second) e
sooner first second (Fault f) is = ap (λ (o : Option PlanFault). option_or o second) is
sooner first second OutOfMemory is = is

pub none-of : (first second : Option PlanFault) → first ≡ None → second ≡ None → option_or first second ≡ None
none-of first second none rest = ap (λ (o : Option PlanFault). option_or o second) none ∙ rest
