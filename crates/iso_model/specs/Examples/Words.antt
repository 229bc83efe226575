-- The words in which example scripts are written and their outcomes said. Most are spelled as in a
-- script. All of a script stands on one line, so every row is 1 where none is given.
use Prim.Native.String.{String}
use Rattle.std.specs.Prelude.{ℕ, zero, suc, List, [], ◌∷◌, Bool, None, Some, codes, true, map, pos, negsuc, cond, bytes_eq, replicate}
use Rattle.std.specs.FinMap.{empty, insert}
use Rattle.iso_model.specs.Rights.{rights_of}
use Rattle.iso_model.specs.Chains.{TestHead}
use Rattle.iso_model.specs.Blocks.{begun, block}
use Rattle.iso_model.specs.Environments.{Environment, environment}
use Rattle.iso_model.specs.Evaluation.{Given, evaluated}
use Rattle.iso_model.specs.ResourceKeys.{properties_key, file_key}
use Rattle.iso_model.specs.Names.{bound}
use Rattle.iso_model.specs.Resources.{Resources, empty_world, changed_at}
use Rattle.iso_model.specs.Statements.{State, ran, with_steps}
use Rattle.iso_model.specs.Steps.{Machine, first_point, machine_at, steps}
use Rattle.iso_model.specs.Syntax as S
use Rattle.iso_model.specs.Syntax.{Term, literal, chain, compare, call, Terms, no_terms, term, Act, plain, choice, Acts, no_acts, act}
use Rattle.iso_model.specs.declared.access.Access.TheVariants.{Read, Write}
use Rattle.iso_model.specs.declared.data.Data.{Data}
use Rattle.iso_model.specs.declared.data.Data.TheVariants.{Whole, Flag, Text}
use Rattle.iso_model.specs.declared.fault.FaultKind.{FaultKind}
use Rattle.iso_model.specs.declared.heads.Mark.{Mark}
use Rattle.iso_model.specs.declared.heads.Target.TheVariants.{Itself, Children}
use Rattle.iso_model.specs.declared.heads.Variable.{Variable}
use Rattle.iso_model.specs.declared.names.Sort.TheVariants.{Frozen, Field, Local}
use Rattle.iso_model.specs.declared.outcome.Ending.{Ending}
use Rattle.iso_model.specs.declared.outcome.Ending.TheVariants as E
use Rattle.iso_model.specs.declared.outcome.Note.{Note}
use Rattle.iso_model.specs.declared.outcome.Outcome.{Outcome}
use Rattle.iso_model.specs.declared.outcome.Verdict.TheVariants as V
use Rattle.iso_model.specs.declared.place.Place.{Place}
use Rattle.iso_model.specs.declared.place.Place.TheVariants.{Row}
use Rattle.iso_model.specs.declared.place.BlockName.TheVariants.{Test, Class}
use Rattle.iso_model.specs.declared.place.Lifecycle.{Lifecycle}
use Rattle.iso_model.specs.declared.resource.Change.TheVariants.{WriteFile}
use Rattle.iso_model.specs.declared.resource.Resource.TheVariants.{Props}
use Rattle.iso_model.specs.declared.tree.Operator.TheVariants.{Add, Subtract, Multiply, Join}
use Rattle.iso_model.specs.declared.tree.Comparison.TheVariants.{Equal, NotEqual, Less}
use Rattle.iso_model.specs.declared.tree.Function.TheVariants as F

-- literals: `"t"`, a text of `length` bytes, `n`, `-n`, and `true` or `false`
abbrev pub quoted : String → Term
quoted t = literal (Text (codes t))

abbrev pub long : ℕ → Term
long length = literal (Text (replicate length 97))

abbrev pub number : ℕ → Term
number n = literal (Whole (pos n))

abbrev pub minus : ℕ → Term
minus zero = number 0
minus (suc n) = literal (Whole (negsuc n))

abbrev pub flag : Bool → Term
flag b = literal (Flag b)

-- expressions: a name, chains, comparisons, and functions by their own words
abbrev pub name : String → Term
name x = S.name (codes x)

abbrev pub terms : List Term → Terms
terms [] = no_terms
terms (e ∷ es) = term e (terms es)

abbrev pub add : Term → List Term → Term
add e es = chain Add e (terms es)

abbrev pub subtract : Term → List Term → Term
subtract e es = chain Subtract e (terms es)

abbrev pub multiply : Term → List Term → Term
multiply e es = chain Multiply e (terms es)

abbrev pub join : Term → List Term → Term
join e es = chain Join e (terms es)

abbrev pub equal : Term → Term → Term
equal a b = compare Equal a b

abbrev pub not_equal : Term → Term → Term
not_equal a b = compare NotEqual a b

abbrev pub less : Term → Term → Term
less a b = compare Less a b

abbrev pub text : Term → Term
text e = call F.Text e

abbrev pub len : Term → Term
len e = call F.Len e

abbrev pub prop : Term → Term
prop e = call F.Prop e

abbrev pub has_prop : Term → Term
has_prop e = call F.HasProp e

abbrev pub file : Term → Term
file e = call F.File e

abbrev pub has_file : Term → Term
has_file e = call F.HasFile e

-- a body with all its statements on one row, and one with all on its first
abbrev pub on_row : ℕ → List Act → Acts
on_row row [] = no_acts
on_row row (a ∷ acts) = act row a (on_row row acts)

abbrev pub body : List Act → Acts
body acts = on_row 1 acts

-- statements: `let x = e;`, `x = e;` and the others by their own words
abbrev pub let_name : String → Term → Act
let_name x e = plain (S.let_name (codes x) e)

abbrev pub assign : String → Term → Act
assign x e = plain (S.assign (codes x) e)

abbrev pub print : Term → Act
print e = plain (S.print e)

abbrev pub assert : Term → Act
assert e = plain (S.assert e)

abbrev pub assert_equal : Term → Term → Act
assert_equal a b = plain (S.assert_equal a b)

abbrev pub assume : Term → String → Act
assume e reason = plain (S.assume e (codes reason))

abbrev pub fail : String → Act
fail message = plain (S.fail (codes message))

abbrev pub set_prop : Term → Term → Act
set_prop a b = plain (S.set_prop a b)

abbrev pub clear_prop : Term → Act
clear_prop e = plain (S.clear_prop e)

abbrev pub set_locale : Term → Act
set_locale e = plain (S.set_locale e)

abbrev pub write_file : Term → Term → Act
write_file a b = plain (S.write_file a b)

abbrev pub append_file : Term → Term → Act
append_file a b = plain (S.append_file a b)

abbrev pub delete_file : Term → Act
delete_file e = plain (S.delete_file e)

abbrev pub if_then : Term → List Act → Act
if_then e acts = choice e (body acts) no_acts

abbrev pub if_else : Term → List Act → List Act → Act
if_else e acts others = choice e (body acts) (body others)

abbrev pub repeat : Term → List Act → Act
repeat e acts = S.repeat e (body acts)

-- let x = 1; if true { let x = 2; }
abbrev pub takes_name_twice : List Act
takes_name_twice = let_name "x" (number 1) ∷ if_then (flag true) (let_name "x" (number 2) ∷ []) ∷ []

-- repeat n { }
abbrev pub repeats : ℕ → Act
repeats n = repeat (number n) []

-- repeat 2 { let x = 1; print x; }
abbrev pub repeats_twice : List Act
repeats_twice = repeat (number 2) (let_name "x" (number 1) ∷ print (name "x") ∷ []) ∷ []

-- marks, statics and fields
abbrev pub reads : List ℕ → Mark
reads key = record { access = Read; target = Itself; key = key }

abbrev pub writes : List ℕ → Mark
writes key = record { access = Write; target = Itself; key = key }

-- the same for the children of the class
abbrev pub for_children : Mark → Mark
for_children m = record m { target = Children }

abbrev pub variable : String → ℕ → Variable
variable x n = record { name = codes x; value = Whole (pos n) }

-- the key of file a
abbrev pub file_a : List ℕ
file_a = file_key (codes "a")

-- a test without marks
abbrev pub a_test : List Act → TestHead
a_test acts = record { marks = []; disabled = None; body = body acts }

-- the starting resources of a world that says that property a is "1"
abbrev pub property_a_is_1 : Resources
property_a_is_1 k = cond (bytes_eq k properties_key)
    (Some (Props (insert empty (codes "a") (codes "1")))) (empty_world k)

-- expressions by themselves, with the rights of no mark: what each gives where no name is visible
abbrev pub values_of : List Term → List Given
values_of = map (evaluated [] empty_world (rights_of []))

-- a body as the block of a test, by itself: with the rights of these marks, where no name is
-- visible and `printed` bytes were printed before it
abbrev pub block_with : List Mark → ℕ → Acts → State
block_with marks printed acts =
    block (rights_of marks) acts (environment [] printed Test) empty_world

abbrev pub by_itself : List Act → State
by_itself acts = block_with [] 0 (body acts)

-- the same where the marks let it look at file a, which has 4,096 bytes
abbrev pub beside_a_long_file : List Act → State
beside_a_long_file acts = block (rights_of (reads file_a ∷ [])) (body acts) (environment [] 0 Test)
    (changed_at empty_world file_a (WriteFile (replicate 4096 97)))

-- statements by themselves: how each ends
abbrev pub endings_of : List Act → List Ending
endings_of = map (λ a. (by_itself (a ∷ [])).here.ending)

-- a block of a test in which n is a frozen static, f a field and x a local, and which may print no
-- further line
abbrev pub crowded : Environment
crowded =
    let one : Data = Whole (pos 1) in
    environment (bound Frozen (codes "n") one ∷ bound Field (codes "f") one
    ∷ bound Local (codes "x") one ∷ []) 65536 Test

-- the same where no step is left either
abbrev pub without_steps : State
without_steps = record { here = with_steps 0 (begun crowded); resources = empty_world }

-- statements by themselves in these: how each ends
abbrev pub endings_crowded : List Act → List Ending
endings_crowded = map (λ a. (block (rights_of []) (body (a ∷ [])) crowded empty_world).here.ending)

abbrev pub endings_without_steps : List Act → List Ending
endings_without_steps = map (λ a. (ran (rights_of []) 1 a without_steps).here.ending)

-- how a statement on row 3 ends, in an `if` on row 2 in a `repeat` on row 1
abbrev pub ending_on_row_3 : Act → Ending
ending_on_row_3 a =
    (block_with [] 0 (on_row 1 (S.repeat (number 1)
    (on_row 2 (choice (flag true) (on_row 3 (a ∷ [])) no_acts ∷ [])) ∷ []))).here.ending

-- a block after `n` single steps
abbrev pub by_single_steps : ℕ → List Act → Machine
by_single_steps n acts = steps (rights_of []) n
    (machine_at (first_point (body acts) (environment [] 0 Test)) empty_world)

-- the steps that a block has left
abbrev pub steps_left : State → ℕ
steps_left s = s.here.env.steps

-- places: a row of a test's block, and the first row of a lifecycle block of a class at this depth
abbrev pub in_test : ℕ → Place
in_test row = Row Test row

abbrev pub in_class : ℕ → Lifecycle → Place
in_class depth kind = Row (Class depth kind) 1

-- outcomes, with the message, the place and the lines
abbrev pub note : String → Place → Note
note message place = record { message = codes message; place = place }

abbrev pub lines : List String → List (List ℕ)
lines = map codes

abbrev pub passed : List String → Outcome
passed output = record { verdict = V.Pass; output = lines output }

abbrev pub failed : String → Place → List String → Outcome
failed message place output =
    record { verdict = V.Fail (note message place); output = lines output }

abbrev pub faulted : FaultKind → String → Place → List String → Outcome
faulted kind message place output =
    record { verdict = V.Fault kind (note message place); output = lines output }

abbrev pub skipped : String → Place → List String → Outcome
skipped message place output =
    record { verdict = V.Skipped (note message place); output = lines output }

abbrev pub blocked : String → Place → List String → Outcome
blocked message place output =
    record { verdict = V.Blocked (note message place); output = lines output }

-- the ending of a test's block by a fault, at its first row
abbrev pub fault_here : FaultKind → String → Ending
fault_here kind message = E.Fault kind (note message (in_test 1))
