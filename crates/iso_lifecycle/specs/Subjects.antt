-- What a frame, a body or a done is for: a node of a plan, on starting values; and what the
-- definitions say of it.
--
-- subject: A node of a plan on starting values; what the definitions say of it: its classes, their
-- opening (`opening_of`), the frame of its own `before_all` (`own_frame`), its outcome run alone
-- (`outcome_alone`), where each of its bodies stands after `n` steps (`reached`).
-- Also in: `BodyViews`.
-- Standard: JUnit 5 User Guide, test lifecycle.
--
-- body of a subject: Where each of its bodies begins, where `n` steps of it alone lead, and whose
-- frames it begins with (`begun`, `reached`, `framed`, `is_kind_of`); with which body a node begins
-- (`first_kind`).
-- Standard: JUnit 5 User Guide, test lifecycle.
--
-- frame: The statics that a class's `before_all` left, frozen, where the enclosing classes were
-- opened well (`IsFrame`, `own_frame`).
use Rattle.std.specs.Prelude.{◌≡◌, ℕ, List, [], ◌∷◌, ◌++◌, cond, map, reverse, Option, Some, None, Bool, true, false, refl}
use Rattle.std.specs.Coded.{Coded, code_by, coded×, coded_ℕ}
use Rattle.iso_model.specs.Alone.{class_alone, test_alone}
use Rattle.iso_model.specs.Bodies.{Going, body_steps, ended, fresh_account, going, closing_stage, opening_stage, test_stage}
use Rattle.iso_model.specs.Chains.{ClassHead, TestHead}
use Rattle.iso_model.specs.Names.{at_literals}
use Rattle.iso_model.specs.Openings.{Frame, Opening, opening}
use Rattle.iso_model.specs.Resources.{Resources}
use Rattle.iso_model.specs.Rights.{Rights}
use Rattle.iso_model.specs.declared.names.Binding.{Binding}
use Rattle.iso_model.specs.declared.names.Sort.TheVariants.{Field}
use Rattle.iso_model.specs.declared.outcome.Ending.TheVariants.{Well}
use Rattle.iso_model.specs.declared.outcome.Outcome.{Outcome}
use Rattle.iso_model.specs.declared.outcome.Verdict.TheVariants.{Pass}
use Rattle.iso_plan.specs.NodeChains.{chain_classes, chain_test, node_rights}
use Rattle.iso_plan.specs.Paths.{is_test, parent, path, row_at}
use Rattle.iso_plan.specs.Planned.{Planned}
use Rattle.iso_plan.specs.RowView.{tree_of}
use Rattle.iso_plan.specs.Tree.{Kind, root, class_node, test_node, Row}
use Rattle.iso_plan.specs.contracts.plan.Plan as plan
use Rattle.iso_settings.specs.Worlds.{Start, start_code, starting_value_in}
use Rattle.iso_lifecycle.specs.declared.kind.BodyKind.{BodyKind}
use Rattle.iso_lifecycle.specs.declared.kind.BodyKind.TheVariants.{BeforeAll, Test, AfterAll}

-- a node of a plan, on the values that resources start with
pub record Subject : Type 0 where
  pub plan : Planned
  pub start : Start
  pub node : ℕ

abbrev pub subject : Planned → Start → ℕ → Subject
subject plan start node = record { plan = plan; start = start; node = node }

-- a subject is stored as its parts
abbrev pub subject_code : Coded Subject
subject_code =
    code_by (Planned × (Start × ℕ)) (coded× plan.the_row.coded (coded× start_code coded_ℕ))
    (λ s. (s.plan, (s.start, s.node))) (λ p. subject p.0 p.1.0 p.1.1) (λ _. refl)

-- the starting value of each key
abbrev pub started : Start → Resources
started start k = Some (starting_value_in start k)

-- the classes of a subject's chain, innermost first, and its access rights
abbrev pub classes_of : Subject → List ClassHead
classes_of s = chain_classes (tree_of s.plan) s.node

abbrev pub rights_of_subject : Subject → Rights
rights_of_subject s = node_rights (tree_of s.plan) s.node

-- what the opening of its classes leaves: for a class, its own `before_all` with the others
abbrev pub opening_of : Subject → Opening
opening_of s = opening (classes_of s) (started s.start)

-- its parent class, on the same start
abbrev pub enclosing : Subject → Subject
enclosing s = record s { node = parent (tree_of s.plan) s.node }

-- the first of the frames, that of the innermost class
abbrev pub first_frame : List Frame → Frame
first_frame [] = record { statics = []; ending = Well; lines = [] }
first_frame (f ∷ fs) = f

-- what the `before_all` of a class leaves of it
abbrev pub own_frame : Subject → Frame
own_frame s = first_frame (opening_of s).frames

-- the fields of the innermost of some classes, at their literals
abbrev pub first_fields : List ClassHead → List Binding
first_fields [] = []
first_fields (c ∷ cs) = at_literals Field c.fields

-- the fields of a class, with which each test in it begins
abbrev pub own_fields : Subject → List Binding
own_fields s = first_fields (classes_of s)

-- the names that a test begins with in classes that are given outermost first: of each its statics,
-- and its fields
abbrev pub names_seen : List Subject → List Binding
names_seen [] = []
names_seen (s ∷ ss) = ((own_frame s).statics ++ own_fields s) ++ names_seen ss

-- the frames of classes that are given outermost first, as they stand in an opening
abbrev pub frames_of : List Subject → List Frame
frames_of ss = reverse (map own_frame ss)

-- whether a node of this kind has a body of that kind
abbrev pub is_kind_of : BodyKind → Kind → Bool
is_kind_of k root = false
is_kind_of BeforeAll (class_node isolated head) = true
is_kind_of Test (class_node isolated head) = false
is_kind_of AfterAll (class_node isolated head) = true
is_kind_of BeforeAll (test_node head) = false
is_kind_of Test (test_node head) = true
is_kind_of AfterAll (test_node head) = false

-- the body with which a node begins: a test's own, or the `before_all` of a class
abbrev pub first_kind : List Row → ℕ → BodyKind
first_kind tree n = cond (is_test (row_at tree n).kind) Test BeforeAll

-- a subject's node is a class
abbrev pub IsOfClass : Subject → Type 0
IsOfClass s = is_kind_of BeforeAll (row_at (tree_of s.plan) s.node).kind ≡ true

-- A frame is of a class, and its statics are those that the class's `before_all` left, where the
-- enclosing classes were opened well.
pub record IsFrame (s : Subject) (bindings : List Binding) : Type 0 where
  pub class : IsOfClass s
  pub enclosed : (opening_of (enclosing s)).well ≡ true
  pub statics : bindings ≡ (own_frame s).statics

-- the body with which the innermost class of a chain is opened, and that with which it is closed
abbrev pub begun_opening : List ClassHead → Opening → Going
begun_opening [] o = going (ended (fresh_account [])) o.resources
begun_opening (c ∷ cs) o = going (opening_stage c cs o.frames) o.resources

abbrev pub begun_closing : List ClassHead → Opening → Going
begun_closing [] o = going (ended (fresh_account [])) o.resources
begun_closing (c ∷ cs) o = going (closing_stage c cs o.frames) o.resources

-- the body of a test
abbrev pub begun_testing : Option TestHead → List ClassHead → Opening → Going
begun_testing None cs o = going (ended (fresh_account [])) o.resources
begun_testing (Some t) cs o = going (test_stage t cs o.frames) o.resources

-- what the openings before a body left
abbrev pub opened_before : BodyKind → Subject → Opening
opened_before BeforeAll s = opening_of (enclosing s)
opened_before Test s = opening_of s
opened_before AfterAll s = opening_of s

-- a body at its beginning, on what the openings before it left
abbrev pub begun : BodyKind → Subject → Going
begun BeforeAll s = begun_opening (classes_of s) (opening_of (enclosing s))
begun Test s = begun_testing (chain_test (tree_of s.plan) s.node) (classes_of s) (opening_of s)
begun AfterAll s = begun_closing (classes_of s) (opening_of s)

-- where a body stands after `n` steps of it alone
abbrev pub reached : BodyKind → Subject → ℕ → Going
reached kind s n = body_steps (rights_of_subject s) n (begun kind s)

-- the nodes whose frames a body begins with, outermost first: its node's enclosing classes,
-- and for an `after_all` its own
abbrev pub framed : BodyKind → Subject → List ℕ
framed BeforeAll s = reverse (path (tree_of s.plan) (parent (tree_of s.plan) s.node))
framed Test s = reverse (path (tree_of s.plan) (parent (tree_of s.plan) s.node))
framed AfterAll s = reverse (path (tree_of s.plan) s.node)

-- the outcome of a chain run alone; the root has nothing to tell
abbrev pub chain_alone : Option TestHead → List ClassHead → Resources → Outcome
chain_alone (Some t) cs start = test_alone t cs start
chain_alone None [] start = record { verdict = Pass; output = [] }
chain_alone None (c ∷ cs) start = class_alone c cs start

-- the outcome of a node run alone
abbrev pub outcome_alone : List Row → Resources → ℕ → Outcome
outcome_alone tree start n = chain_alone (chain_test tree n) (chain_classes tree n) start
