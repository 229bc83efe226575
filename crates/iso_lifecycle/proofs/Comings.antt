-- What a body comes to is what the definitions say of its node.
use Rattle.std.proofs.Common.{◌≡◌, ℕ, ◌≤◌, List, [], ◌∷◌, ◌++◌, length, drop, Option, Some, None, Bool, true, cond, refl, sym, ap, ◌∙◌, arith, true≢false, length-append}
use Rattle.iso_model.proofs.BodyRuns.{body-steps-finish, closing-finish, opening-finish, test-finish}
use Rattle.iso_model.proofs.ChainRuns.{class_from-restricted, test_from-restricted}
use Rattle.iso_model.proofs.SeenNames.{block_unless-length}
use Rattle.iso_model.specs.Alone.{after_all, barred, class_outcome, test_outcome}
use Rattle.iso_model.specs.Bodies.{Stage, account_of, body_finish, body_finished, during, ended, first_ending}
use Rattle.iso_model.specs.Chains.{ClassHead, TestHead, class_rights, test_rights}
use Rattle.iso_model.specs.Environments.{environment}
use Rattle.iso_model.specs.Jobs.{body_of_block}
use Rattle.iso_model.specs.Names.{at_literals, frozen}
use Rattle.iso_model.specs.Openings.{Frame, Opening, before_all, opened, opening, statics_of, words_of}
use Rattle.iso_model.specs.Resources.{Resources}
use Rattle.iso_model.specs.Statements.{State, is_well}
use Rattle.iso_model.specs.Tests.{Body, test}
use Rattle.iso_model.specs.Verdicts.{verdict}
use Rattle.iso_model.specs.declared.names.Sort.TheVariants.{Static}
use Rattle.iso_model.specs.declared.place.Lifecycle.TheVariants as L
use Rattle.iso_plan.specs.NodeChains.{chain_test, class_heads, own_test, rights_with}
use Rattle.iso_plan.specs.Paths.{row_at}
use Rattle.iso_plan.specs.RowView.{tree_of}
use Rattle.iso_plan.specs.Tree.{Kind, root, class_node, test_node}
use Rattle.iso_lifecycle.specs.Ends.{closing_ending, outcome_of}
use Rattle.iso_lifecycle.specs.Origins.{HasCome, done_whole}
use Rattle.iso_lifecycle.specs.Subjects.{IsOfClass, Subject, begun, begun_closing, begun_opening, begun_testing, chain_alone, classes_of, enclosing, first_frame, is_kind_of, opening_of, own_frame, reached, rights_of_subject, started}
use Rattle.iso_lifecycle.specs.declared.kind.BodyKind.{BodyKind}
use Rattle.iso_lifecycle.specs.declared.kind.BodyKind.TheVariants.{BeforeAll, Test, AfterAll}

-- what kind of node a subject's is
abbrev pub node_kind : Subject → Kind
node_kind s = (row_at (tree_of s.plan) s.node).kind

-- the chain of a class is its own head on that of the enclosing classes
pub record InClass (s : Subject) : Type 0 where
  pub head : ClassHead
  pub chain : classes_of s ≡ head ∷ classes_of (enclosing s)
  pub own : chain_test (tree_of s.plan) s.node ≡ None
  pub rights : rights_of_subject s ≡ class_rights (classes_of s)

-- the chain of a test is that of the enclosing classes
pub record InTest (s : Subject) : Type 0 where
  pub head : TestHead
  pub chain : classes_of s ≡ classes_of (enclosing s)
  pub own : chain_test (tree_of s.plan) s.node ≡ Some head
  pub rights : rights_of_subject s ≡ test_rights head (classes_of s)

class_by : (k : Kind) (cs ds : List ClassHead) → is_kind_of BeforeAll k ≡ true → cs ≡ class_heads k ++ ds
    → (c : ClassHead) × ((cs ≡ c ∷ ds) × ((own_test k ≡ None) × (rights_with k cs ≡ class_rights cs)))
class_by root cs ds fits e = absurd (true≢false (sym fits))
class_by (class_node isolated head) cs ds fits e = (head, (e, (refl, refl)))
class_by (test_node head) cs ds fits e = absurd (true≢false (sym fits))

test_by : (k : Kind) (cs ds : List ClassHead) → is_kind_of Test k ≡ true → cs ≡ class_heads k ++ ds
    → (t : TestHead) × ((cs ≡ ds) × ((own_test k ≡ Some t) × (rights_with k cs ≡ test_rights t cs)))
test_by root cs ds fits e = absurd (true≢false (sym fits))
test_by (class_node isolated head) cs ds fits e = absurd (true≢false (sym fits))
test_by (test_node head) cs ds fits e = (head, (e, (refl, refl)))

-- how a node's chain grows, as laws of plans say it
abbrev pub Grows : Subject → Type 0
Grows s = classes_of s ≡ class_heads (node_kind s) ++ classes_of (enclosing s)

pub in-class : (s : Subject) → Grows s → IsOfClass s → InClass s
in-class s grows fits = let w = class_by (node_kind s) (classes_of s) (classes_of (enclosing s)) fits grows in record { head = w.0; chain = w.1.0; own = w.1.1.0; rights = w.1.1.1 }

pub in-test : (s : Subject) → Grows s → is_kind_of Test (node_kind s) ≡ true → InTest s
in-test s grows fits = let w = test_by (node_kind s) (classes_of s) (classes_of (enclosing s)) fits grows in record { head = w.0; chain = w.1.0; own = w.1.1.0; rights = w.1.1.1 }

pub closes-class : (k : Kind) → is_kind_of AfterAll k ≡ true → is_kind_of BeforeAll k ≡ true
closes-class root fits = fits
closes-class (class_node isolated head) fits = refl
closes-class (test_node head) fits = fits

-- what a class's `before_all` came to, and what its opening left
abbrev pub opened_block : (s : Subject) → InClass s → State
opened_block s w = before_all w.head (classes_of (enclosing s)) (opening_of (enclosing s))

abbrev pub opened_there : (s : Subject) → InClass s → Opening
opened_there s w = opened (opening_of (enclosing s)) (opened_block s w)

opened_is : (c : ClassHead) (cs : List ClassHead) (m : Resources) → (opening cs m).well ≡ true → opening (c ∷ cs) m ≡ opened (opening cs m) (before_all c cs (opening cs m))
opened_is c cs m well = let o = opening cs m in ap (λ (b : Bool). cond b (opened o (before_all c cs o)) o) well

pub opening-is : (s : Subject) (w : InClass s) → (opening_of (enclosing s)).well ≡ true → opening_of s ≡ opened_there s w
opening-is s w well = ap (λ (cs : List ClassHead). opening cs (started s.start)) w.chain ∙ opened_is w.head (classes_of (enclosing s)) (started s.start) well

-- what a class's `before_all` comes to
pub opens : (s : Subject) (w : InClass s) → done_whole BeforeAll s ≡ body_of_block (opened_block s w)
opens s w =
    let o = opening_of (enclosing s) in
    let rights : rights_of_subject s ≡ class_rights (w.head ∷ classes_of (enclosing s)) = w.rights ∙ ap class_rights w.chain in
    (λ i. body_finished (rights i) (begun_opening (w.chain i) o)) ∙ opening-finish w.head (classes_of (enclosing s)) o

-- what its `after_all` comes to
pub closes : (s : Subject) (w : InClass s) → (opening_of (enclosing s)).well ≡ true → done_whole AfterAll s ≡ body_of_block (after_all w.head (classes_of (enclosing s)) (opened_there s w))
closes s w well =
    let rights : rights_of_subject s ≡ class_rights (w.head ∷ classes_of (enclosing s)) = w.rights ∙ ap class_rights w.chain in
    let o = opening-is s w well in
    (λ i. body_finished (rights i) (begun_closing (w.chain i) (o i))) ∙ closing-finish w.head (classes_of (enclosing s)) (opened_there s w)

-- what a test comes to
pub tests : (s : Subject) (w : InTest s) → done_whole Test s ≡ test w.head (classes_of s) (opening_of s)
tests s w = (λ i. body_finished (w.rights i) (begun_testing (w.own i) (classes_of s) (opening_of s))) ∙ test-finish w.head (classes_of s) (opening_of s)

-- a body that has ended came to what it comes to, done whole
pub comes : (kind : BodyKind) (s : Subject) (n : ℕ) (stage : Stage) → stage ≡ (reached kind s n).stage → HasCome kind s stage
comes kind s n (during p k b js) is = tt
comes kind s n (ended a) is =
    let r = rights_of_subject s in
    let m = (reached kind s n).resources in
    ap account_of (ap (λ (g : Stage). body_finish r g m) is ∙ body-steps-finish r n (begun kind s))

-- the outcome of a test
pub test-outcome : (s : Subject) → Grows s → is_kind_of Test (node_kind s) ≡ true → (opening_of (enclosing s)).well ≡ true
    → record { verdict = verdict (done_whole Test s).endings; output = (done_whole Test s).lines } ≡ outcome_of s
test-outcome s grows fits well =
    let w = in-test s grows fits in
    let cs = classes_of s in
    let m = started s.start in
    let o = opening_of s in
    let opened_well : o.well ≡ true = ap (λ (ds : List ClassHead). (opening ds m).well) w.chain ∙ well in
    let whole : outcome_of s ≡ test_outcome (test w.head cs o) =
    ap (λ (t : Option TestHead). chain_alone t cs m) w.own
    ∙ sym (test_from-restricted w.head cs m)
    ∙ ap (λ (b : Bool). cond b (test_outcome (test w.head cs o)) (barred o.frames)) opened_well in
    ap test_outcome (tests s w) ∙ sym whole

-- the outcome of a class, of which this is what its `after_all` came to
pub class-outcome : (s : Subject) → Grows s → IsOfClass s → (opening_of (enclosing s)).well ≡ true
    → let b = done_whole AfterAll s in
    outcome_of s ≡ record { verdict = verdict ((own_frame s).ending ∷ first_ending b.endings ∷ []); output = (own_frame s).lines ++ b.lines }
class-outcome s grows fits well =
    let w = in-class s grows fits in
    let cs = classes_of (enclosing s) in
    let m = started s.start in
    let o = opening_of (enclosing s) in
    let p = opened_there s w in
    let own : own_frame s ≡ first_frame p.frames = ap (λ (q : Opening). first_frame q.frames) (opening-is s w well) in
    let ended = closes s w well in
    let whole : outcome_of s ≡ class_outcome p.frames (after_all w.head cs p) =
    (λ i. chain_alone (w.own i) (w.chain i) m)
    ∙ sym (class_from-restricted w.head cs m)
    ∙ ap (λ (b : Bool). cond b (class_outcome p.frames (after_all w.head cs p)) (barred o.frames)) well in
    whole ∙ sym (λ i. record { verdict = verdict ((own i).ending ∷ first_ending (ended i).endings ∷ []); output = (own i).lines ++ (ended i).lines })

-- how its `after_all` ends
pub closing-is : (s : Subject) → Grows s → IsOfClass s → (opening_of (enclosing s)).well ≡ true
    → first_ending (done_whole AfterAll s).endings ≡ closing_ending (classes_of s) (opening_of s)
closing-is s grows fits well =
    let w = in-class s grows fits in
    let there = opening-is s w well in
    ap (λ (b : Body). first_ending b.endings) (closes s w well) ∙ sym (λ i. closing_ending (w.chain i) (there i))

-- what an opened class's frame is
pub own-is : (s : Subject) (w : InClass s) → (opening_of (enclosing s)).well ≡ true → own_frame s ≡ first_frame (opened_there s w).frames
own-is s w well = ap (λ (q : Opening). first_frame q.frames) (opening-is s w well)

pub frames-are : (s : Subject) → Grows s → IsOfClass s → (opening_of (enclosing s)).well ≡ true → (opening_of s).frames ≡ own_frame s ∷ (opening_of (enclosing s)).frames
frames-are s grows fits well =
    let w = in-class s grows fits in
    ap (λ (q : Opening). q.frames) (opening-is s w well) ∙ ap (λ (f : Frame). f ∷ (opening_of (enclosing s)).frames) (sym (own-is s w well))

pub ending-is : (s : Subject) → Grows s → IsOfClass s → (opening_of (enclosing s)).well ≡ true → first_ending (done_whole BeforeAll s).endings ≡ (own_frame s).ending
ending-is s grows fits well =
    let w = in-class s grows fits in
    ap (λ (b : Body). first_ending b.endings) (opens s w) ∙ ap (λ (f : Frame). f.ending) (sym (own-is s w well))

pub lines-are : (s : Subject) → Grows s → IsOfClass s → (opening_of (enclosing s)).well ≡ true → (done_whole BeforeAll s).lines ≡ (own_frame s).lines
lines-are s grows fits well =
    let w = in-class s grows fits in
    ap (λ (b : Body). b.lines) (opens s w) ∙ ap (λ (f : Frame). f.lines) (sym (own-is s w well))

pub well-is : (s : Subject) → Grows s → IsOfClass s → (opening_of (enclosing s)).well ≡ true → (opening_of s).well ≡ is_well (own_frame s).ending
well-is s grows fits well =
    let w = in-class s grows fits in
    ap (λ (q : Opening). q.well) (opening-is s w well) ∙ ap (λ (f : Frame). is_well f.ending) (sym (own-is s w well))

pub statics-are : (s : Subject) → Grows s → IsOfClass s → (opening_of (enclosing s)).well ≡ true
    → frozen (drop (length (statics_of (opening_of (enclosing s)).frames)) (done_whole BeforeAll s).names) ≡ (own_frame s).statics
statics-are s grows fits well =
    let w = in-class s grows fits in
    let k = length (statics_of (opening_of (enclosing s)).frames) in
    ap (λ (b : Body). frozen (drop k b.names)) (opens s w) ∙ ap (λ (f : Frame). f.statics) (sym (own-is s w well))

-- the names of the enclosing classes are among them
pub names-outer : (s : Subject) → Grows s → IsOfClass s → length (statics_of (opening_of (enclosing s)).frames) ≤ length (done_whole BeforeAll s).names
names-outer s grows fits =
    let w = in-class s grows fits in
    let cs = classes_of (enclosing s) in
    let o = opening_of (enclosing s) in
    let statics = statics_of o.frames in
    let own = at_literals Static w.head.statics in
    let kept : length (done_whole BeforeAll s).names ≡ length (statics ++ own) =
    ap (λ (b : Body). length b.names) (opens s w)
    ∙ block_unless-length w.head.disabled (class_rights (w.head ∷ cs)) w.head.before_all (environment (statics ++ own) 0 (words_of (w.head ∷ cs) L.BeforeAll)) o.resources in
    let sum = length-append statics own in
    omega (arith, kept, sum)
