-- Where a body begins, and where its steps lead.
use Rattle.std.proofs.Common.{◌≡◌, ℕ, suc, ◌<◌, ◌≤◌, ◌-◌, List, [], ◌∷◌, length, reverse, Option, Some, false, sym, ap, ◌∙◌, arith, subst, true≢false}
use Rattle.std.proofs.lemmas.List.{length-map, length-reverse}
use Rattle.std.specs.Arc.{arc_value}
use Rattle.std.specs.declared.alloc.Global.{Global}
use Rattle.std.specs.declared.sync.Arc.{Arc}
use Rattle.iso_model.proofs.BodyKeys.{body-step-alike}
use Rattle.iso_model.specs.ChainAgreement.{EqualAt}
use Rattle.iso_model.specs.Bodies.{Going, Stage, body_step, during, ended, fresh_account, going, is_ended, stage_from, stage_unless, test_stage}
use Rattle.iso_model.specs.BodyAgreement.{AlikeGoing}
use Rattle.iso_model.specs.Chains.{ClassHead, TestHead}
use Rattle.iso_model.specs.Disabled.{acts_unless}
use Rattle.iso_model.specs.Jobs.{job, opening_names, test_jobs}
use Rattle.iso_model.specs.Openings.{statics_of}
use Rattle.iso_model.specs.Resources.{Resources}
use Rattle.iso_model.specs.ScriptView.{class_head_of}
use Rattle.iso_model.specs.Syntax.{Acts}
use Rattle.iso_model.specs.Tests.{test_names}
use Rattle.iso_model.specs.declared.heads.ClassHead.{ClassHead as Head}
use Rattle.iso_model.specs.declared.names.Binding.{Binding}
use Rattle.iso_model.specs.declared.place.BlockName.TheVariants.{Class}
use Rattle.iso_model.specs.declared.place.Lifecycle.TheVariants as L
use Rattle.iso_plan.specs.NodeChains.{chain_test}
use Rattle.iso_plan.specs.RowView.{tree_of}
use Rattle.iso_lifecycle.specs.BodyRuns.{rights_of}
use Rattle.iso_lifecycle.specs.BodyViews.{Stands, kind_of_body, stage_of_body, subject_of}
use Rattle.iso_lifecycle.specs.Heads.{heads_in}
use Rattle.iso_lifecycle.specs.JobPlaces.{head_at, outside}
use Rattle.iso_lifecycle.specs.Origins.{HasCome, HasLeft}
use Rattle.iso_lifecycle.specs.Subjects.{Subject, begun, begun_closing, begun_opening, begun_testing, classes_of, enclosing, opening_of, reached, rights_of_subject}
use Rattle.iso_lifecycle.specs.declared.body.Body.{Body}
use Rattle.iso_lifecycle.specs.declared.kind.BodyKind.{BodyKind}
use Rattle.iso_lifecycle.specs.declared.kind.BodyKind.TheVariants.{BeforeAll, Test, AfterAll}
use Rattle.iso_lifecycle.proofs.Comings.{comes}
use Rattle.iso_lifecycle.proofs.JobLemmas.{outside-all, outside-more}

-- the last of the classes, outermost first, is the innermost
pub last-class : (os : List ClassHead) (d : ℕ) → suc d ≡ length os → reverse os ≡ head_at os d ∷ outside os d
last-class os d e = sym (outside-all os) ∙ ap (outside os) (sym e) ∙ outside-more os d (omega (arith, e))

-- a chain has as many classes, outermost first, as the subject's, innermost first
pub heads-length : (heads : List (Arc Head Global)) → length heads ≡ length (heads_in heads)
heads-length heads = sym (length-map heads (λ h. class_head_of (arc_value h)))

pub chain-length : (s : Subject) (heads : List (Arc Head Global)) → reverse (heads_in heads) ≡ classes_of s → length heads ≡ length (classes_of s)
chain-length s heads are = heads-length heads ∙ sym (length-reverse (heads_in heads)) ∙ ap length are

-- a class stands in a chain of at least one
pub some-class : (n m : ℕ) → n ≡ suc m → 1 ≤ n
some-class n m e = omega arith

pub last-within : (n m : ℕ) → n ≡ suc m → n - 1 < n
last-within n m e = omega arith

pub opening-begins : (s : Subject) (c : ClassHead) (cs : List ClassHead) (n : ℕ) (reason : Option (List ℕ)) (acts : Acts) (names : List Binding) → classes_of s ≡ c ∷ cs → n ≡ length (c ∷ cs)
    → reason ≡ c.disabled → acts ≡ c.before_all → names ≡ opening_names c (opening_of (enclosing s)).frames
    → stage_unless reason names (job (Class n L.BeforeAll) acts (length names) false ∷ []) ≡ (begun BeforeAll s).stage
opening-begins s c cs n reason acts names chain count disabled block are =
    (λ i. stage_unless (disabled i) (are i) (job (Class (count i) L.BeforeAll) (block i) (length (are i)) false ∷ []))
    ∙ sym (λ i. (begun_opening (chain i) (opening_of (enclosing s))).stage)

pub closing-begins : (s : Subject) (c : ClassHead) (cs : List ClassHead) (n : ℕ) (acts : Acts) (names : List Binding)
    → classes_of s ≡ c ∷ cs → n ≡ length (c ∷ cs) → acts ≡ acts_unless c.disabled c.after_all
    → names ≡ statics_of (opening_of s).frames
    → stage_from (job (Class n L.AfterAll) acts (length names) false ∷ []) (fresh_account names) ≡ (begun AfterAll s).stage
closing-begins s c cs n acts names chain count block are =
    (λ i. stage_from (job (Class (count i) L.AfterAll) (block i) (length (are i)) false ∷ []) (fresh_account (are i)))
    ∙ sym (λ i. (begun_closing (chain i) (opening_of s)).stage)

pub testing-begins : (s : Subject) (t : TestHead) (cs : List ClassHead) (names : List Binding) → chain_test (tree_of s.plan) s.node ≡ Some t → cs ≡ classes_of s
    → names ≡ test_names cs (opening_of s).frames
    → stage_unless t.disabled names (test_jobs t cs) ≡ (begun Test s).stage
testing-begins s t cs names own chain are =
    ap (λ (ns : List Binding). stage_unless t.disabled ns (test_jobs t cs)) are
    ∙ ap (λ (ds : List ClassHead). test_stage t ds (opening_of s).frames) chain
    ∙ sym (ap (λ (o : Option TestHead). (begun_testing o (classes_of s) (opening_of s)).stage) own)

-- a step more
pub steps-on : (kind : BodyKind) (s : Subject) (n : ℕ) (now next : Stage) (m k : Resources) → now ≡ (reached kind s n).stage → EqualAt (rights_of_subject s) m (reached kind s n).resources
    → going next k ≡ body_step (rights_of_subject s) (going now m) → AlikeGoing (rights_of_subject s) (going next k) (reached kind s (suc n))
steps-on kind s n now next m k stage same stepped =
    let r = rights_of_subject s in
    let alike : AlikeGoing r (going now m) (reached kind s n) = record { stage = stage; resources = same } in
    subst (λ (g : Going). AlikeGoing r g (reached kind s (suc n))) (sym stepped) (body-step-alike r (going now m) (reached kind s n) alike)

-- a step more of a body that stands where so many steps of it alone have left it
pub step-stands : (b : Body) (next : Stage) (m k : Resources) (stands : Stands b m) → going next k ≡ body_step (rights_of b.run.value) (going (stage_of_body b) m)
    → AlikeGoing (rights_of_subject (subject_of b)) (going next k) (reached (kind_of_body b) (subject_of b) (suc stands.steps))
step-stands b next m k stands stepped =
    let rights : rights_of b.run.value ≡ rights_of_subject (subject_of b) = λ i q. b.rights q i in
    steps-on (kind_of_body b) (subject_of b) stands.steps (stage_of_body b) next m k stands.stage stands.resources (stepped ∙ (λ i. body_step (rights i) (going (stage_of_body b) m)))

-- and what it has come to, if that was its last step
pub step-comes : (b : Body) (next : Stage) (m k : Resources) → Stands b m → going next k ≡ body_step (rights_of b.run.value) (going (stage_of_body b) m) → HasCome (kind_of_body b) (subject_of b) next
step-comes b next m k stands stepped = comes (kind_of_body b) (subject_of b) (suc stands.steps) next (step-stands b next m k stands stepped).stage

-- a body that hasn't ended owes nothing
pub owes-come : (kind : BodyKind) (s : Subject) (stage : Stage) → is_ended stage ≡ false → HasCome kind s stage
owes-come kind s (during p n b js) more = tt
owes-come kind s (ended a) more = absurd (true≢false more)

pub owes-left : (kind : BodyKind) (s : Subject) (stage : Stage) (frame : Option Subject) → is_ended stage ≡ false → HasLeft kind s stage frame
owes-left kind s (during p n b js) frame more = tt
owes-left kind s (ended a) frame more = absurd (true≢false more)
