-- A chain run alone, in the language of scripts, is the test or the class run alone.
use Rattle.std.proofs.Common.{◌≡◌, ℕ, List, [], ◌∷◌, ◌++◌, map, Bool, true, false, cond, refl, ap, ◌∙◌}
use Rattle.iso_suites.specs.ScriptLanguage.{Head, of_class, of_test, marks_in, classes_in, body_in, come_to, outcome_of_class, scripts}
use Rattle.iso_isolation.specs.Alone as L
use Rattle.iso_isolation.specs.Alone.{entered, closed, run_alone}
use Rattle.iso_model.proofs.BodyRuns.{test-finish, opening-finish, closing-finish}
use Rattle.iso_model.specs.Alone.{barred, test_outcome, test_from, class_from, class_outcome, test_alone, class_alone, after_all}
use Rattle.iso_model.specs.Bodies.{body_finish, opening_stage, closing_stage, test_stage}
use Rattle.iso_model.specs.Chains.{ClassHead, TestHead, marks_of, class_rights, test_rights}
use Rattle.iso_model.specs.Openings as M
use Rattle.iso_model.specs.Openings.{Frame, before_all}
use Rattle.iso_model.specs.Resources.{Resources, restricted}
use Rattle.iso_model.specs.Rights.{rights_of}
use Rattle.iso_model.specs.Tests.{Body, test}
use Rattle.iso_model.specs.declared.heads.Mark.{Mark}
use Rattle.iso_model.specs.declared.outcome.Outcome.{Outcome}
use Rattle.iso_model.specs.declared.resource.Resource.{Resource}

abbrev heads : List ClassHead → List Head
heads cs = map of_class cs

marks-heads : (cs : List ClassHead) → marks_in (heads cs) ≡ marks_of cs
marks-heads [] = refl
marks-heads (c ∷ cs) = ap (λ (ms : List Mark). c.marks ++ ms) (marks-heads cs)

pub classes-heads : (cs : List ClassHead) → classes_in (heads cs) ≡ cs
classes-heads [] = refl
classes-heads (c ∷ cs) = ap (λ (ds : List ClassHead). c ∷ ds) (classes-heads cs)

abbrev pub OpeningOf : Type 0
OpeningOf = L.Opening (List ℕ) Resource Frame

-- what an opening is to the isolation theorem
abbrev pub told : M.Opening → OpeningOf
told o = record { frames = o.frames; content = o.resources; well = o.well }

told-either : (b : Bool) (o p : M.Opening) → cond b (told o) (told p) ≡ told (cond b o p)
told-either true o p = refl
told-either false o p = refl

-- the opening with a class's `before_all` ended, by the body that it came to
abbrev with_body : M.Opening → Body → OpeningOf
with_body o b = L.opened scripts (told o) (come_to b)

entered-class : (c : ClassHead) (cs : List ClassHead) (o : M.Opening)
    → L.opened scripts (told o) (entered scripts (of_class c ∷ heads cs) (told o)) ≡ told (M.opened o (before_all c cs o))
entered-class c cs o =
    (λ i. with_body o (body_finish (rights_of (c.marks ++ marks-heads cs i)) (opening_stage c (classes-heads cs i) o.frames) o.resources))
    ∙ ap (with_body o) (opening-finish c cs o)

abbrev opened_more : ClassHead → List ClassHead → OpeningOf → OpeningOf
opened_more c cs o = cond o.well (L.opened scripts o (entered scripts (of_class c ∷ heads cs) o)) o

pub openings : (cs : List ClassHead) (m : Resources) → L.opening scripts (heads cs) m ≡ told (M.opening cs m)
openings [] m = refl
openings (c ∷ cs) m =
    let o = M.opening cs m in
    ap (opened_more c cs) (openings cs m)
    ∙ ap (λ (p : OpeningOf). cond o.well p (told o)) (entered-class c cs o)
    ∙ told-either o.well (M.opened o (before_all c cs o)) o

-- a test by what the opening of its classes left
abbrev test_by : TestHead → List ClassHead → OpeningOf → Outcome
test_by t cs o = cond o.well (test_outcome (body_in (entered scripts (of_test t ∷ heads cs) o).body)) (barred o.frames)

test-ended : (t : TestHead) (cs : List ClassHead) (o : M.Opening) → test_outcome (body_in (entered scripts (of_test t ∷ heads cs) (told o)).body) ≡ test_outcome (test t cs o)
test-ended t cs o =
    (λ i. test_outcome (body_finish (rights_of (t.marks ++ marks-heads cs i)) (test_stage t (classes-heads cs i) o.frames) o.resources))
    ∙ ap test_outcome (test-finish t cs o)

tests : (t : TestHead) (cs : List ClassHead) (m : Resources) → L.test_alone scripts (of_test t) (heads cs) m ≡ test_from t cs m
tests t cs m =
    let o = M.opening cs m in
    ap (test_by t cs) (openings cs m) ∙ ap (λ (r : Outcome). cond o.well r (barred o.frames)) (test-ended t cs o)

-- a class by what the opening of the classes around it left
abbrev class_by : ClassHead → List ClassHead → OpeningOf → Outcome
class_by c cs o =
    let p = L.opened scripts o (entered scripts (of_class c ∷ heads cs) o) in
    cond o.well (outcome_of_class p.frames (body_in (closed scripts (of_class c ∷ heads cs) p).body)) (barred o.frames)

abbrev closed_by : ClassHead → List ClassHead → OpeningOf → Outcome
closed_by c cs p = outcome_of_class p.frames (body_in (closed scripts (of_class c ∷ heads cs) p).body)

class-ended : (c : ClassHead) (cs : List ClassHead) (o : M.Opening)
    → closed_by c cs (told (M.opened o (before_all c cs o))) ≡ class_outcome (M.opened o (before_all c cs o)).frames (after_all c cs (M.opened o (before_all c cs o)))
class-ended c cs o =
    let p = M.opened o (before_all c cs o) in
    (λ i. outcome_of_class p.frames (body_finish (rights_of (c.marks ++ marks-heads cs i)) (closing_stage c (classes-heads cs i) p.frames) p.resources))
    ∙ ap (outcome_of_class p.frames) (closing-finish c cs p)

classes : (c : ClassHead) (cs : List ClassHead) (m : Resources) → L.class_alone scripts (of_class c) (heads cs) m ≡ class_from c cs m
classes c cs m =
    let o = M.opening cs m in
    ap (class_by c cs) (openings cs m)
    ∙ ap (λ (r : Outcome). cond o.well r (barred o.frames)) (ap (closed_by c cs) (entered-class c cs o) ∙ class-ended c cs o)

-- a test, and a class, run alone
pub test-alone : (t : TestHead) (cs : List ClassHead) (m : Resources) → run_alone scripts (of_test t ∷ heads cs) m ≡ test_alone t cs m
test-alone t cs m =
    ap (λ (ms : List Mark). L.test_alone scripts (of_test t) (heads cs) (restricted (rights_of (t.marks ++ ms)) m)) (marks-heads cs)
    ∙ tests t cs (restricted (test_rights t cs) m)

pub class-alone : (c : ClassHead) (cs : List ClassHead) (m : Resources) → run_alone scripts (of_class c ∷ heads cs) m ≡ class_alone c cs m
class-alone c cs m =
    ap (λ (ms : List Mark). L.class_alone scripts (of_class c) (heads cs) (restricted (rights_of (c.marks ++ ms)) m)) (marks-heads cs)
    ∙ classes c cs (restricted (class_rights (c ∷ cs)) m)
