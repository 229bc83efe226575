use Rattle.std.proofs.Common.{◌≡◌, ℕ, zero, suc, ◌<◌, List, Some, Result, Ok, Err, true, false, length, map, reverse, refl, ap, sym, ◌∙◌, subst, arith}
use Rattle.std.specs.Prelude.{IfOk, unwrap_or}
use Rattle.iso_core.proofs.CoreRuns.{run-reached, run_state}
use Rattle.iso_core.proofs.Taking.{view_of}
use Rattle.iso_core.specs.Cores.{CoreView, state_in}
use Rattle.iso_isolation.proofs.Changes.{put_here}
use Rattle.iso_isolation.specs.Events.{entering}
use Rattle.iso_isolation.specs.States.{body_in, is_closing, is_open}
use Rattle.iso_lifecycle.specs.BodyViews.{kind_of_body, stage_of_body, subject_of}
use Rattle.iso_lifecycle.specs.declared.body.Body.{Body}
use Rattle.iso_lifecycle.specs.Subjects.{Subject, begun, is_kind_of, enclosing, framed, opening_of, subject}
use Rattle.iso_lifecycle.specs.declared.kind.BodyKind.{BodyKind}
use Rattle.iso_lifecycle.specs.declared.kind.BodyKind.TheVariants.{BeforeAll, Test, AfterAll}
use Rattle.iso_standing.specs.UnderWay.{IsUnderWay, is_after_all}
use Rattle.iso_suites.specs.ScriptLanguage.{scripts}
use Rattle.iso_suites.specs.SuiteStates.{RunNodes, suite_at}
use Rattle.iso_plan.specs.Paths.{parent, parent_of, path, row_at}
use Rattle.iso_plan.specs.Planned.{Planned}
use Rattle.iso_plan.specs.RowView.{tree_of}
use Rattle.iso_plan.specs.Tree.{Row}
use Rattle.iso_settings.specs.Worlds.{Start}
use Rattle.iso_core.proofs.machine.Core.first_body.Goals as goal

first_framed : (k : BodyKind) (s : Subject) → is_after_all k ≡ false → framed k s ≡ reverse (path (tree_of s.plan) (parent (tree_of s.plan) s.node))
first_framed BeforeAll s e = refl
first_framed Test s e = refl
first_framed AfterAll s e = absurd (cc)

parent_is : (tree : List Row) (n m : ℕ) → 0 < n → m ≡ unwrap_or (parent_of tree n) 0 → m ≡ parent tree n
parent_is tree zero m pos e = absurd (omega (arith, pos))
parent_is tree (suc n) m pos e = e

-- a body that begins at a node which is entered is the one under way there
under-way : {X : Type 0} (plan : Planned) (world start : Start) (n : ℕ) (kind : BodyKind) (s : RunNodes) (r : Result Body X) → start ≡ world → is_after_all kind ≡ false
    → is_closing (s.status n) ≡ false → is_kind_of kind (row_at (tree_of plan) n).kind ≡ true → body_in (s.status n) ≡ Some (begun kind (subject plan world n)).stage
    → IfOk r (λ b. subject_of b ≡ subject plan start n) → IfOk r (λ b. kind_of_body b ≡ kind) → IfOk r (λ b. stage_of_body b ≡ (begun kind (subject plan start n)).stage)
    → IfOk r (λ b. IsUnderWay plan world n b s)
under-way plan world start n kind s (Ok b) same first entered fits at of is begins = record {
  subject = of ∙ ap (λ w. subject plan w n) same;
  kind = ap is_after_all is ∙ first ∙ sym entered;
  fits = subst (λ (k : BodyKind). is_kind_of k (row_at (tree_of plan) n).kind ≡ true) (sym is) fits;
  stage = at ∙ ap (λ (w : Start). Some (begun kind (subject plan w n)).stage) (sym same) ∙ ap Some (sym begins);
}
under-way plan world start n kind s (Err e) same first entered fits at of is begins = tt

pub begin-requires : goal.begin-requires
begin-requires c =
    let i = c.self.inside in
    let n = c.args.node in
    let within : n < length i.plan.now.rows = subst (λ (v : CoreView). n < length v.plan.rows) (sym c.self.view_is) c.requires.within in
    let around : is_open ((state_in (view_of i)).nodes.status (parent (tree_of i.plan.now) n)) ≡ true =
    subst (λ (v : CoreView). is_open ((state_in v).nodes.status (parent (tree_of v.plan) n)) ≡ true) (sym c.self.view_is) c.requires.open in
    let start : i.results.start ≡ c.of-start.result.value = c.self.invariant.results_world ∙ sym c.of-start.ensures in
    record {
      inner = c.requires.inner;
      within = within;
      fits = c.first_kind-kind.ensures.fits;
      frames = c.deref.ensures.value ∙ c.in_ok-frames.ensures
          ∙ ap (λ (s : Start). map (subject i.plan.now s) (reverse (path (tree_of i.plan.now) c.unwrap_or-class.result))) start
          ∙ ap (λ (m : ℕ). map (subject i.plan.now c.of-start.result.value) (reverse (path (tree_of i.plan.now) m)))
          (parent_is (tree_of i.plan.now) n c.unwrap_or-class.result c.requires.inner (c.unwrap_or-class.ensures ∙ ap (λ o. unwrap_or o 0) c.parent.ensures))
          ∙ sym (ap (map (subject i.plan.now c.of-start.result.value)) (first_framed c.first_kind-kind.result (subject i.plan.now c.of-start.result.value n) c.first_kind-kind.ensures.first));
      well = subst (λ (s : Start). (opening_of (enclosing (subject i.plan.now s n))).well ≡ true) (sym c.of-start.ensures)
          (c.bodies_stand_as_alone.ensures.enclosed i.world.now (run_state (view_of i)) n (run-reached (view_of i) c.self.invariant.run) c.requires.inner within around);
    }

pub returns : goal.returns
returns c =
    let i = c.self.inside in
    let n = c.args.node in
    let k = c.first_kind-kind.result in
    let run = run_state (view_of i) in
    let within : n < length i.plan.now.rows = subst (λ (v : CoreView). n < length v.plan.rows) (sym c.self.view_is) c.requires.within in
    let around : is_open ((state_in (view_of i)).nodes.status (parent (tree_of i.plan.now) n)) ≡ true =
    subst (λ (v : CoreView). is_open ((state_in v).nodes.status (parent (tree_of v.plan) n)) ≡ true) (sym c.self.view_is) c.requires.open in
    let at = c.bodies_stand_as_alone.ensures.enter i.world.now run n k (run-reached (view_of i) c.self.invariant.run) c.requires.inner within around c.first_kind-kind.ensures.first
    c.first_kind-kind.ensures.fits in
    rw (← c.self.view_is) (under-way i.plan.now i.world.now c.of-start.result.value n k (entering scripts (suite_at i.plan.now i.world.now) n run.nodes) c.begin.result c.of-start.ensures
    c.first_kind-kind.ensures.first (ap is_closing (put_here n _ run.nodes.status)) c.first_kind-kind.ensures.fits at c.begin.ensures.subject c.begin.ensures.kind c.begin.ensures.begun)
