use Rattle.std.proofs.Common.{◌≡◌, ◌<◌, false, true, length, map, ap, sym, ◌∙◌, subst}
use Rattle.iso_core.proofs.CoreKinds.{closing-fits}
use Rattle.iso_core.proofs.CoreRuns.{run-reached, run_state}
use Rattle.iso_core.proofs.Taking.{view_of}
use Rattle.iso_core.specs.Cores.{CoreView, state_in}
use Rattle.iso_isolation.specs.States.{is_at_rest}
use Rattle.iso_lifecycle.specs.Subjects.{enclosing, framed, opening_of, subject}
use Rattle.iso_lifecycle.specs.declared.kind.BodyKind.TheVariants.{AfterAll}
use Rattle.iso_plan.specs.Paths.{is_test, row_at}
use Rattle.iso_plan.specs.RowView.{tree_of}
use Rattle.iso_settings.specs.Worlds.{Start}
use Rattle.iso_core.proofs.machine.Core.last_body.Goals as goal

pub begin-requires : goal.begin-requires
begin-requires c =
    let i = c.self.inside in
    let n = c.args.node in
    let class : is_test (row_at (tree_of i.plan.now) n).kind ≡ false = ap (λ (v : CoreView). is_test (row_at (tree_of v.plan) n).kind) c.self.view_is ∙ c.requires.class in
    let within : n < length i.plan.now.rows = subst (λ (v : CoreView). n < length v.plan.rows) (sym c.self.view_is) c.requires.within in
    let rests : is_at_rest ((state_in (view_of i)).nodes.status n) ≡ true = subst (λ (v : CoreView). is_at_rest ((state_in v).nodes.status n) ≡ true) (sym c.self.view_is) c.requires.rests in
    let got = run-reached (view_of i) c.self.invariant.run in
    let start : i.results.start ≡ c.of-start.result.value = c.self.invariant.results_world ∙ sym c.of-start.ensures in
    record {
      inner = c.requires.inner;
      within = within;
      fits = closing-fits i.plan.now c.nodes_are_a_tree.ensures n c.requires.inner within class;
      frames = c.deref.ensures.value ∙ c.in_ok-frames.ensures ∙ ap (λ (s : Start). map (subject i.plan.now s) (framed AfterAll (subject i.plan.now s n))) start;
      well = subst (λ (s : Start). (opening_of (enclosing (subject i.plan.now s n))).well ≡ true) (sym c.of-start.ensures)
          (c.bodies_stand_as_alone.ensures.enclosed i.world.now (run_state (view_of i)) n got c.requires.inner within
          (c.bodies_stand_as_alone.ensures.around i.world.now (run_state (view_of i)) n got c.requires.inner within rests));
    }
