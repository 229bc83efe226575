use Rattle.std.proofs.Common.{◌≡◌, ◌<◌, true, not, length, subst, sym}
use Rattle.iso_standing.proofs.ResultLeaves.{begun-is, can-put, ends-well, left, result-is}
use Rattle.iso_standing.specs.ResultStates.{AreResultsOf}
use Rattle.iso_suites.specs.ScriptLanguage.{scripts}
use Rattle.iso_suites.specs.SuiteStates.{IsReached, suite_at}
use Rattle.iso_isolation.specs.Events.{ended_well, leaving}
use Rattle.iso_isolation.specs.Runs.{result_of}
use Rattle.iso_lifecycle.specs.ResultViews.{CanPut, ResultsView, is_barring, result_in, with_done_of}
use Rattle.iso_lifecycle.specs.Subjects.{is_kind_of, subject}
use Rattle.iso_lifecycle.specs.declared.kind.BodyKind.TheVariants.{BeforeAll}
use Rattle.iso_plan.specs.Paths.{IsTree, row_at}
use Rattle.iso_plan.specs.Planned.{Planned}
use Rattle.iso_plan.specs.RowView.{tree_of}
use Rattle.iso_settings.specs.Worlds.{Start}
use Rattle.iso_standing.proofs.following.results_follow_leaves.Goals as goal

-- what holds of the plan and the start of results holds of those that they are
of : (P : Planned → Start → Type 0) (r : ResultsView) (plan : Planned) (world : Start) → r.plan ≡ plan → r.start ≡ world → P r.plan r.start → P plan world
of P r plan world e f h = subst (λ (p : Planned). P p world) e (subst (λ (v : Start). P r.plan v) f h)

pub returns : goal.returns
returns c = record {
  put = λ world r s n b kind a.
      of (λ p v. IsTree (tree_of p) → IsReached p v s → n < length p.rows → CanPut (record { subject = subject p v n; kind = kind }) r) r c.args.plan.now world a.of_plan a.of_world
      (λ t reached inside. can-put r t s reached a.results n a.inner inside b a.body kind a.closing) c.nodes_are_a_tree.ensures a.reached a.within;
  leave = λ world r s n b kind a over.
      of (λ p v. IsTree (tree_of p) → IsReached p v s → n < length p.rows → is_kind_of kind (row_at (tree_of p) n).kind ≡ true
      → AreResultsOf (with_done_of kind n r) (leaving scripts (suite_at p v) n s.nodes (s.nodes.status n))) r c.args.plan.now world a.of_plan a.of_world
      (λ t reached inside fits. left r t s reached a.results n a.inner inside b a.body kind a.closing fits over) c.nodes_are_a_tree.ensures a.reached a.within a.fits;
  well = λ world r s n b a over.
      of (λ p v. IsTree (tree_of p) → IsReached p v s → n < length p.rows → is_kind_of BeforeAll (row_at (tree_of p) n).kind ≡ true
      → ended_well scripts (suite_at p v) n b s.nodes ≡ not (is_barring (with_done_of BeforeAll n r) n)) r c.args.plan.now world a.of_plan a.of_world
      (λ t reached inside fits. ends-well r t s reached a.results n a.inner inside b a.body (begun-is (s.nodes.status n) b a.body (sym a.closing)) over fits) c.nodes_are_a_tree.ensures
      a.reached a.within a.fits;
  outcomes = λ world r s n reached are e f inside.
      of (λ p v. IsTree (tree_of p) → IsReached p v s → n < length p.rows → result_in r n ≡ result_of s n) r c.args.plan.now world e f
      (λ t reached inside. result-is r t s reached are n inside) c.nodes_are_a_tree.ensures reached inside;
}
