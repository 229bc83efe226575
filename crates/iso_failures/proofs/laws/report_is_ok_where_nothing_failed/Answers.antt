use Rattle.std.proofs.Common.{◌≡◌, ℕ, [], true, flat_map, ap, sym, subst}
use Rattle.iso_lifecycle.specs.ResultViews.{outcome_in}
use Rattle.iso_lifecycle.specs.Subjects.{started}
use Rattle.iso_model.specs.declared.outcome.Outcome.{Outcome}
use Rattle.iso_plan.specs.RowView.{tree_of}
use Rattle.iso_tap.specs.Reports.{all_ok}
use Rattle.iso_failures.specs.Failures.{failures, path_line}
use Rattle.iso_failures.proofs.OkLemmas.{ok-unfailed, unfailed-ok}
use Rattle.iso_failures.proofs.RunOutcomes.{outcomes-are}
use Rattle.iso_failures.proofs.TextLemmas.{lines-none}
use Rattle.iso_failures.proofs.laws.report_is_ok_where_nothing_failed.Goals as goal

pub returns-clause-nodes : goal.returns-clause-nodes
returns-clause-nodes c =
    let tree = tree_of c.args.plan.now in
    let is = c.nodes_are_a_tree.ensures in
    let same = outcomes-are c.args.results.now c.args.plan.now c.requires in (
      λ h. ok-unfailed tree is (outcome_in c.args.results.now) h,
      λ h.
          subst (λ (o : ℕ → Outcome). all_ok tree o ≡ true) (sym same)
          (unfailed-ok tree is (started c.args.results.now.start) (subst (λ (o : ℕ → Outcome). failures tree o ≡ []) same h)),
    )

pub returns-clause-lines : goal.returns-clause-lines
returns-clause-lines c =
    let tree = tree_of c.args.plan.now in
    let nodes = returns-clause-nodes c in
    (λ h. ap (flat_map (path_line tree)) (nodes.0 h), λ h. nodes.1 (lines-none tree (failures tree (outcome_in c.args.results.now)) h))
