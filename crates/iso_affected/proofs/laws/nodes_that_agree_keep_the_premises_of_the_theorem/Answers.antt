use Rattle.std.proofs.Common.{◌≡◌, ◌∷◌, Some, ap, sym, ◌∙◌, subst}
use Rattle.iso_affected.proofs.HeadLemmas.{class-kind-rights, test-kind-rights}
use Rattle.iso_lifecycle.specs.Subjects.{started}
use Rattle.iso_model.specs.ChainAgreement.{EqualAt}
use Rattle.iso_model.specs.Chains.{class_rights, test_rights}
use Rattle.iso_model.specs.Rights.{Rights}
use Rattle.iso_plan.specs.NodeChains.{chain_classes, node_rights}
use Rattle.iso_plan.specs.Paths.{row_at}
use Rattle.iso_plan.specs.RowView.{tree_of}
use Rattle.iso_affected.proofs.laws.nodes_that_agree_keep_the_premises_of_the_theorem.Goals as goal

pub returns-clause-tests : goal.returns-clause-tests
returns-clause-tests c = λ before after m n t u is_t is_u agree.
    let one = tree_of c.args.old.now in
    let heads : Some t ≡ Some u = sym is_t ∙ agree.test ∙ is_u in
    let head : t ≡ u = cc in
    let rights : node_rights one m ≡ test_rights t (chain_classes one m) = test-kind-rights (row_at one m).kind t (chain_classes one m) is_t in
    record { head = head; classes = agree.classes; starts = subst (λ (r : Rights). EqualAt r (started before) (started after)) rights agree.starts }

pub returns-clause-classes : goal.returns-clause-classes
returns-clause-classes c = λ before after m n d e ds es no_test is_d is_e agree.
    let one = tree_of c.args.old.now in
    let heads : d ∷ ds ≡ e ∷ es = sym is_d ∙ agree.classes ∙ is_e in
    let head : d ≡ e = cc in
    let rest : ds ≡ es = cc in
    let rights : node_rights one m ≡ class_rights (d ∷ ds) = class-kind-rights (row_at one m).kind (chain_classes one m) no_test ∙ ap class_rights is_d in
    record { head = head; classes = rest; starts = subst (λ (r : Rights). EqualAt r (started before) (started after)) rights agree.starts }
