use Rattle.std.proofs.Common.{ap, subst, sym, ◌∙◌}
use Rattle.iso_plan.specs.Paths.{IsTree, is_test, row_at}
use Rattle.iso_plan.specs.Planned.{Planned}
use Rattle.iso_plan.specs.RowView.{tree_of}
use Rattle.iso_record.proofs.RecordLemmas.{if_ok}
use Rattle.iso_record.proofs.SerialCores.{class_opened, enters, leaves_first, test_run}
use Rattle.iso_record.proofs.recording.Recording.first_body.Goals as goal

pub go_on_by-requires-clause-goes_on : goal.go_on_by-requires-clause-goes_on
go_on_by-requires-clause-goes_on c =
    let s = c.args.self.now in
    let tree : IsTree (tree_of s.plan) = subst (λ (p : Planned). IsTree (tree_of p)) c.requires.of c.nodes_are_a_tree.ensures in
    enters s s s tree c.args.node c.requires.may

pub go_on_by-requires-2-clause-goes_on : goal.go_on_by-requires-2-clause-goes_on
go_on_by-requires-2-clause-goes_on c =
    let s = c.args.self.now in
    let tree : IsTree (tree_of s.plan) = subst (λ (p : Planned). IsTree (tree_of p)) c.requires.of c.nodes_are_a_tree.ensures in
    leaves_first s c.go_on_by.new.self s tree c.args.node c.requires.may c.go_on_by.ensures.same c.in_ok-go_on_by.ensures.gone_on

pub returns-clause-test : goal.returns-clause-test
returns-clause-test c test =
    let s = c.args.self.now in
    let tree : IsTree (tree_of s.plan) = subst (λ (p : Planned). IsTree (tree_of p)) c.requires.of c.nodes_are_a_tree.ensures in
    if_ok c.go_on_by-2.result
    (λ left. test_run s c.go_on_by.new.self c.go_on_by-2.new.self tree c.args.node c.requires.may c.in_ok-go_on_by.ensures.gone_on left
    (ap (λ (p : Planned). is_test (row_at (tree_of p) c.args.node).kind) (sym c.requires.of) ∙ test))
    c.go_on_by-2.ensures.gone_on

pub returns-clause-class : goal.returns-clause-class
returns-clause-class c class =
    let s = c.args.self.now in
    let tree : IsTree (tree_of s.plan) = subst (λ (p : Planned). IsTree (tree_of p)) c.requires.of c.nodes_are_a_tree.ensures in
    if_ok c.go_on_by-2.result
    (λ left. class_opened s c.go_on_by.new.self c.go_on_by-2.new.self tree c.args.node c.requires.may c.in_ok-go_on_by.ensures.gone_on left
    (ap (λ (p : Planned). is_test (row_at (tree_of p) c.args.node).kind) (sym c.requires.of) ∙ class))
    c.go_on_by-2.ensures.gone_on
