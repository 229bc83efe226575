use Rattle.std.proofs.Common.{subst}
use Rattle.iso_plan.specs.Paths.{IsTree}
use Rattle.iso_plan.specs.Planned.{Planned}
use Rattle.iso_plan.specs.RowView.{tree_of}
use Rattle.iso_record.proofs.RecordLemmas.{if_ok}
use Rattle.iso_record.proofs.SerialCores.{class_closed, leaves_last, shuts}
use Rattle.iso_record.proofs.recording.Recording.last_body.Goals as goal

pub go_on_by-requires-clause-goes_on : goal.go_on_by-requires-clause-goes_on
go_on_by-requires-clause-goes_on c =
    let s = c.args.self.now in
    let tree : IsTree (tree_of s.plan) = subst (λ (p : Planned). IsTree (tree_of p)) c.requires.of c.nodes_are_a_tree.ensures in
    shuts s s s tree c.args.node c.requires.may

pub go_on_by-requires-2-clause-goes_on : goal.go_on_by-requires-2-clause-goes_on
go_on_by-requires-2-clause-goes_on c =
    let s = c.args.self.now in
    let tree : IsTree (tree_of s.plan) = subst (λ (p : Planned). IsTree (tree_of p)) c.requires.of c.nodes_are_a_tree.ensures in
    leaves_last s c.go_on_by.new.self s tree c.args.node c.requires.may c.go_on_by.ensures.same c.in_ok-go_on_by.ensures.gone_on

pub returns-clause-closed : goal.returns-clause-closed
returns-clause-closed c =
    let s = c.args.self.now in
    let tree : IsTree (tree_of s.plan) = subst (λ (p : Planned). IsTree (tree_of p)) c.requires.of c.nodes_are_a_tree.ensures in
    if_ok c.go_on_by-2.result
    (class_closed s c.go_on_by.new.self c.go_on_by-2.new.self tree c.args.node c.requires.may c.in_ok-go_on_by.ensures.gone_on)
    c.go_on_by-2.ensures.gone_on
