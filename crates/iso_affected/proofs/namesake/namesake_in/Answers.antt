use Rattle.std.proofs.Common.{List, ℕ, Some, sym, ap, ◌∙◌}
use Rattle.iso_affected.proofs.NamesakeLemmas.{namesake-step}
use Rattle.iso_affected.specs.Namesakes.{child_named}
use Rattle.iso_plan.specs.Paths.{row_at}
use Rattle.iso_plan.specs.RowView.{tree_of}
use Rattle.iso_affected.proofs.namesake.namesake_in.Goals as goal

pub returns-clause-namesake : goal.returns-clause-namesake
returns-clause-namesake c =
    let one = tree_of c.args.one.now in
    let other = tree_of c.args.other.now in
    let n = c.args.node in
    c.child_named.ensures.named ∙ ap (λ (t : List ℕ). child_named one t (Some c.args.class)) c.name.ensures
    ∙ sym (namesake-step one other c.nodes_are_a_tree.ensures n c.requires.above ∙ ap (child_named one (row_at other n).name) c.requires.class)
