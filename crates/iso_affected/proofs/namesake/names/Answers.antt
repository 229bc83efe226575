use Rattle.std.proofs.Common.{◌≡◌, ◌<◌, List, ℕ, length, subst, ◌∙◌, arith}
use Rattle.iso_affected.proofs.NameTableLemmas.{more-below, none-below}
use Rattle.iso_affected.specs.NameTables.{FindsNamed}
use Rattle.iso_plan.specs.RowView.{tree_of}
use Rattle.iso_affected.proofs.namesake.names.Goals as goal

pub classes-init : goal.classes-init
classes-init c = none-below (tree_of c.args.plan.now) c.in_ok-tables.tables.items c.in_ok-tables.ensures.items

pub classes-preserved : goal.classes-preserved
classes-preserved c =
    let tree = tree_of c.args.plan.now in
    let own = subst (λ (nodes : List ℕ). FindsNamed tree nodes c.in_ok-table.table) c.children.ensures c.in_ok-table.ensures in
    more-below tree c.classes.tables.items c.push.new.self.items c.in_ok-table.table c.classes.class c.in_ok-push.ensures.items c.classes.invariant own

pub returns : goal.returns
returns c =
    let all : c.classes.class ≡ length (tree_of c.args.plan.now) = omega (arith, c.len-class-end.ensures) in
    record { each = c.classes.invariant.each ∙ all; find = λ class d h. let less : class < c.classes.class = omega arith in c.classes.invariant.find class d less }
