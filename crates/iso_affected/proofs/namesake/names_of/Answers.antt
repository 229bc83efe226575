use Rattle.std.proofs.Common.{◌≡◌, ◌-◌, ℕ, suc, drop, get_or, length, refl, subst, arith}
use Rattle.iso_affected.proofs.NameTableLemmas.{table-more, table-none}
use Rattle.iso_affected.specs.NameTables.{FindsNamed}
use Rattle.iso_plan.specs.RowView.{tree_of}
use Rattle.iso_affected.proofs.namesake.names_of.Goals as goal

pub nodes-init : goal.nodes-init
nodes-init c =
    let nodes = c.args.nodes.now in
    table-none (tree_of c.args.plan.now) c.new-table.result nodes (length nodes) c.new-table.ensures.empty refl

pub nodes-preserved : goal.nodes-preserved
nodes-preserved c =
    let tree = tree_of c.args.plan.now in
    let nodes = c.args.nodes.now in
    let j = c.nodes.place - 1 in
    let next : c.nodes.place ≡ suc j = omega arith in
    let before = subst (λ (n : ℕ). FindsNamed tree (drop n nodes) c.nodes.table) next c.nodes.invariant in
    table-more tree c.nodes.table c.insert.new.self nodes j c.name.result.now (get_or nodes j 0) (omega arith) refl c.name.ensures c.in_ok-insert.ensures.updates before
