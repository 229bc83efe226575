use Rattle.std.proofs.Common.{rules, ◌≡◌, length, replicate, false}
use Rattle.iso_plan.specs.HeldNodes.{unused}
use Rattle.iso_plan.specs.KeyTable.{keys}
use Rattle.iso_plan.specs.RowView.{tree_of}
use Rattle.iso_plan.proofs.LeadLemmas.{counted-none}
use Rattle.iso_plan.proofs.held_nodes.HeldNodes.new.Goals as goal

pub invariant_of-result : goal.invariant_of-result
invariant_of-result c =
    let none : c.in_ok-new.field-0 ≡ replicate (length c.args.plan.now.rows) false = search rules in
    let unused_all : c.in_ok-vec.field-0.items ≡ replicate (length (keys (tree_of c.args.plan.now))) unused = search rules in
    counted-none (tree_of c.args.plan.now) c.in_ok-new.field-0 c.in_ok-vec.field-0.items none unused_all
