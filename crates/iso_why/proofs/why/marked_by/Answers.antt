use Rattle.std.proofs.Common.{◌≡◌, ◌<◌, ◌≤◌, true, false, length, sym, ap, ◌∙◌, arith}
use Rattle.std.specs.Option.{is_some}
use Rattle.iso_plan.specs.Paths.{parent, path, row_at}
use Rattle.iso_plan.specs.RowView.{tree_of}
use Rattle.iso_why.proofs.ReasonLemmas.{marked-above, marked-here, marked-root}
use Rattle.iso_why.specs.ModeReasons.{marked_by}
use Rattle.iso_why.proofs.why.marked_by.Goals as goal

pub returns-then-is_some : goal.returns-then-is_some
returns-then-is_some c =
    let tree = tree_of c.args.plan.now in
    let n = c.up.node in
    let within : n < length c.args.plan.now.rows = let h = c.requires in let k = c.up.invariant.within in omega arith in
    let e : is_some (row_at tree n).mode ≡ true = ap is_some (sym c.marked_mode.ensures) ∙ sym c.is_some.ensures ∙ c.if-is_some.true in
    record { marked = sym (marked-here tree c.parents_come_first.ensures n c.up-test.true e) ∙ c.up.invariant.same; known = (c.up-test.true, within) }

pub up-preserved : goal.up-preserved
up-preserved c =
    let tree = tree_of c.args.plan.now in
    let n = c.up.node in
    let below = c.parents_come_first.ensures in
    let e : is_some (row_at tree n).mode ≡ false = ap is_some (sym c.marked_mode.ensures) ∙ sym c.is_some.ensures ∙ c.if-is_some.false in
    let less : parent tree n < n = below n c.up-test.true in
    record {
      within = let p = c.class_of-node.ensures in let k = c.up.invariant.within in omega arith;
      same = ap (λ j. marked_by tree (path tree j)) c.class_of-node.ensures ∙ sym (marked-above tree below n c.up-test.true e) ∙ c.up.invariant.same;
    }

pub returns-clause-marked : goal.returns-clause-marked
returns-clause-marked c =
    let tree = tree_of c.args.plan.now in
    let root : c.up.node ≡ 0 = omega arith in
    sym (marked-root tree) ∙ ap (λ j. marked_by tree (path tree j)) (sym root) ∙ c.up.invariant.same
