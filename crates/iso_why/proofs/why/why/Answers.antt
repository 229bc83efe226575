use Rattle.std.proofs.Common.{sym}
use Rattle.iso_plan.specs.RowView.{tree_of}
use Rattle.iso_why.proofs.ReasonLemmas.{reason-chosen, reason-forced}
use Rattle.iso_why.proofs.why.why.Goals as goal

pub returns-in-Some-clause-why : goal.returns-in-Some-clause-why
returns-in-Some-clause-why c =
    let plan = c.args.plan.now in
    reason-forced (tree_of plan) plan.settings c.args.node c.class_of-class.result c.in-Some.forced (sym c.if-not-is_parallel.ensures) c.class_of-class.ensures
    c.in-Some.ensures.forced

pub returns-in-None-clause-why : goal.returns-in-None-clause-why
returns-in-None-clause-why c =
    let plan = c.args.plan.now in
    reason-chosen (tree_of plan) plan.settings c.args.node c.class_of-class.result c.chosen_by.result (sym c.if-not-is_parallel.ensures) c.class_of-class.ensures
    c.in-None.ensures.forced c.chosen_by.ensures.chosen
