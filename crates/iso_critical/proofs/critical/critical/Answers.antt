use Rattle.std.proofs.Common.{All, length, ◌∙◌, subst, sym, arith}
use Rattle.iso_critical.specs.Bodies.{IsWithin, ran}
use Rattle.iso_critical.specs.Paths.{run_with}
use Rattle.iso_critical.proofs.OrderLemmas.{latest-within}
use Rattle.iso_critical.proofs.WalkLemmas.{critical-all}
use Rattle.iso_plan.specs.RowView.{tree_of}
use Rattle.iso_critical.proofs.critical.critical.Goals as goal

pub marks-requires : goal.marks-requires
marks-requires c =
    let nodes = length (tree_of c.args.plan.now) in
    let run = run_with c.args.plan.now c.in_ok-told.told.bodies c.deref.result.now in
    let all = critical-all run (IsWithin nodes) (length (ran run.bodies nodes)) (latest-within run.bodies nodes) in
    let here : All (IsWithin nodes) c.deref-3.result.now = subst (All (IsWithin nodes)) (sym (c.deref-3.ensures.value ∙ c.in_ok-bodies.ensures)) all in
    λ k d h. let is = (here k d h).place in let same = c.len-3.ensures in omega arith
