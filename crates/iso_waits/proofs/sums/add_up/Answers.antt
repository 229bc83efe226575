use Rattle.std.proofs.Common.{List, get_or, subst, sym, take}
use Rattle.std.proofs.lemmas.List.{take_more}
use Rattle.iso_plan.specs.RowView.{tree_of}
use Rattle.iso_waits.proofs.SumLemmas.{sums-more}
use Rattle.iso_waits.specs.Sums.{AreSums}
use Rattle.iso_waits.specs.declared.wait.Wait.{Wait}
use Rattle.iso_waits.proofs.sums.add_up.Goals as goal

pub loop-wait-preserved : goal.loop-wait-preserved
loop-wait-preserved c =
    let tree = tree_of c.args.told.now.plan in
    let n = c.args.node in
    let ws = c.args.waits.now in
    let i = c.loop-wait.wait-index in
    let sums = c.note.new.sums.items in
    subst (λ (some : List Wait). AreSums tree n some sums) (sym (take_more ws i _ c.loop-wait-test.true))
    (sums-more tree n (take i ws) (get_or ws i _) c.key_of.result c.loop-wait.sums.items sums c.key_of.ensures c.loop-wait.invariant c.note.ensures.size c.note.ensures.noted)
