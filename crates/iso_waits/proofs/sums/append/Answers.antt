use Rattle.std.proofs.Common.{◌++◌, List, Option, ap, ap₂, sym, ◌∙◌}
use Rattle.std.proofs.lemmas.List.{append_assoc}
use Rattle.std.specs.Option.{option_to_list}
use Rattle.iso_waits.proofs.SumLemmas.{locks-more}
use Rattle.iso_waits.specs.declared.wait.NodeWait.{NodeWait}
use Rattle.iso_waits.proofs.sums.append.Goals as goal

pub loop-lock-preserved : goal.loop-lock-preserved
loop-lock-preserved c =
    let n = c.args.node in
    let sums = c.args.sums.now in
    let i = c.loop-lock.lock-index in
    c.in_ok-add.ensures
    ∙ ap₂ (λ (all : List NodeWait) (o : Option NodeWait). all ++ option_to_list o) c.loop-lock.invariant c.sum_at.ensures
    ∙ append_assoc c.args.all.now.items _ _
    ∙ ap (λ (more : List NodeWait). c.args.all.now.items ++ more) (sym (locks-more n sums c.args.locks.now i _ c.loop-lock-test.true))
