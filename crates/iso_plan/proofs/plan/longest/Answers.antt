use Rattle.std.proofs.Common.{◌≡◌, [], drop, max, ap, sym, ◌∙◌, arith}
use Rattle.std.proofs.lemmas.List.{drop_all}
use Rattle.iso_plan.proofs.DepthLemmas.{counts, counts-heads, max-none}
use Rattle.iso_plan.specs.NodeChains.{largest}
use Rattle.iso_plan.proofs.plan.longest.Goals as goal

pub returns : goal.returns
returns c =
    let all = c.args.chains.now in
    let done : drop c.nodes.chain-index all ≡ [] = drop_all c.nodes.chain-index all (omega arith) in
    sym (max-none c.nodes.longest) ∙ sym (ap (λ cs. max c.nodes.longest (largest (counts cs))) done) ∙ c.nodes.invariant
    ∙ ap largest (counts-heads all)
