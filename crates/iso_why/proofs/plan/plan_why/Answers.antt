use Rattle.std.proofs.Common.{◌++◌, List, ℕ, codes, ap}
use Rattle.std.specs.Fmt.{decimal}
use Rattle.iso_tap.proofs.PrinterLemmas.{prints_as, prints_then}
use Rattle.iso_why.proofs.plan.plan_why.Goals as goal

pub returns : goal.returns
returns g c =
    let header : List ℕ = codes "workers " ++ decimal c.args.workers ++ codes "\n" in
    let first = prints_as c.in_ok-pieces.ensures header (ap (λ (n : ℕ). codes "workers " ++ decimal n ++ codes "\n") c.from.ensures) in
    prints_then c.nodes_why.result first c.nodes_why.ensures
