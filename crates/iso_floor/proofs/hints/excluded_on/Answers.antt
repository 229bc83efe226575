use Rattle.std.proofs.Common.{◌≡◌, length, subst, sym, true}
use Rattle.std.proofs.lemmas.Bool.{ltb-true}
use Rattle.iso_plan.specs.HeldNodes.{takes_in}
use Rattle.iso_plan.specs.declared.lock.Lock.{Lock}
use Rattle.iso_floor.proofs.HintLemmas.{takes-at}
use Rattle.iso_floor.proofs.hints.excluded_on.Goals as goal

pub returns-then-excludes-clause-own : goal.returns-then-excludes-clause-own
returns-then-excludes-clause-own c =
    let ls = c.args.locks.now in
    let found = c.in_ok-lock.ensures.lookup in
    subst (λ (l : Lock). takes_in l.access l.key ls ≡ true) (sym found.1) (takes-at ls c.partition_point-at.result _ (ltb-true c.partition_point-at.result (length ls) (sym found.0)))
