use Rattle.std.proofs.Common.{ℕ, List, ap, arith, set, ◌∙◌}
use Rattle.iso_locks.proofs.CountLemmas.{below, count-set}
use Rattle.iso_locks.specs.Lockers.{with_zeros}
use Rattle.iso_locks.proofs.counts.Counts.set.Goals as goal

pub reach-requires : goal.reach-requires
reach-requires c =
    let fits = c.self.invariant.fits in
    let within = below c.self.inside.written.items c.self.inside.all c.args.number c.args.self.now c.self.invariant.within c.self.view_is c.requires in
    omega (arith, fits, within)

pub returns : goal.returns
returns c =
    let within = below c.self.inside.written.items c.self.inside.all c.args.number c.args.self.now c.self.invariant.within c.self.view_is c.requires in
    ap (λ (ws : List ℕ). with_zeros (set ws c.args.number c.args.count) c.self.inside.all) c.reach.ensures.zeros
    ∙ count-set c.self.inside.written.items c.self.inside.all c.args.number c.args.count c.self.invariant.within within
    ∙ ap (λ (cs : List ℕ). set cs c.args.number c.args.count) c.self.view_is
