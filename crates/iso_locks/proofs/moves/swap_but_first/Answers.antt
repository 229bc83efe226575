use Rattle.std.proofs.Common.{None, Option, ap, ap₂, set, ◌∙◌}
use Rattle.iso_store.specs.Histories.{History}
use Rattle.iso_locks.proofs.MoveLemmas.{set-twice}
use Rattle.iso_locks.specs.Slots.{Slots, slot}
use Rattle.iso_locks.proofs.moves.swap_but_first.Goals as goal

pub returns-clause-here : goal.returns-clause-here
returns-clause-here c =
    let there = c.args.there.now in
    let here = c.args.here.now in
    c.put.ensures
    ∙ ap₂ (λ (xs : Slots) (v : Option History). set xs 0 v) (c.take-other.ensures.rest ∙ ap (λ (xs : Slots). set xs 0 None) c.swap.ensures.y_after) c.take-first.ensures.value
    ∙ set-twice there None (slot here 0)

pub returns-clause-there : goal.returns-clause-there
returns-clause-there c =
    let there = c.args.there.now in
    let here = c.args.here.now in
    c.put-2.ensures
    ∙ ap₂ (λ (xs : Slots) (v : Option History). set xs 0 v) (c.swap.ensures.x_after ∙ c.take-first.ensures.rest) (c.take-other.ensures.value ∙ ap (λ (xs : Slots). slot xs 0) c.swap.ensures.y_after)
    ∙ set-twice here None (slot there 0)
