use Rattle.std.proofs.Common.{List, ℕ}
use Rattle.iso_model.proofs.KeyMapLemmas.{rise-insert, rise-set, same_key, value-insert, value-set}
use Rattle.iso_model.proofs.key_map.KeyMap.set.Goals as goal

pub invariant_of-self : goal.invariant_of-self
invariant_of-self g c =
    let d : List ℕ × g.row.V.Denot = (c.args.key, c.args.value) in
    let (low, at) = rw c.deref.ensures.value at c.in-Ok.ensures in
    rise-set c.self.inside.entries.items c.in-Ok.place c.args.key c.args.value d low (same_key _ _ (at d)) c.self.invariant

pub invariant_of-self-in-Continue-1 : goal.invariant_of-self-in-Continue-1
invariant_of-self-in-Continue-1 g c =
    let (low, (before, after)) = rw c.deref.ensures.value at c.in-Err.ensures in
    rw c.in_ok-insert-in-Err.ensures.items
    (rise-insert c.self.inside.entries.items c.in-Err.place c.args.key c.args.value before after c.self.invariant)

pub returns-in-Ok-clause-ok : goal.returns-in-Ok-clause-ok
returns-in-Ok-clause-ok g c = λ k.
    let d : List ℕ × g.row.V.Denot = (c.args.key, c.args.value) in
    let (low, at) = rw c.deref.ensures.value at c.in-Ok.ensures in
    rw (← c.self.view_is)
    (value-set c.self.inside.entries.items c.in-Ok.place c.args.key c.args.value d k c.self.invariant low (same_key _ _ (at d)))

pub returns-in_ok-insert-in-Err-clause-ok : goal.returns-in_ok-insert-in-Err-clause-ok
returns-in_ok-insert-in-Err-clause-ok g c = λ k.
    let (low, (before, after)) = rw c.deref.ensures.value at c.in-Err.ensures in
    rw (← c.self.view_is, c.in_ok-insert-in-Err.ensures.items)
    (value-insert c.self.inside.entries.items c.in-Err.place c.args.key c.args.value k before)
