use Rattle.std.proofs.Common.{ap, sym, ◌∙◌, Some}
use Rattle.iso_model.proofs.KeyMapLemmas.{same_key, value-absent, value-found}
use Rattle.iso_model.specs.ResourceKeys.{spelling}
use Rattle.iso_model.proofs.key_map.KeyMap.get.Goals as goal

pub returns-in-Ok : goal.returns-in-Ok
returns-in-Ok g c =
    let es = c.self.inside.entries.items in
    let d = c.index.result.now in
    let (low, at) = rw c.deref.ensures.value at c.in-Ok.ensures in
    rw (← c.self.view_is) (ap (λ e. Some e.1) c.index.ensures ∙ sym (value-found es c.in-Ok.place (spelling c.args.resource) d c.self.invariant low (same_key _ _ (at d))))

pub returns-in-Err : goal.returns-in-Err
returns-in-Err g c =
    let es = c.self.inside.entries.items in
    let (low, (before, after)) = rw c.deref.ensures.value at c.in-Err.ensures in
    rw (← c.self.view_is) (sym (value-absent es c.in-Err.field-0 (spelling c.args.resource) before after))
