use Rattle.std.proofs.Common.{◌≡◌, Some, ◌∙◌, sym}
use Rattle.std.specs.List.{slice_get}
use Rattle.iso_model.proofs.BindingLemmas.{get-in-own, get-in_layer, get-is}
use Rattle.iso_model.proofs.bindings.Bindings.shared_at.Goals as goal

pub returns-in-None : goal.returns-in-None
returns-in-None c =
    let ls = c.self.inside.layers.items in
    let at = rw c.deref.ensures.value at c.layer_at-layer.ensures in
    let past = rw c.deref-2.ensures.value at c.in-None.ensures.lookup.3 in
    rw (← c.self.view_is) (c.at.ensures ∙ sym (get-in-own ls c.self.inside.own c.args.place c.layer_at-layer.result.0 c.layer_at-layer.result.1 past at.before))

pub returns-in-Some : goal.returns-in-Some
returns-in-Some c =
    let ls = c.self.inside.layers.items in
    let i = c.layer_at-layer.result.0 in
    let at = rw c.deref.ensures.value at c.layer_at-layer.ensures in
    let there : Some c.in-Some.layer.now ≡ slice_get ls i = get-is (Some c.in-Some.layer) ls i (rw c.deref-2.ensures.value at c.in-Some.ensures.lookup.3) in
    rw (← c.self.view_is) (c.at-in-Some.ensures
    ∙ sym (get-in_layer ls c.self.inside.own c.args.place i c.layer_at-layer.result.1 c.in-Some.layer.now (sym there) (at.inside_is c.in-Some.layer.now (sym there)) at.before))
