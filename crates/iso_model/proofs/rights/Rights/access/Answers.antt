use Rattle.std.proofs.Common.{◌≡◌, ◌+◌, drop, Option, Some, None, sym, ap, ◌∙◌, arith}
use Rattle.std.specs.Arc.{arc_value}
use Rattle.std.specs.Option.{option_or}
use Rattle.iso_model.proofs.LayerLemmas.{access-both, layers-next}
use Rattle.iso_model.specs.Layers.{declared_in}
use Rattle.iso_model.specs.Rights.{access_in}
use Rattle.iso_model.specs.declared.access.Access.{Access}
use Rattle.iso_model.specs.declared.rights.Layer.{Layer}
use Rattle.iso_model.proofs.rights.Rights.access.Goals as goal

pub returns-in-Some : goal.returns-in-Some
returns-in-Some c =
    let i = c.loop-layer.layer-index in
    let ls = c.deref-layer-items.result.now in
    let l = c.layer-item.result in
    let key = c.args.key.now in
    let rest = declared_in (drop (i + 1) ls) in
    let here : access_in (arc_value l).entries key ≡ Some c.in-Some.access = ap (λ (x : Layer). access_in x.entries key) (sym c.deref.ensures) ∙ sym c.access.ensures ∙ c.in-Some.is in
    sym (sym c.loop-layer.invariant ∙ ap (λ es. access_in es key) (layers-next ls i l (omega arith) c.layer-item.is)
    ∙ access-both (arc_value l).entries rest key ∙ ap (λ (o : Option Access). option_or o (access_in rest key)) here)

pub loop-layer-preserved : goal.loop-layer-preserved
loop-layer-preserved c =
    let i = c.loop-layer.layer-index in
    let ls = c.deref-layer-items.result.now in
    let l = c.layer-item.result in
    let key = c.args.key.now in
    let rest = declared_in (drop (i + 1) ls) in
    let here : access_in (arc_value l).entries key ≡ None = ap (λ (x : Layer). access_in x.entries key) (sym c.deref.ensures) ∙ sym c.access.ensures ∙ c.in_default.is in
    sym (ap (λ es. access_in es key) (layers-next ls i l (omega arith) c.layer-item.is)
    ∙ access-both (arc_value l).entries rest key ∙ ap (λ (o : Option Access). option_or o (access_in rest key)) here) ∙ c.loop-layer.invariant
