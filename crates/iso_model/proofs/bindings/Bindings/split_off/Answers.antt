use Rattle.std.proofs.Common.{◌∙◌, ◌++◌, ap, ap₂, length, arith}
use Rattle.iso_model.specs.NameLayers.{in_layers}
use Rattle.iso_model.proofs.BindingLemmas.{Bindings, Layers, drop-layers, length-layers, take-layers}
use Rattle.iso_model.proofs.bindings.Bindings.split_off.Goals as goal

pub overflow_sub-past : goal.overflow_sub-past
overflow_sub-past c =
    let ls = c.self.inside.layers.items in
    let i = c.layer_at-layer.result.0 in
    let at = rw c.deref.ensures.value at c.layer_at-layer.ensures in
    omega (arith, at.before, c.if-inside-gt0.false, length-layers ls i, c.self.invariant.counted)

pub invariant_of-past : goal.invariant_of-past
invariant_of-past c =
    let ls = c.self.inside.layers.items in
    let i = c.layer_at-layer.result.0 in
    let at = rw c.deref.ensures.value at c.layer_at-layer.ensures in
    let moved = ap (λ (ks : Layers). length (in_layers ks)) c.in_ok-layers.ensures.tail in
    let own = ap (λ (bs : Bindings). length bs) c.replace.ensures.value in
    record {
      counted = omega (arith, moved, at.before, c.if-inside-gt0.false, length-layers ls i, c.self.invariant.counted);
      fits = omega (arith, own, c.self.invariant.fits);
    }

pub returns-clause-first : goal.returns-clause-first
returns-clause-first c =
    let ls = c.self.inside.layers.items in
    let i = c.layer_at-layer.result.0 in
    let at = rw c.deref.ensures.value at c.layer_at-layer.ensures in
    rw (← c.self.view_is) (
    ap₂ (λ (ks : Layers) (bs : Bindings). in_layers ks ++ bs) c.in_ok-layers.ensures.items (c.replace.ensures.after ∙ c.new-3.ensures ∙ c.new-2.ensures.items)
    ∙ take-layers ls c.self.inside.own c.args.count i (omega (arith, at.before, c.if-inside-gt0.false)))

pub returns-clause-past : goal.returns-clause-past
returns-clause-past c =
    let ls = c.self.inside.layers.items in
    let i = c.layer_at-layer.result.0 in
    let at = rw c.deref.ensures.value at c.layer_at-layer.ensures in
    rw (← c.self.view_is) (
    ap₂ (λ (ks : Layers) (bs : Bindings). in_layers ks ++ bs) c.in_ok-layers.ensures.tail c.replace.ensures.value
    ∙ drop-layers ls c.self.inside.own c.args.count i (omega (arith, at.before, c.if-inside-gt0.false)))
