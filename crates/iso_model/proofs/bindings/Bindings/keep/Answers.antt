use Rattle.std.proofs.Common.{◌≡◌, ◌+◌, ◌<◌, ◌∙◌, ◌++◌, Some, ap, sym, length, take, slice_set, arith}
use Rattle.std.specs.List.{slice_get}
use Rattle.iso_model.specs.NameLayers.{in_layers}
use Rattle.iso_model.proofs.BindingLemmas.{Bindings, Layers, index-is, layer-within, length-taken, take-in-layer, take-in-own}
use Rattle.iso_model.proofs.bindings.Bindings.keep.Goals as goal

pub returns-then-count-self : goal.returns-then-count-self
returns-then-count-self c =
    let ls = c.self.inside.layers.items in
    rw (← c.self.view_is) (ap (λ (bs : Bindings). in_layers ls ++ bs) c.keep.ensures ∙ take-in-own ls c.self.inside.own c.self.inside.outer c.args.count c.self.invariant.counted (omega arith))

pub invariant_of-self-2 : goal.invariant_of-self-2
invariant_of-self-2 c =
    let ls = c.self.inside.layers.items in
    let i = c.layer_at-index.result.0 in
    let j = c.layer_at-index.result.1 in
    let l = c.index_mut-layer.result.now in
    let at = rw c.deref.ensures.value at c.layer_at-index.ensures in
    let within : i < length ls = layer-within ls c.args.count i j at.before (omega (arith, c.self.invariant.counted, c.if-count-self.false)) in
    let there : slice_get ls i ≡ Some l = index-is l ls i within c.index_mut-layer.ensures.value in
    let kept : c.truncate.new.self.items ≡ take (i + 1) (slice_set ls i (take j l)) = c.truncate.ensures.items ∙ ap (λ (bs : Bindings). take (i + 1) (slice_set ls i bs)) c.keep-2.ensures in
    let none : length c.keep-3.new.self ≡ 0 = ap (λ (bs : Bindings). length bs) c.keep-3.ensures in
    record {
      counted = length-taken ls c.args.count i j l there (at.inside_is l there) at.before ∙ sym (ap (λ (ks : Layers). length (in_layers ks)) kept);
      fits = omega (arith, none, c.if-count-self.false, c.self.invariant.fits);
    }

pub returns : goal.returns
returns c =
    let ls = c.self.inside.layers.items in
    let i = c.layer_at-index.result.0 in
    let j = c.layer_at-index.result.1 in
    let l = c.index_mut-layer.result.now in
    let at = rw c.deref.ensures.value at c.layer_at-index.ensures in
    let within : i < length ls = layer-within ls c.args.count i j at.before (omega (arith, c.self.invariant.counted, c.if-count-self.false)) in
    let there : slice_get ls i ≡ Some l = index-is l ls i within c.index_mut-layer.ensures.value in
    let kept : c.truncate.new.self.items ≡ take (i + 1) (slice_set ls i (take j l)) = c.truncate.ensures.items ∙ ap (λ (bs : Bindings). take (i + 1) (slice_set ls i bs)) c.keep-2.ensures in
    rw (← c.self.view_is) (
    ap (λ (ks : Layers). in_layers ks ++ c.keep-3.new.self) kept
    ∙ ap (λ (bs : Bindings). in_layers (take (i + 1) (slice_set ls i (take j l))) ++ bs) c.keep-3.ensures
    ∙ take-in-layer ls c.self.inside.own c.args.count i j l there (at.inside_is l there) at.before)
