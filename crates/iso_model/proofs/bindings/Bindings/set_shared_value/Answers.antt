use Rattle.std.proofs.Common.{◌≡◌, ◌∙◌, ◌++◌, Some, ap, sym, length, slice_set, arith}
use Rattle.std.proofs.lemmas.Result.{on_ok_weaker}
use Rattle.std.specs.List.{slice_get}
use Rattle.iso_model.specs.NameLayers.{in_layers}
use Rattle.iso_model.proofs.BindingLemmas.{Bindings, index-is, length-set-layer, length-valued, revalued-in-layer, revalued-in-own}
use Rattle.iso_model.proofs.GivenLemmas.{length-revalued}
use Rattle.iso_model.proofs.bindings.Bindings.set_shared_value.Goals as goal

pub invariant_of-self : goal.invariant_of-self
invariant_of-self c =
    let ls = c.self.inside.layers.items in
    let i = c.layer_at-layer.result.0 in
    let l = c.index_mut-layer.result.now in
    let there : slice_get ls i ≡ Some l = index-is l ls i (omega (arith, c.len.ensures, c.if-layer-len.true, c.self.inside.layers.ok.0)) c.index_mut-layer.ensures.value in
    record {
      counted = c.self.invariant.counted
          ∙ sym (length-set-layer ls i l c.set_value.new.self there
          (length-valued c.set_value.result c.set_value.new.self l c.layer_at-layer.result.1 c.args.value c.set_value.ensures.ok c.set_value.ensures.err));
      fits = c.self.invariant.fits;
    }

pub returns-then-layer-len-clause-ok : goal.returns-then-layer-len-clause-ok
returns-then-layer-len-clause-ok c =
    let ls = c.self.inside.layers.items in
    let i = c.layer_at-layer.result.0 in
    let l = c.index_mut-layer.result.now in
    let at = rw c.deref.ensures.value at c.layer_at-layer.ensures in
    let there : slice_get ls i ≡ Some l = index-is l ls i (omega (arith, c.len.ensures, c.if-layer-len.true, c.self.inside.layers.ok.0)) c.index_mut-layer.ensures.value in
    on_ok_weaker c.set_value.result
    (λ is. rw (← c.self.view_is) (ap (λ (bs : Bindings). in_layers (slice_set ls i bs) ++ c.self.inside.own) is
    ∙ revalued-in-layer ls c.self.inside.own c.args.place i c.layer_at-layer.result.1 l c.args.value there (at.inside_is l there) at.before))
    c.set_value.ensures.ok

pub invariant_of-self-2 : goal.invariant_of-self-2
invariant_of-self-2 c =
    let same = ap (λ (bs : Bindings). length bs) c.set_value-2.ensures in
    let all = length-revalued c.self.inside.own c.layer_at-layer.result.1 c.args.value in
    record { counted = c.self.invariant.counted; fits = omega (arith, same, all, c.self.invariant.fits) }

pub returns-clause-ok : goal.returns-clause-ok
returns-clause-ok c =
    let ls = c.self.inside.layers.items in
    let i = c.layer_at-layer.result.0 in
    let at = rw c.deref.ensures.value at c.layer_at-layer.ensures in
    rw (← c.self.view_is) (
    ap (λ (bs : Bindings). in_layers ls ++ bs) c.set_value-2.ensures
    ∙ revalued-in-own ls c.self.inside.own c.args.place i c.layer_at-layer.result.1 c.args.value (omega (arith, c.len.ensures, c.if-layer-len.false, c.self.inside.layers.ok.0)) at.before)
