use Rattle.std.proofs.Common.{◌-◌, ◌∙◌, ◌++◌, ap, sym, length, arith}
use Rattle.iso_model.specs.NameLayers.{in_layers}
use Rattle.iso_model.proofs.BindingLemmas.{Bindings, revalued-behind}
use Rattle.iso_model.proofs.GivenLemmas.{length-revalued}
use Rattle.iso_model.proofs.bindings.Bindings.set_value.Goals as goal

pub invariant_of-self : goal.invariant_of-self
invariant_of-self c =
    let same = ap (λ (bs : Bindings). length bs) c.set_value.ensures in
    let all = length-revalued c.self.inside.own (c.args.place - c.self.inside.outer) c.args.value in
    record { counted = c.self.invariant.counted; fits = omega (arith, same, all, c.self.invariant.fits) }

pub returns-then-place-self-clause-ok : goal.returns-then-place-self-clause-ok
returns-then-place-self-clause-ok c =
    let ls = c.self.inside.layers.items in
    rw (← c.self.view_is) (
    ap (λ (bs : Bindings). in_layers ls ++ bs) c.set_value.ensures
    ∙ sym (revalued-behind (in_layers ls) c.self.inside.own c.args.place (c.args.place - c.self.inside.outer) c.args.value (omega (arith, c.self.invariant.counted, c.if-place-self.true))))
