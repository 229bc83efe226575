use Rattle.std.proofs.Common.{◌-◌, ◌∙◌, sym, arith}
use Rattle.iso_model.specs.NameLayers.{in_layers}
use Rattle.iso_model.proofs.BindingLemmas.{get-behind}
use Rattle.iso_model.proofs.bindings.Bindings.at.Goals as goal

pub returns-then-place-self : goal.returns-then-place-self
returns-then-place-self c =
    let ls = c.self.inside.layers.items in
    rw (← c.self.view_is) (c.at.ensures ∙ sym
    (get-behind (in_layers ls) c.self.inside.own c.args.place (c.args.place - c.self.inside.outer) (omega (arith, c.self.invariant.counted, c.if-place-self.true))))
