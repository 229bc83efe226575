use Rattle.std.proofs.Common.{Bool, List, ap, arith, sym, ◌∙◌}
use Rattle.iso_plan.specs.HeldNodes.{is_held}
use Rattle.iso_plan.proofs.NodeSetLemmas.{below, set-has}
use Rattle.iso_plan.proofs.node_set.NodeSet.has.Goals as goal

pub has-requires : goal.has-requires
has-requires c =
    let fits = c.self.invariant.within in
    let within = below c.self.inside.marks c.self.inside.nodes c.args.node c.args.self.now c.self.view_is c.requires in
    omega (arith, fits, within)

pub returns : goal.returns
returns c =
    let within = below c.self.inside.marks c.self.inside.nodes c.args.node c.args.self.now c.self.view_is c.requires in
    c.has.ensures ∙ sym (set-has c.self.inside.marks c.self.inside.nodes c.args.node within)
    ∙ ap (λ (hs : List Bool). is_held hs c.args.node) c.self.view_is
