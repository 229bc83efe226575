use Rattle.std.proofs.Common.{◌≡◌, Bool, List, ap, arith, false, true, set, subst, sym, ◌∙◌}
use Rattle.iso_desk.specs.Marking.{has}
use Rattle.iso_plan.specs.HeldNodes.{is_held}
use Rattle.iso_plan.proofs.NodeSetLemmas.{below, column-set, held-small, set-more}
use Rattle.iso_plan.proofs.node_set.NodeSet.put_in.Goals as goal

pub overflow_add-self : goal.overflow_add-self
overflow_add-self c =
    let within = below c.self.inside.marks c.self.inside.nodes c.args.node c.args.self.now c.self.view_is c.requires.node in
    let free = subst (λ (hs : List Bool). is_held hs c.args.node ≡ false) (sym c.self.view_is) c.requires.free in
    let small = held-small c.self.inside.marks c.self.inside.nodes c.self.inside.held c.args.node c.self.invariant within free in
    omega (arith, c.self.ranges, small)

pub set-requires : goal.set-requires
set-requires c =
    let fits = c.self.invariant.within in
    let within = below c.self.inside.marks c.self.inside.nodes c.args.node c.args.self.now c.self.view_is c.requires.node in
    omega (arith, fits, within)

pub invariant_of-self : goal.invariant_of-self
invariant_of-self c =
    let within = below c.self.inside.marks c.self.inside.nodes c.args.node c.args.self.now c.self.view_is c.requires.node in
    let free = subst (λ (hs : List Bool). is_held hs c.args.node ≡ false) (sym c.self.view_is) c.requires.free in
    set-more c.self.inside.marks c.set.new.self c.self.inside.nodes c.self.inside.held c.args.node c.self.invariant within free c.set.ensures.room c.set.ensures.set

pub returns : goal.returns
returns c =
    let within = below c.self.inside.marks c.self.inside.nodes c.args.node c.args.self.now c.self.view_is c.requires.node in
    column-set (has c.self.inside.marks) (has c.set.new.self) c.self.inside.nodes c.args.node true within c.set.ensures.set
    ∙ ap (λ (hs : List Bool). set hs c.args.node true) c.self.view_is
