use Rattle.std.proofs.Common.{◌≡◌, ℕ, Some, ◌∷◌, [], ◌++◌, option_copied, vec_capacity, ap, arith, subst, sym, ◌∙◌, refl}
use Rattle.iso_lifecycle.proofs.Barring.{HasParent, parent-some}
use Rattle.iso_lifecycle.proofs.FramesUp.{IsOnWay, begins, frame-is, frame-there, frame_of, goes-up, has-room, here-opened, whole}
use Rattle.iso_lifecycle.specs.ResultViews.{ResultsView, is_opened}
use Rattle.iso_lifecycle.specs.Subjects.{Subject}
use Rattle.iso_plan.specs.Paths.{IsTree, parent_of}
use Rattle.iso_plan.specs.Planned.{Planned}
use Rattle.iso_plan.specs.RowView.{tree_of}
use Rattle.iso_lifecycle.proofs.results.Results.share_upwards.Goals as goal

tree_in : (r : ResultsView) (p : Planned) → p ≡ r.plan → IsTree (tree_of p) → IsTree (tree_of r.plan)
tree_in r p e tree = subst (λ (q : Planned). IsTree (tree_of q)) e tree

up_from : (r : ResultsView) (p : Planned) (at m : ℕ) → p ≡ r.plan → Some m ≡ parent_of (tree_of p) at → HasParent (tree_of r.plan) at m
up_from r p at m e h = parent-some (tree_of r.plan) at m (ap (λ (q : Planned). parent_of (tree_of q) at) (sym e) ∙ sym h)

pub up-init : goal.up-init
up-init c =
    let r = c.args.self.now in
    record { way = begins r c.args.node c.args.frames.now.items c.requires.node c.requires.opened c.requires.empty; capacity = refl }

pub unwrap-requires : goal.unwrap-requires
unwrap-requires c =
    let r = c.args.self.now in
    let e : c.self.inside.plan.now ≡ r.plan = ap (λ (u : ResultsView). u.plan) c.self.view_is in
    let tree = tree_in r c.self.inside.plan.now e c.nodes_are_a_tree.ensures in
    let p = up_from r c.self.inside.plan.now c.up.at c.in-Some.class e c.in-Some.ensures in
    let opened = here-opened r tree.below c.args.node c.up.at c.up.frames.items c.up.invariant.way p.inner in
    frame-there (is_opened r c.up.at) (frame_of r c.up.at) c.frame.result opened c.frame.ensures

pub push_reserved-requires : goal.push_reserved-requires
push_reserved-requires c =
    let r = c.args.self.now in
    let e : c.self.inside.plan.now ≡ r.plan = ap (λ (u : ResultsView). u.plan) c.self.view_is in
    let tree = tree_in r c.self.inside.plan.now e c.nodes_are_a_tree.ensures in
    let p = up_from r c.self.inside.plan.now c.up.at c.in-Some.class e c.in-Some.ensures in
    let less = has-room r tree.below c.args.node c.up.at c.up.frames.items c.up.invariant.way (vec_capacity c.args.frames.now) p.inner c.requires.room in
    omega (arith, less, c.up.frames.ok, c.up.invariant.capacity)

pub up-preserved : goal.up-preserved
up-preserved c =
    let r = c.args.self.now in
    let e : c.self.inside.plan.now ≡ r.plan = ap (λ (u : ResultsView). u.plan) c.self.view_is in
    let tree = tree_in r c.self.inside.plan.now e c.nodes_are_a_tree.ensures in
    let p = up_from r c.self.inside.plan.now c.up.at c.in-Some.class e c.in-Some.ensures in
    let opened = here-opened r tree.below c.args.node c.up.at c.up.frames.items c.up.invariant.way p.inner in
    let made : c.unwrap.result.now ≡ frame_of r c.up.at = frame-is (is_opened r c.up.at) (frame_of r c.up.at) c.unwrap.result.now opened (ap option_copied (sym c.unwrap.ensures) ∙ c.frame.ensures) in
    let items : c.push_reserved.new.self.items ≡ c.up.frames.items ++ frame_of r c.up.at ∷ [] =
    c.push_reserved.ensures.items ∙ ap (λ (f : Subject). c.up.frames.items ++ f ∷ []) (c.in_ok-frame.ensures ∙ made) in
    record {
      way = subst (IsOnWay r c.args.node c.in-Some.class) (sym items) (goes-up r tree.below c.args.node c.up.at c.up.frames.items c.up.invariant.way c.in-Some.class p);
      capacity = c.push_reserved.ensures.capacity ∙ c.up.invariant.capacity;
    }

pub returns-clause-frames : goal.returns-clause-frames
returns-clause-frames c =
    let r = c.args.self.now in
    let e : c.self.inside.plan.now ≡ r.plan = ap (λ (u : ResultsView). u.plan) c.self.view_is in
    whole r c.args.node c.up.at c.up.frames.items c.up.invariant.way (ap (λ (q : Planned). parent_of (tree_of q) c.up.at) (sym e) ∙ sym c.in_default.ensures)
