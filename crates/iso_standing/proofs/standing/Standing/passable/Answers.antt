use Rattle.std.proofs.Common.{◌≡◌, ◌<◌, ℕ, List, length, get_or, ap, sym, ◌∙◌, arith, inl, inr}
use Rattle.std.proofs.lemmas.Bool.{cases_eq}
use Rattle.iso_standing.proofs.Passing.{child-beyond}
use Rattle.iso_standing.specs.Passed.{is_due}
use Rattle.iso_standing.specs.Standings.{Standing}
use Rattle.iso_plan.proofs.ChildLemmas.{child-is}
use Rattle.iso_plan.specs.Paths.{children}
use Rattle.iso_plan.specs.RowView.{tree_of}
use Rattle.iso_standing.proofs.standing.Standing.passable.Goals as goal

pub is_due-requires : goal.is_due-requires
is_due-requires c =
    let xs = children (tree_of c.args.self.now.plan) c.args.class in
    let i = c.children.next in
    let are : c.children-children.result.now ≡ xs = c.children-children.ensures ∙ ap (λ (u : Standing). children (tree_of u.plan) c.args.class) c.self.view_is in
    let long : length c.children-children.result.now ≡ length xs = ap length are in
    let here : get_or c.children-children.result.now i 0 ≡ get_or xs i 0 = ap (λ (ys : List ℕ). get_or ys i 0) are in
    let less = (child-is (tree_of c.args.self.now.plan) c.args.class i (omega (arith, c.children-test.true, long))).within in
    omega (arith, here, less)

pub overflow_add-next : goal.overflow_add-next
overflow_add-next c =
    let xs = children (tree_of c.args.self.now.plan) c.args.class in
    let i = c.children.next in
    let are : c.children-children.result.now ≡ xs = c.children-children.ensures ∙ ap (λ (u : Standing). children (tree_of u.plan) c.args.class) c.self.view_is in
    let long : length c.children-children.result.now ≡ length xs = ap length are in
    let here : get_or c.children-children.result.now i 0 ≡ get_or xs i 0 = ap (λ (ys : List ℕ). get_or ys i 0) are in
    let beyond : i < get_or xs i 0 = child-beyond (tree_of c.args.self.now.plan) c.args.class i (omega (arith, c.children-test.true, long)) in
    omega (arith, here, beyond, c.type_inv.children i)

pub children-preserved : goal.children-preserved
children-preserved c =
    let v = c.args.self.now in
    let xs = children (tree_of v.plan) c.args.class in
    let next = c.children.next in
    let are : c.children-children.result.now ≡ xs = c.children-children.ensures ∙ ap (λ (u : Standing). children (tree_of u.plan) c.args.class) c.self.view_is in
    let long : length c.children-children.result.now ≡ length xs = ap length are in
    record {
      there = omega (arith, c.children-test.true, long);
      none_due = λ i h. elim (cases_eq i next) [
        | inl same ↦
            ap (λ j. is_due v.plan v.phases (get_or xs j 0)) same
            ∙ ap (λ (ys : List ℕ). is_due v.plan v.phases (get_or ys next 0)) (sym are)
            ∙ sym c.is_due.ensures ∙ c.if-not-is_due.true
        | inr other ↦ c.children.invariant.none_due i (omega (arith, other))
      ];
    }
