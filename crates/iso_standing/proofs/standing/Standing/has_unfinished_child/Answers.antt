use Rattle.std.proofs.Common.{◌≡◌, ℕ, List, length, get_or, Bool, true, not, ap, sym, ◌∙◌, arith}
use Rattle.std.specs.List.{list_any}
use Rattle.std.proofs.lemmas.List.Elements.{All-get_or}
use Rattle.std.proofs.lemmas.List.Folds.{list_any_at}
use Rattle.iso_standing.proofs.Below.{IsChild, at-end, children-known}
use Rattle.iso_standing.proofs.Looks.{children-are, nodes-are}
use Rattle.iso_standing.specs.Phases.{bare}
use Rattle.iso_standing.specs.Standings.{phase_at}
use Rattle.iso_standing.specs.declared.phase.Phase.{Phase}
use Rattle.iso_isolation.specs.States.{is_finished}
use Rattle.iso_plan.specs.Paths.{children}
use Rattle.iso_plan.specs.Planned.{Planned}
use Rattle.iso_plan.specs.RowView.{tree_of}
use Rattle.iso_standing.proofs.standing.Standing.has_unfinished_child.Goals as goal

pub phase-requires : goal.phase-requires
phase-requires c =
    let v = c.args.self.now in
    let tree = tree_of v.plan in
    let are : c.children-child-items.result.now ≡ children tree c.args.node = c.children-child-items.ensures ∙ ap (λ (p : Planned). children (tree_of p) c.args.node) c.plan.ensures in
    let same : length (children tree c.args.node) ≡ length c.children-child-items.result.now = ap length (sym are) in
    let known = All-get_or (IsChild tree c.args.node (length tree)) (children tree c.args.node) c.loop-child.child-index 0 (omega (arith, c.loop-child-test.true))
    (children-known tree c.args.node (length tree)) in
    let here : get_or c.children-child-items.result.now c.loop-child.child-index 0 ≡ get_or (children tree c.args.node) c.loop-child.child-index 0 = ap
    (λ (xs : List ℕ). get_or xs c.loop-child.child-index 0) are in
    let less = known.below in
    let count = nodes-are v.plan in
    omega arith

pub returns-then-not-is_finished : goal.returns-then-not-is_finished
returns-then-not-is_finished c = λ start s like.
    let v = c.args.self.now in
    let tree = tree_of v.plan in
    let xs = c.children-child-items.result.now in
    let left : ℕ → Bool = λ m. not (is_finished (bare (phase_at v m))) in
    let are : xs ≡ children tree c.args.node = c.children-child-items.ensures ∙ ap (λ (p : Planned). children (tree_of p) c.args.node) c.plan.ensures in
    let this : left (get_or xs c.loop-child.child-index 0) ≡ true = ap (λ (p : Phase). not (is_finished (bare p))) (sym c.phase.ensures)
    ∙ ap not (sym c.is_finished.ensures ∙ c.if-not-is_finished.true) in
    children-are v start s like c.args.node ∙ ap (list_any left) (sym are) ∙ list_any_at left xs c.loop-child.child-index 0 c.loop-child-test.true this

pub returns : goal.returns
returns c = λ start s like.
    let v = c.args.self.now in
    let tree = tree_of v.plan in
    let xs = c.children-child-items.result.now in
    let left : ℕ → Bool = λ m. not (is_finished (bare (phase_at v m))) in
    let are : xs ≡ children tree c.args.node = c.children-child-items.ensures ∙ ap (λ (p : Planned). children (tree_of p) c.args.node) c.plan.ensures in
    children-are v start s like c.args.node ∙ ap (list_any left) (sym are) ∙ at-end left xs c.loop-child.child-index c.loop-child.invariant c.loop-child-test.false
