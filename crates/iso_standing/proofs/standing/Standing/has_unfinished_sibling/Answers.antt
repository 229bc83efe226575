use Rattle.std.proofs.Common.{◌≡◌, suc, ◌&&◌, Bool, length, drop, get_or, leb, ap, sym, ◌∙◌, subst, arith, inl, inr}
use Rattle.std.specs.List.{between}
use Rattle.std.proofs.lemmas.Bool.{cases_eq}
use Rattle.std.proofs.lemmas.Slice.{between_to_end}
use Rattle.iso_standing.proofs.Looks.{siblings-are}
use Rattle.iso_standing.proofs.Passing.{and-false, none-left, some-left}
use Rattle.iso_standing.specs.Passed.{ArePassed, is_due}
use Rattle.iso_plan.specs.Paths.{children, parent}
use Rattle.iso_plan.specs.Planned.{Planned}
use Rattle.iso_plan.specs.RowView.{tree_of}
use Rattle.iso_standing.proofs.standing.Standing.has_unfinished_sibling.Goals as goal

pub returns-then-sibling-node : goal.returns-then-sibling-node
returns-then-sibling-node c = λ start s like.
    let v = c.args.self.now in
    let n = c.args.node in
    let first = c.passed-first.result in
    let xs = c.children.result.now in
    let is = c.parent-parent.ensures.parent c.requires.inner in
    let are : between first (length xs) xs ≡ drop first (children (tree_of v.plan) (parent (tree_of v.plan) n)) =
    between_to_end xs first (length xs) (omega arith)
    ∙ ap (drop first) (c.children.ensures ∙ ap (λ (p : Planned). children (tree_of p) c.parent-parent.result) c.plan.ensures ∙ ap (children (tree_of v.plan)) is) in
    let passed = subst (λ m. ArePassed v.plan v.phases m first) is c.passed-first.ensures in
    siblings-are v start s like n c.requires.node
    ∙ none-left v.plan v.phases (parent (tree_of v.plan) n) n first (between first (length xs) xs) are passed c.loop-sibling.sibling-index c.loop-sibling.invariant (λ h. c.if-sibling-node.true)

pub returns-then-is_due : goal.returns-then-is_due
returns-then-is_due c = λ start s like.
    let v = c.args.self.now in
    let n = c.args.node in
    let first = c.passed-first.result in
    let xs = c.children.result.now in
    let is = c.parent-parent.ensures.parent c.requires.inner in
    let are : between first (length xs) xs ≡ drop first (children (tree_of v.plan) (parent (tree_of v.plan) n)) =
    between_to_end xs first (length xs) (omega arith)
    ∙ ap (drop first) (c.children.ensures ∙ ap (λ (p : Planned). children (tree_of p) c.parent-parent.result) c.plan.ensures ∙ ap (children (tree_of v.plan)) is) in
    siblings-are v start s like n c.requires.node
    ∙ some-left v.plan v.phases (parent (tree_of v.plan) n) n first (between first (length xs) xs) are c.loop-sibling.sibling-index c.loop-sibling-test.true c.if-sibling-node.false
    (sym c.is_due.ensures ∙ c.if-is_due.true)

pub returns : goal.returns
returns c = λ start s like.
    let v = c.args.self.now in
    let n = c.args.node in
    let first = c.passed-first.result in
    let xs = c.children.result.now in
    let is = c.parent-parent.ensures.parent c.requires.inner in
    let are : between first (length xs) xs ≡ drop first (children (tree_of v.plan) (parent (tree_of v.plan) n)) =
    between_to_end xs first (length xs) (omega arith)
    ∙ ap (drop first) (c.children.ensures ∙ ap (λ (p : Planned). children (tree_of p) c.parent-parent.result) c.plan.ensures ∙ ap (children (tree_of v.plan)) is) in
    let passed = subst (λ m. ArePassed v.plan v.phases m first) is c.passed-first.ensures in
    siblings-are v start s like n c.requires.node
    ∙ none-left v.plan v.phases (parent (tree_of v.plan) n) n first (between first (length xs) xs) are passed c.loop-sibling.sibling-index c.loop-sibling.invariant
    (λ h. absurd (omega (arith, c.loop-sibling-test.false, h)))

pub loop-sibling-preserved : goal.loop-sibling-preserved
loop-sibling-preserved c = λ i h.
    let v = c.args.self.now in
    let xs = c.children.result.now in
    let left = between c.passed-first.result (length xs) xs in
    let at = c.loop-sibling.sibling-index in
    elim (cases_eq i at) [
      | inl same ↦
          ap (λ j. leb (suc (get_or left j 0)) c.args.node && is_due v.plan v.phases (get_or left j 0)) same
          ∙ ap (λ (b : Bool). leb (suc (get_or left at 0)) c.args.node && b) (sym c.is_due.ensures ∙ c.if-is_due.false)
          ∙ and-false (leb (suc (get_or left at 0)) c.args.node)
      | inr other ↦ c.loop-sibling.invariant i (omega (arith, other, h))
    ]
