use Rattle.std.proofs.Common.{◌≡◌, ◌<◌, ◌∷◌, [], ◌++◌, ℕ, zero, suc, List, Option, Some, length, unwrap_or, ap, refl, sym, ◌∙◌, arith}
use Rattle.iso_affected.proofs.NamesakeLemmas.{namesake-root, namesake-step, namesake-within}
use Rattle.iso_affected.specs.Namesakes.{child_named, namesake}
use Rattle.iso_plan.proofs.ColumnLemmas.{column-push, column-read, length-column}
use Rattle.iso_plan.specs.Paths.{parent, parent_of, row_at}
use Rattle.iso_plan.specs.RowView.{tree_of}
use Rattle.iso_plan.specs.Tree.{Row}
use Rattle.iso_affected.proofs.namesake.namesakes.Goals as goal
use Rattle.iso_affected.proofs.namesake.namesakes.Goals.{in-Some, in-None}

pub nodes-init : goal.nodes-init
nodes-init c =
    c.in_ok-push.ensures.items ∙ ap (λ (os : List (Option ℕ)). os ++ Some 0 ∷ []) c.in_ok-namesakes.ensures.items
    ∙ ap (λ (o : Option ℕ). o ∷ []) (sym (namesake-root (tree_of c.args.one.now) (tree_of c.args.other.now)))

-- the class of a node that is not the root
class_of : (tree : List Row) (n : ℕ) → 0 < n → unwrap_or (parent_of tree n) 0 ≡ parent tree n
class_of tree zero h = absurd (omega arith)
class_of tree (suc n) h = refl

pub index-requires : goal.index-requires
index-requires c =
    let tree = tree_of c.args.other.now in
    let n = c.nodes.node in
    let is : c.unwrap_or-class.result ≡ parent tree n = c.unwrap_or-class.ensures ∙ ap (λ o. unwrap_or o 0) c.parent.ensures ∙ class_of tree n (omega arith) in
    let below : parent tree n < n = c.nodes_are_a_tree-2.ensures.below n (omega arith) in
    let count : length c.nodes.namesakes.items ≡ n = ap length c.nodes.invariant ∙ length-column (namesake (tree_of c.args.one.now) tree) n in
    omega (arith, c.nodes.namesakes.ok.0)

-- the namesake of the class
pub namesake_in-namesake-requires-clause-class : goal.namesake_in-namesake-requires-clause-class
namesake_in-namesake-requires-clause-class c =
    let tree = tree_of c.args.other.now in
    let f : ℕ → Option ℕ = namesake (tree_of c.args.one.now) tree in
    let n = c.nodes.node in
    let class = c.unwrap_or-class.result in
    let is : class ≡ parent tree n = c.unwrap_or-class.ensures ∙ ap (λ o. unwrap_or o 0) c.parent.ensures ∙ class_of tree n (omega arith) in
    let below : parent tree n < n = c.nodes_are_a_tree-2.ensures.below n (omega arith) in
    let above : c.index.result.now ≡ f (parent tree n) = c.index.ensures ∙ column-read f c.nodes.namesakes.items n class c.index.result.now c.nodes.invariant (omega arith) ∙ ap f is in
    sym above ∙ c.in-Some.is

pub namesake_in-namesake-requires-clause-inside : goal.namesake_in-namesake-requires-clause-inside
namesake_in-namesake-requires-clause-inside c =
    let one = tree_of c.args.one.now in
    let tree = tree_of c.args.other.now in
    let f : ℕ → Option ℕ = namesake one tree in
    let n = c.nodes.node in
    let class = c.unwrap_or-class.result in
    let is : class ≡ parent tree n = c.unwrap_or-class.ensures ∙ ap (λ o. unwrap_or o 0) c.parent.ensures ∙ class_of tree n (omega arith) in
    let below : parent tree n < n = c.nodes_are_a_tree-2.ensures.below n (omega arith) in
    let above : c.index.result.now ≡ f (parent tree n) = c.index.ensures ∙ column-read f c.nodes.namesakes.items n class c.index.result.now c.nodes.invariant (omega arith) ∙ ap f is in
    namesake-within one tree c.nodes_are_a_tree.ensures c.nodes_are_a_tree-2.ensures (parent tree n) c.in-Some.class (sym above ∙ c.in-Some.is)

pub nodes-preserved : goal.nodes-preserved
nodes-preserved c =
    let one = tree_of c.args.one.now in
    let tree = tree_of c.args.other.now in
    let f : ℕ → Option ℕ = namesake one tree in
    let n = c.nodes.node in
    let class = c.unwrap_or-class.result in
    let is : class ≡ parent tree n = c.unwrap_or-class.ensures ∙ ap (λ o. unwrap_or o 0) c.parent.ensures ∙ class_of tree n (omega arith) in
    let below : parent tree n < n = c.nodes_are_a_tree-2.ensures.below n (omega arith) in
    let above : c.index.result.now ≡ f (parent tree n) = c.index.ensures ∙ column-read f c.nodes.namesakes.items n class c.index.result.now c.nodes.invariant (omega arith) ∙ ap f is in
    let this : c.match-index.namesake ≡ f n =
    elim c.match-index.branch [
      | in-Some w ↦ w.namesake-is ∙ w.namesake_in-namesake.ensures.namesake
      | in-None w ↦ w.namesake-is ∙ sym (namesake-step one tree c.nodes_are_a_tree-2.ensures n (omega arith) ∙ ap (child_named one (row_at tree n).name) (sym above ∙ w.in-None.is))
    ] in
    c.in_ok-push-2.ensures.items ∙ column-push f c.nodes.namesakes.items n c.match-index.namesake c.nodes.invariant this
