-- A class's path has as many classes as its chain.
use Rattle.std.proofs.Common.{◌≡◌, ℕ, zero, suc, ◌<◌, List, [], ◌∷◌, ◌++◌, length, map, true, false, ap, sym, ◌∙◌, refl, arith}
use Rattle.std.proofs.lemmas.List.{length-map, length-reverse}
use Rattle.std.specs.Arc.{arc_value}
use Rattle.std.specs.declared.alloc.Global.{Global}
use Rattle.std.specs.declared.sync.Arc.{Arc}
use Rattle.iso_model.specs.ChainView.{innermost_first}
use Rattle.iso_model.specs.Chains as C
use Rattle.iso_model.specs.ScriptView.{class_head_of}
use Rattle.iso_model.specs.declared.heads.ClassHead.{ClassHead}
use Rattle.iso_plan.proofs.PathLemmas.{along, chain-step, path-root, path-step}
use Rattle.iso_plan.specs.NodeChains.{chain_classes, class_heads, heads_on}
use Rattle.iso_plan.specs.Paths.{IsTree, is_class_or_test, is_test, parent, path, row_at}
use Rattle.iso_plan.specs.Tree.{Kind, root, class_node, test_node, Row}

one-more : (k : Kind) (cs : List C.ClassHead) → is_class_or_test k ≡ true → is_test k ≡ false → length (class_heads k ++ cs) ≡ suc (length cs)
one-more root cs e c = absurd (cc)
one-more (class_node isolated head) cs e c = refl
one-more (test_node head) cs e c = absurd (cc)

chain-path : (tree : List Row) → IsTree tree → (n : ℕ) → n < length tree → is_test (row_at tree n).kind ≡ false → length (path tree n) ≡ length (chain_classes tree n)
chain-path tree t =
    along tree t.below (λ n. n < length tree → is_test (row_at tree n).kind ≡ false → length (path tree n) ≡ length (chain_classes tree n))
    (λ h c. ap length (path-root tree) ∙ sym (ap (λ (ns : List ℕ). length (heads_on tree ns)) (path-root tree)))
    (λ n pos ih h c.
    let below = t.below n pos in
    ap length (path-step tree t.below n pos) ∙ ap suc (ih (omega arith) (t.inner n pos))
    ∙ sym (ap length (chain-step tree t.below n pos) ∙ one-more (row_at tree n).kind (chain_classes tree (parent tree n)) (t.full n pos h) c))

pub heads-path : (tree : List Row) → IsTree tree → (n : ℕ) → n < length tree → is_test (row_at tree n).kind ≡ false
    → (heads : List (Arc ClassHead Global)) → innermost_first heads ≡ chain_classes tree n → length heads ≡ length (path tree n)
heads-path tree t n h c heads e =
    let of : Arc ClassHead Global → C.ClassHead = λ a. class_head_of (arc_value a) in
    sym (length-reverse (map of heads) ∙ length-map heads of) ∙ ap length e ∙ sym (chain-path tree t n h c)
