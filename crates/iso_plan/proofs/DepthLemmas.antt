-- How deep a tree is: as deep as its longest class chain, so that no path of a class is longer.
use Prim.Native.Nat.max as M
use Rattle.std.proofs.Common.{◌≡◌, ℕ, zero, suc, ◌<◌, ◌≤◌, List, [], ◌∷◌, ◌++◌, length, map, get_or, max, true, false, ap, ap₂, sym, ◌∙◌, inl, inr, refl, arith}
use Rattle.std.proofs.lemmas.Bool.{cases_lt}
use Rattle.std.proofs.lemmas.List.{get_or_past, length-map, length-reverse, map-append}
use Rattle.std.proofs.lemmas.List.Recursion.{max_bounds}
use Rattle.std.specs.declared.alloc.Global.{Global}
use Rattle.std.specs.declared.sync.Arc.{Arc}
use Rattle.std.specs.declared.vec.Vec.{Vec}
use Rattle.std.specs.Arc.{arc_value}
use Rattle.iso_model.specs.Chains as C
use Rattle.iso_model.specs.ScriptView.{class_head_of}
use Rattle.iso_model.specs.declared.heads.ClassHead.{ClassHead}
use Rattle.iso_plan.proofs.ColumnLemmas.{column-read, length-column}
use Rattle.iso_plan.proofs.PathLemmas.{along, chain-step, path-root, path-step}
use Rattle.iso_plan.specs.NodeChains.{chain_classes, class_heads, depth, heads_on, largest}
use Rattle.iso_plan.specs.Paths.{IsTree, column, is_class_or_test, is_test, parent, path, row_at}
use Rattle.iso_plan.specs.RowView.{heads_in}
use Rattle.iso_plan.specs.Tree.{Kind, root, class_node, test_node, Row, root_row}

root-chain : (tree : List Row) → chain_classes tree 0 ≡ []
root-chain tree = ap (heads_on tree) (path-root tree)

-- what is no node of the tree stands for a root
past-chain : (tree : List Row) → IsTree tree → (n : ℕ) → length tree ≤ n → chain_classes tree n ≡ []
past-chain tree t n past =
    let rooted = t.rooted in
    let pos : 0 < n = omega arith in
    let row : row_at tree n ≡ root_row = get_or_past tree n root_row past in
    let above : parent tree n ≡ 0 = ap (λ (r : Row). r.parent) row in
    chain-step tree t.below n pos ∙ rw (ap (λ (r : Row). class_heads r.kind) row, above) (root-chain tree)

within : (tree : List Row) (n : ℕ) → n < length tree → length (chain_classes tree n) ≤ depth tree
within tree n h =
    let each : ℕ → ℕ = λ m. length (chain_classes tree m) in
    let all = column each (length tree) in
    let inside : n < length all = rw (length-column each (length tree)) h in
    let own : get_or all n 0 ≡ each n = column-read each all (length tree) n 0 refl h in
    rw own at (max_bounds largest (λ m. m) refl (λ m ms. refl) all n 0 inside)

pub chain-within : (tree : List Row) → IsTree tree → (n : ℕ) → length (chain_classes tree n) ≤ depth tree
chain-within tree t n = elim (cases_lt n (length tree)) [
  | inl inside ↦ within tree n inside
  | inr past ↦ rw (past-chain tree t n past) (omega arith)
]

-- a class's path is as long as its chain, and so no longer than the tree is deep
one-more : (k : Kind) (cs : List C.ClassHead) → is_class_or_test k ≡ true → is_test k ≡ false → length (class_heads k ++ cs) ≡ suc (length cs)
one-more root cs e c = absurd (cc)
one-more (class_node isolated head) cs e c = refl
one-more (test_node head) cs e c = absurd (cc)

chain-path : (tree : List Row) → IsTree tree → (n : ℕ) → n < length tree → is_test (row_at tree n).kind ≡ false → length (path tree n) ≡ length (chain_classes tree n)
chain-path tree t =
    along tree t.below (λ n. n < length tree → is_test (row_at tree n).kind ≡ false → length (path tree n) ≡ length (chain_classes tree n))
    (λ h c. ap length (path-root tree) ∙ sym (ap (λ (ns : List ℕ). length (heads_on tree ns)) (path-root tree)))
    (λ n pos ih h c.
    let below = t.below n pos in
    ap length (path-step tree t.below n pos) ∙ ap suc (ih (omega arith) (t.inner n pos))
    ∙ sym (ap length (chain-step tree t.below n pos) ∙ one-more (row_at tree n).kind (chain_classes tree (parent tree n)) (t.full n pos h) c))

pub path-within : (tree : List Row) → IsTree tree → (n : ℕ) → n < length tree → is_test (row_at tree n).kind ≡ false → length (path tree n) ≤ depth tree
path-within tree t n h c = rw (chain-path tree t n h c) (chain-within tree t n)

-- how many classes chains have
abbrev pub counts : List (Arc (Vec (Arc ClassHead Global) Global) Global) → List ℕ
counts chains = map (λ (c : Arc (Vec (Arc ClassHead Global) Global) Global). length (arc_value c).items) chains

pub counts-heads : (chains : List (Arc (Vec (Arc ClassHead Global) Global) Global)) → counts chains ≡ map (λ hs. length hs) (map heads_in chains)
counts-heads [] = refl
counts-heads (c ∷ cs) =
    let of : Arc ClassHead Global → C.ClassHead = λ h. class_head_of (arc_value h) in
    let own : length (heads_in c) ≡ length (arc_value c).items = length-reverse (map of (arc_value c).items) ∙ length-map (arc_value c).items of in
    ap₂ (λ n ns. n ∷ ns) (sym own) (counts-heads cs)

map-column : {A B : Type 0} (g : A → B) (f : ℕ → A) (n : ℕ) → map g (column f n) ≡ column (λ m. g (f m)) n
map-column g f zero = refl
map-column g f (suc n) = map-append g (column f n) (f n ∷ []) ∙ ap (λ xs. xs ++ g (f n) ∷ []) (map-column g f n)

-- the most classes in the chains of all nodes are the depth
pub depth-is : (tree : List Row) (chains : List (List C.ClassHead)) → chains ≡ column (chain_classes tree) (length tree) → largest (map (λ hs. length hs) chains) ≡ depth tree
depth-is tree chains e = ap (λ (cs : List (List C.ClassHead)). largest (map (λ hs. length hs) cs)) e ∙ ap largest (map-column (λ hs. length hs) (chain_classes tree) (length tree))

pub max-none : (n : ℕ) → max n 0 ≡ n
max-none zero = M.zero 0
max-none (suc n) = M.suc-zero n
