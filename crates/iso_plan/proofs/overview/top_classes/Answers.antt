use Rattle.std.proofs.Common.{◌≡◌, ◌<◌, ◌∷◌, [], ◌++◌, ◌==◌, ◌≢◌, ℕ, List, Vec, Global, vec_len, Bool, false, cond, get_or, length, map, ap, sym, ◌∙◌, arith}
use Rattle.std.proofs.lemmas.Bool.Decides.{nat_tests}
use Rattle.std.proofs.lemmas.List.{length-map}
use Rattle.iso_plan.proofs.ColumnLemmas.{column-read, column-push, length-column, parent-at}
use Rattle.iso_plan.proofs.TopClassLemmas.{top_class-root, top_class-step, top_in}
use Rattle.iso_plan.specs.Paths.{IsRooted, column, parent}
use Rattle.iso_plan.specs.RowView.{row_of}
use Rattle.iso_plan.specs.declared.row.Row.{Row}
use Rattle.iso_plan.specs.TopClasses.{top_class}
use Rattle.iso_plan.proofs.overview.top_classes.Goals as goal
use Rattle.iso_plan.proofs.overview.top_classes.Goals.{then-class-eq0, else-class-eq0}

pub nodes-init : goal.nodes-init
nodes-init c =
    c.in_ok-push.ensures.items ∙ ap (λ (ns : List ℕ). ns ++ 0 ∷ []) c.in_ok-classes.ensures.items
    ∙ sym (ap (λ (n : ℕ). n ∷ []) (top_class-root (map row_of c.args.rows.now)))

-- a class that is read of a column has a smaller number
in_column : (rows : List Row) (classes : Vec ℕ Global) (n : ℕ) (d : Row) → IsRooted (map row_of rows) → 0 < n
    → n < length rows → classes.items ≡ column (top_class (map row_of rows)) n → (get_or rows n d).parent < vec_len classes
in_column rows classes n d tree pos h e =
    let at = parent-at rows n d h in
    let below : parent (map row_of rows) n < n = tree.below n pos in
    let count : length classes.items ≡ n = ap length e ∙ length-column (top_class (map row_of rows)) n in
    omega (arith, classes.ok.0)

pub index-requires : goal.index-requires
index-requires c = in_column c.args.rows.now c.nodes.classes c.nodes.n c.index-rows-n.result c.requires.tree (omega arith) (omega arith) c.nodes.invariant

pub nodes-preserved : goal.nodes-preserved
nodes-preserved c =
    let rows = c.args.rows.now in
    let tree = map row_of rows in
    let n = c.nodes.n in
    let v = c.nodes.classes in
    let f : ℕ → ℕ = top_class tree in
    let p = (get_or rows n c.index-rows-n.result).parent in
    let at : parent tree n ≡ p = parent-at rows n c.index-rows-n.result (omega arith) in
    let below : parent tree n < n = c.requires.tree.below n (omega arith) in
    let this : c.if-class-eq0.top ≡ top_in p (f p) n = elim c.if-class-eq0.branch [
      | then-class-eq0 w ↦ w.top-is ∙ sym (ap (λ (q : ℕ). top_in q (f p) n) w.if-class-eq0.true)
      | else-class-eq0 w ↦
          let apart : (p == 0) ≡ false = none p w.if-class-eq0.false in
          w.top-is ∙ w.index.ensures ∙ column-read f v.items n p w.index.result.now c.nodes.invariant (omega arith) ∙ sym (ap (λ (b : Bool). cond b n (f p)) apart)
    ] in
    c.in_ok-push-2.ensures.items
    ∙ column-push f v.items n c.if-class-eq0.top c.nodes.invariant (this ∙ ap (λ (q : ℕ). top_in q (f q) n) (sym at) ∙ sym (top_class-step tree c.requires.tree.below n (omega arith)))
  where
    none : (p : ℕ) → p ≢ 0 → (p == 0) ≡ false
    none p h = grind (arith, nat_tests)

pub returns : goal.returns
returns c =
    let rows = c.args.rows.now in
    let some : 0 < length rows = rw (length-map rows row_of) at c.requires.tree.rooted in
    let last : c.nodes.n ≡ length rows = omega arith in
    c.nodes.invariant ∙ ap (column (top_class (map row_of rows))) last
