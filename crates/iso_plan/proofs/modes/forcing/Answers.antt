use Rattle.std.proofs.Common.{◌≡◌, [], ◌++◌, ◌∷◌, ◌&&◌, ◌||◌, ℕ, ◌<◌, List, Bool, false, length, map, not, get_or, ap, ap₂, sym, ◌∙◌, arith}
use Rattle.std.proofs.lemmas.List.{length-map}
use Rattle.std.specs.List.{list_any}
use Rattle.iso_plan.proofs.ColumnLemmas.{length-column, column-read, within-column, column-push, parent-at, row-at}
use Rattle.iso_plan.proofs.PathLemmas.{path-root, path-step}
use Rattle.iso_plan.proofs.ModeLemmas.{forces-in}
use Rattle.iso_plan.specs.Locks.{is_write, locks, takes_write}
use Rattle.iso_plan.specs.Modes.{forces}
use Rattle.iso_plan.specs.Paths.{column, is_test, path, parent, row_at}
use Rattle.iso_plan.specs.RowView.{kind_of, row_of}
use Rattle.iso_plan.specs.Tree.{Row}
use Rattle.iso_plan.specs.declared.row.Row.{Row as PlanRow}
use Rattle.iso_plan.proofs.modes.forcing.Goals as goal

pub nodes-init : goal.nodes-init
nodes-init c =
    let tree = map row_of c.args.rows.now in
    let none : forces tree 0 ≡ false = ap (λ (r : Row). not (is_test r.kind) && list_any (takes_write tree) (path tree 0)) c.requires.tree.root_is
    ∙ ap (list_any (takes_write tree)) (path-root tree) in
    c.in_ok-push.ensures.items ∙ ap (λ (bs : List Bool). bs ++ false ∷ []) c.in_ok-forcing.ensures.items ∙ sym (ap (λ (b : Bool). b ∷ []) none)

pub index-above-requires : goal.index-above-requires
index-above-requires c =
    let rows = c.args.rows.now in
    let tree = map row_of rows in
    let n = c.nodes.n in
    let v = c.nodes.forcing in
    let count : length v.items ≡ n = ap length c.nodes.invariant ∙ length-column (forces tree) n in
    let at = parent-at rows n c.index-rows-n.result (omega arith) in
    let below : parent tree n < n = c.requires.tree.below n (omega arith) in
    omega (arith, v.ok.0)

pub bounds-taken-n : goal.bounds-taken-n
bounds-taken-n c = within-column (locks (map row_of c.args.rows.now)) c.args.taken.now (length c.args.rows.now) c.nodes.n c.requires.taken (omega arith)

pub nodes-preserved : goal.nodes-preserved
nodes-preserved c =
    let rows = c.args.rows.now in
    let tree = map row_of rows in
    let n = c.nodes.n in
    let v = c.nodes.forcing in
    let r = get_or rows n c.index-rows-n.result in
    let test : is_test (kind_of c.index-rows-n-in-nodes.result.kind) ≡ is_test (row_at tree n).kind = ap (λ (x : PlanRow). is_test (kind_of x.kind)) c.index-rows-n-in-nodes.is
    ∙ sym (ap (λ (x : Row). is_test x.kind) (row-at rows n c.index-rows-n-in-nodes.result (omega arith))) in
    let at = parent-at rows n c.index-rows-n.result (omega arith) in
    let below : parent tree n < n = c.requires.tree.below n (omega arith) in
    let w : ℕ → Bool = λ m. list_any (takes_write tree) (path tree m) in
    let above : c.index-above.result.now ≡ w (parent tree n) = c.index-above.ensures ∙ column-read (forces tree) v.items n r.parent c.index-above.result.now c.nodes.invariant (omega arith)
    ∙ ap (forces tree) (sym at) ∙ forces-in tree c.requires.tree n (omega arith) in
    let own : list_any is_write c.as_slice.result.now ≡ takes_write tree n = ap (list_any is_write) (c.as_slice.ensures ∙ c.index-taken-n.is
    ∙ column-read (locks tree) c.args.taken.now (length rows) n c.index-taken-n.result c.requires.taken (omega arith)) in
    let this : c.forces.result ≡ forces tree n = c.forces.ensures
    ∙ ap₂ (λ (t b : Bool). not t && b) test (ap₂ (λ (a b : Bool). a || b) own above ∙ sym (ap (list_any (takes_write tree)) (path-step tree c.requires.tree.below n (omega arith)))) in
    c.in_ok-push-2.ensures.items ∙ column-push (forces tree) v.items n c.forces.result c.nodes.invariant this

pub returns : goal.returns
returns c =
    let rows = c.args.rows.now in
    let tree = map row_of rows in
    let some : 0 < length rows = rw (length-map rows row_of) at c.requires.tree.rooted in
    let last : c.nodes.n ≡ length rows = omega arith in
    c.nodes.invariant ∙ ap (column (forces tree)) last
