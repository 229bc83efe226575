use Rattle.std.proofs.Common.{◌≡◌, [], ◌++◌, ◌∷◌, ℕ, ◌<◌, List, Option, None, length, map, get_or, ap, ap₂, sym, ◌∙◌, arith}
use Rattle.std.specs.Option.{option_or}
use Rattle.iso_model.specs.declared.script.Mode.{Mode}
use Rattle.std.proofs.lemmas.List.{length-map}
use Rattle.iso_plan.proofs.ColumnLemmas.{length-column, column-read, column-push, parent-at, row-at}
use Rattle.iso_plan.proofs.PathLemmas.{path-root, path-step}
use Rattle.iso_plan.specs.Modes.{nearest_mode}
use Rattle.iso_plan.specs.Paths.{column, path, parent, row_at}
use Rattle.iso_plan.specs.RowView.{row_of}
use Rattle.iso_plan.specs.Tree as T
use Rattle.iso_plan.proofs.modes.nearest_modes.Goals as goal

pub nodes-init : goal.nodes-init
nodes-init c =
    let tree = map row_of c.args.rows.now in
    c.in_ok-push.ensures.items ∙ ap (λ (os : List (Option Mode)). os ++ None ∷ []) c.in_ok-marked.ensures.items ∙ sym (ap (λ (ns : List ℕ). nearest_mode tree ns ∷ []) (path-root tree))

pub index-above-requires : goal.index-above-requires
index-above-requires c =
    let rows = c.args.rows.now in
    let tree = map row_of rows in
    let n = c.nodes.n in
    let v = c.nodes.marked in
    let count : length v.items ≡ n = ap length c.nodes.invariant ∙ length-column (λ m. nearest_mode tree (path tree m)) n in
    let at = parent-at rows n c.index-rows-n.result (omega arith) in
    let below : parent tree n < n = c.requires.below n (omega arith) in
    omega (arith, v.ok.0)

pub nodes-preserved : goal.nodes-preserved
nodes-preserved c =
    let rows = c.args.rows.now in
    let tree = map row_of rows in
    let n = c.nodes.n in
    let v = c.nodes.marked in
    let p = (get_or rows n c.index-rows-n.result).parent in
    let at = parent-at rows n c.index-rows-n.result (omega arith) in
    let below : parent tree n < n = c.requires.below n (omega arith) in
    let f : ℕ → Option Mode = λ m. nearest_mode tree (path tree m) in
    let above : c.index-above.result.now ≡ f (parent tree n) = c.index-above.ensures ∙ column-read f v.items n p c.index-above.result.now c.nodes.invariant (omega arith) ∙ ap f (sym at) in
    let own : (get_or rows n c.index-rows-n-in-nodes.result).mode ≡ (row_at tree n).mode = sym (ap (λ (r : T.Row). r.mode) (row-at rows n c.index-rows-n-in-nodes.result (omega arith))) in
    let this : c.or.result ≡ f n = c.or.ensures ∙ ap₂ option_or own above ∙ sym (ap (nearest_mode tree) (path-step tree c.requires.below n (omega arith))) in
    c.in_ok-push-2.ensures.items ∙ column-push f v.items n c.or.result c.nodes.invariant this

pub returns : goal.returns
returns c =
    let rows = c.args.rows.now in
    let tree = map row_of rows in
    let some : 0 < length rows = rw (length-map rows row_of) at c.requires.rooted in
    let last : c.nodes.n ≡ length rows = omega arith in
    c.nodes.invariant ∙ ap (column (λ n. nearest_mode tree (path tree n))) last
