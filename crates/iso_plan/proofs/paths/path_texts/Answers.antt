use Rattle.std.proofs.Common.{◌≡◌, ◌<◌, ◌∷◌, [], ◌++◌, ℕ, List, get_or, length, map, ap, ap₂, sym, ◌∙◌, arith}
use Rattle.std.proofs.lemmas.List.{length-map}
use Rattle.iso_plan.proofs.ColumnLemmas.{column-read, column-push, length-column, parent-at, row-at}
use Rattle.iso_plan.proofs.PathTextLemmas.{path_text-root, path_text-step, text_in}
use Rattle.iso_plan.specs.Paths.{column, parent}
use Rattle.iso_plan.specs.PathTexts.{path_text}
use Rattle.iso_plan.specs.RowView.{row_of}
use Rattle.iso_plan.specs.Tree as T
use Rattle.iso_plan.proofs.paths.path_texts.Goals as goal

pub nodes-init : goal.nodes-init
nodes-init c =
    c.in_ok-push.ensures.items ∙ ap₂ (λ (ts : List (List ℕ)) (t : List ℕ). ts ++ t ∷ []) c.in_ok-paths.ensures.items (c.new-2.ensures ∙ c.new.ensures.bytes)
    ∙ sym (ap (λ (t : List ℕ). t ∷ []) (path_text-root (map row_of c.args.rows.now)))

pub index-requires : goal.index-requires
index-requires c =
    let rows = c.args.rows.now in
    let n = c.nodes.n in
    let at = parent-at rows n c.index-rows-n.result (omega arith) in
    let below : parent (map row_of rows) n < n = c.requires.below n (omega arith) in
    let count : length c.nodes.paths.items ≡ n = ap length c.nodes.invariant ∙ length-column (path_text (map row_of rows)) n in
    omega (arith, c.nodes.paths.ok.0)

pub nodes-preserved : goal.nodes-preserved
nodes-preserved c =
    let rows = c.args.rows.now in
    let tree = map row_of rows in
    let n = c.nodes.n in
    let v = c.nodes.paths in
    let f : ℕ → List ℕ = path_text tree in
    let at = parent-at rows n c.index-rows-n.result (omega arith) in
    let below : parent tree n < n = c.requires.below n (omega arith) in
    let p = (get_or rows n c.index-rows-n.result).parent in
    let above : c.index.result.now ≡ f (parent tree n) = c.index.ensures ∙ column-read f v.items n p c.index.result.now c.nodes.invariant (omega arith) ∙ ap f (sym at) in
    let own = ap (λ (r : T.Row). r.name) (row-at rows n c.index-rows-n-in-nodes.result (omega arith)) in
    let this : c.in_ok-path.path ≡ f n =
    c.in_ok-path.ensures ∙ ap (text_in p c.index.result.now) c.as_str.ensures ∙ ap₂ (λ (m : ℕ) (t : List ℕ). text_in m t (get_or rows n c.index-rows-n-in-nodes.result).name) (sym at) above
    ∙ ap (text_in (parent tree n) (f (parent tree n))) (sym own) ∙ sym (path_text-step tree c.requires.below n (omega arith)) in
    c.in_ok-push-2.ensures.items ∙ column-push f v.items n c.in_ok-path.path c.nodes.invariant this

pub returns : goal.returns
returns c =
    let rows = c.args.rows.now in
    let some : 0 < length rows = rw (length-map rows row_of) at c.requires.rooted in
    let last : c.nodes.n ≡ length rows = omega arith in
    c.nodes.invariant ∙ ap (column (path_text (map row_of rows))) last
