use Rattle.std.proofs.Common.{◌≡◌, ◌<◌, ◌||◌, ◌++◌, ◌∷◌, [], ℕ, List, Bool, false, get_or, length, map, ap, sym, ◌∙◌, arith}
use Rattle.std.proofs.lemmas.List.{length-map}
use Rattle.iso_model.specs.NameSets.{is_among}
use Rattle.iso_plan.proofs.ColumnLemmas.{column-read, column-push, length-column, parent-at}
use Rattle.iso_plan.proofs.KeptLemmas.{chosen-root, chosen-step}
use Rattle.iso_plan.specs.Paths.{column, parent}
use Rattle.iso_plan.specs.PathTexts.{path_text}
use Rattle.iso_plan.specs.RowView.{row_of}
use Rattle.iso_plan.specs.KeptNodes.{is_chosen, texts_of}
use Rattle.iso_plan.proofs.kept_nodes.chosen.Goals as goal
use Rattle.iso_plan.proofs.kept_nodes.chosen.Goals.{then-contains, else-contains}

pub nodes-init : goal.nodes-init
nodes-init c =
    c.in_ok-push.ensures.items ∙ ap (λ (bs : List Bool). bs ++ false ∷ []) c.in_ok-chosen.ensures.items
    ∙ sym (ap (λ (b : Bool). b ∷ []) (chosen-root (map row_of c.args.rows.now) (texts_of c.args.only.now)))

pub index-above-requires : goal.index-above-requires
index-above-requires c =
    let rows = c.args.rows.now in
    let n = c.nodes.n in
    let at = parent-at rows n c.index-rows-n.result (omega arith) in
    let below : parent (map row_of rows) n < n = c.requires.tree.below n (omega arith) in
    let count : length c.nodes.chosen.items ≡ n = ap length c.nodes.invariant ∙ length-column (is_chosen (map row_of rows) (texts_of c.args.only.now)) n in
    omega (arith, c.nodes.chosen.ok.0)

pub bounds-paths-n : goal.bounds-paths-n
bounds-paths-n c =
    let rows = c.args.rows.now in
    let count : length c.args.paths.now ≡ length rows = ap length c.requires.paths ∙ length-column (path_text (map row_of rows)) (length rows) in
    omega arith

pub nodes-preserved : goal.nodes-preserved
nodes-preserved c =
    let rows = c.args.rows.now in
    let tree = map row_of rows in
    let only = texts_of c.args.only.now in
    let n = c.nodes.n in
    let v = c.nodes.chosen in
    let f : ℕ → Bool = is_chosen tree only in
    let at = parent-at rows n c.index-rows-n.result (omega arith) in
    let below : parent tree n < n = c.requires.tree.below n (omega arith) in
    let p = (get_or rows n c.index-rows-n.result).parent in
    let above : c.index-above.result.now ≡ f (parent tree n) = c.index-above.ensures ∙ column-read f v.items n p c.index-above.result.now c.nodes.invariant (omega arith) ∙ ap f (sym at) in
    let own : c.as_str.result.now ≡ path_text tree n = c.as_str.ensures ∙ c.index-paths-n.is
    ∙ column-read (path_text tree) c.args.paths.now (length rows) n c.index-paths-n.result c.requires.paths (omega arith) in
    let named : c.contains.result ≡ is_among only (path_text tree n) = c.contains.ensures ∙ c.in_ok-wanted.ensures c.as_str.result.now ∙ ap (is_among only) own in
    let step = chosen-step tree c.requires.tree.below only n (omega arith) in
    let this : c.if-contains.push ≡ f n = elim c.if-contains.branch [
      | then-contains w ↦ w.push-is ∙ w.if-contains.true ∙ sym (step ∙ ap (λ (b : Bool). b || f (parent tree n)) (sym named ∙ w.if-contains.true))
      | else-contains w ↦ w.push-is ∙ above ∙ sym (step ∙ ap (λ (b : Bool). b || f (parent tree n)) (sym named ∙ w.if-contains.false))
    ] in
    c.in_ok-push-2.ensures.items ∙ column-push f v.items n c.if-contains.push c.nodes.invariant this

pub returns : goal.returns
returns c =
    let rows = c.args.rows.now in
    let some : 0 < length rows = rw (length-map rows row_of) at c.requires.tree.rooted in
    let last : c.nodes.n ≡ length rows = omega arith in
    c.nodes.invariant ∙ ap (column (is_chosen (map row_of rows) (texts_of c.args.only.now))) last
