use Rattle.std.proofs.Common.{◌≡◌, [], ◌++◌, ◌∷◌, ◌<◌, length, map, get_or, ap, sym, ◌∙◌, arith}
use Rattle.std.proofs.lemmas.List.{length-map, map-set, get_or-map, get_or_default}
use Rattle.iso_plan.proofs.ColumnLemmas.{length-column, column-read, column-from, row-at, children-next}
use Rattle.iso_plan.specs.Paths.{parent, children, children_below}
use Rattle.iso_plan.specs.RowView.{row_of}
use Rattle.iso_plan.proofs.child_lists.children.Goals as goal

pub nodes-init : goal.nodes-init
nodes-init c =
    let all = c.in_ok-children.ensures in
    let v = c.in_ok-children.children in
    let count : length v.items ≡ length c.args.rows.now = sym (length-map v.items (λ c'. c'.items)) ∙ ap length all ∙ length-column (λ n. []) (length c.args.rows.now) in
    record { each = omega (arith, v.ok.0); below = λ m h. column-read (λ n. []) _ (length c.args.rows.now) m [] all h }

pub index_mut-siblings-requires : goal.index_mut-siblings-requires
index_mut-siblings-requires c =
    let rows = c.args.rows.now in
    let n = c.nodes.n in
    let at : parent (map row_of rows) n ≡ (get_or rows n c.index-rows-n.result).parent = ap (λ r. r.parent) (row-at rows n c.index-rows-n.result (omega arith)) in
    let below : parent (map row_of rows) n < n = c.requires.tree.below n (omega arith) in
    omega arith

pub nodes-preserved : goal.nodes-preserved
nodes-preserved c =
    let rows = c.args.rows.now in
    let n = c.nodes.n in
    let v = c.nodes.children in
    let p = (get_or rows n c.index-rows-n.result).parent in
    let xs = map (λ c'. c'.items) v.items in
    let at : parent (map row_of rows) n ≡ p = ap (λ r. r.parent) (row-at rows n c.index-rows-n.result (omega arith)) in
    let below : parent (map row_of rows) n < n = c.requires.tree.below n (omega arith) in
    let stored : p < length v.items = omega (arith, v.ok.0) in
    let within : p < length xs = rw (length-map v.items (λ c'. c'.items)) stored in
    let was : c.index_mut-siblings.result.now.items ≡ get_or xs p [] = ap (λ w. w.items) c.index_mut-siblings.ensures.value
    ∙ sym (get_or-map (λ w. w.items) v.items p c.index_mut-siblings.result.now [] stored) in
    let more = c.in_ok-push.ensures.items ∙ ap (λ ns. ns ++ n ∷ []) was in
    record {
      each = c.nodes.invariant.each;
      below = λ m h. rw map-set (children-next (map row_of rows) xs p n m c.push.new.self.items within (omega arith) at more (c.nodes.invariant.below m h));
    }

pub returns : goal.returns
returns c =
    let rows = c.args.rows.now in
    let v = c.nodes.children in
    column-from (children (map row_of rows)) (map (λ c'. c'.items) v.items) (length rows) (length-map v.items (λ c'. c'.items) ∙ omega (arith, v.ok.0))
    (λ m d h.
    let within : m < length (map (λ c'. c'.items) v.items) = rw (length-map v.items (λ c'. c'.items)) (omega (arith, v.ok.0)) in
    let last : c.nodes.n ≡ length (map row_of rows) = rw (length-map rows row_of) (omega arith) in
    get_or_default (map (λ c'. c'.items) v.items) m d [] within ∙ c.nodes.invariant.below m h ∙ ap (children_below (map row_of rows) m) last)
