use Rattle.std.proofs.Common.{◌≡◌, [], ◌++◌, ◌∷◌, ℕ, ◌<◌, ◌==◌, ◌&&◌, List, Option, Bool, cond, not, unwrap_or, length, map, get_or, ap, ap₂, sym, ◌∙◌, arith, rules}
use Rattle.std.specs.List.{list_any}
use Rattle.iso_model.specs.declared.script.Mode.{Mode}
use Rattle.iso_model.specs.declared.script.Mode.TheVariants.{SameThread}
use Rattle.std.proofs.lemmas.List.{length-map}
use Rattle.iso_plan.proofs.ColumnLemmas.{length-column, column-read, column-push, parent-at}
use Rattle.iso_plan.proofs.KeyLemmas.{root-eq}
use Rattle.iso_plan.proofs.ModeLemmas.{forces-in, mode-root, mode-step, modes-off}
use Rattle.iso_plan.specs.Locks.{takes_write}
use Rattle.iso_plan.specs.Modes.{forces, mode, nearest_mode}
use Rattle.iso_plan.specs.Paths.{column, is_root, path, parent}
use Rattle.iso_plan.specs.RowView.{row_of}
use Rattle.iso_plan.proofs.modes.modes.Goals as goal

pub nodes-init : goal.nodes-init
nodes-init c =
    let tree = map row_of c.args.rows.now in
    c.in_ok-push.ensures.items ∙ ap (λ (ms : List Mode). ms ++ SameThread ∷ []) c.in_ok-modes.ensures.items ∙ sym (ap (λ (m : Mode). m ∷ []) (mode-root tree c.args.settings))

pub index-requires : goal.index-requires
index-requires c =
    let rows = c.args.rows.now in
    let tree = map row_of rows in
    let n = c.nodes.n in
    let v = c.in_ok-forcing.forcing in
    let count : length v.items ≡ length rows = ap length c.in_ok-forcing.ensures ∙ length-column (forces tree) (length rows) in
    let at = parent-at rows n c.index-rows-n.result (omega arith) in
    let below : parent tree n < n = c.requires.tree.below n (omega arith) in
    omega (arith, v.ok.0)

pub index-requires-in-nodes : goal.index-requires-in-nodes
index-requires-in-nodes c =
    let rows = c.args.rows.now in
    let tree = map row_of rows in
    let v = c.in_ok-marked.marked in
    let count : length v.items ≡ length rows = ap length c.in_ok-marked.ensures ∙ length-column (λ m. nearest_mode tree (path tree m)) (length rows) in
    omega (arith, v.ok.0)

pub nodes-preserved : goal.nodes-preserved
nodes-preserved c =
    let rows = c.args.rows.now in
    let tree = map row_of rows in
    let s = c.args.settings in
    let n = c.nodes.n in
    let v = c.nodes.modes in
    let p = (get_or rows n c.index-rows-n.result).parent in
    let at = parent-at rows n c.index-rows-n.result (omega arith) in
    let below : parent tree n < n = c.requires.tree.below n (omega arith) in
    let w : ℕ → Bool = λ m. list_any (takes_write tree) (path tree m) in
    let near : ℕ → Option Mode = λ m. nearest_mode tree (path tree m) in
    let forced : c.index.result.now ≡ w (parent tree n) = c.index.ensures
    ∙ column-read (forces tree) c.in_ok-forcing.forcing.items (length rows) p c.index.result.now c.in_ok-forcing.ensures (omega arith)
    ∙ ap (forces tree) (sym at) ∙ forces-in tree c.requires.tree n (omega arith) in
    let marked : c.index-in-nodes.result.now ≡ near n = c.index-in-nodes.ensures
    ∙ column-read near c.in_ok-marked.marked.items (length rows) n c.index-in-nodes.result.now c.in_ok-marked.ensures (omega arith) in
    let top : (p == 0) ≡ is_root (parent tree n) = root-eq p ∙ ap is_root (sym at) in
    let this : c.mode_of.result ≡ mode tree s n =
    c.mode_of.ensures
    ∙ ap (λ (f : Bool). cond (s.parallel && not f) (unwrap_or c.index-in-nodes.result.now (cond (p == 0) s.classes_default_mode s.default_mode)) SameThread) forced
    ∙ ap₂ (λ (o : Option Mode) (t : Bool). cond (s.parallel && not (w (parent tree n))) (unwrap_or o (cond t s.classes_default_mode s.default_mode)) SameThread) marked top
    ∙ sym (mode-step tree s n (omega arith)) in
    c.in_ok-push-2.ensures.items ∙ column-push (mode tree s) v.items n c.mode_of.result c.nodes.invariant this

pub returns : goal.returns
returns c =
    let rows = c.args.rows.now in
    let tree = map row_of rows in
    let some : 0 < length rows = rw (length-map rows row_of) at c.requires.tree.rooted in
    let last : c.nodes.n ≡ length rows = omega arith in
    c.nodes.invariant ∙ ap (column (mode tree c.args.settings)) last

pub returns-then-not-settings : goal.returns-then-not-settings
returns-then-not-settings c = c.in_ok-vec.ensures.items_if_clones_equal (λ y h. search rules) ∙ modes-off (map row_of c.args.rows.now) c.args.settings (length c.args.rows.now) c.if-not-settings.true
