use Rattle.std.proofs.Common.{rules, ◌≡◌, ◌<◌, ◌||◌, ℕ, Vec, Global, Bool, true, false, filter, get_or, length, map, ap, sym, ◌∙◌, arith}
use Rattle.std.proofs.lemmas.List.{get_or_default, length-map, length-set}
use Rattle.std.specs.List.{list_any, range_with_len}
use Rattle.iso_plan.proofs.ColumnLemmas.{column-from, column-read}
use Rattle.iso_plan.proofs.KeptLemmas.{kept-first, kept-left, kept-marked}
use Rattle.iso_plan.specs.Paths.{is_root, is_under}
use Rattle.iso_plan.specs.RowView.{row_of}
use Rattle.iso_plan.specs.KeptNodes.{is_chosen, is_kept_by}
use Rattle.iso_plan.proofs.kept_nodes.kept.Goals as goal
use Rattle.iso_plan.proofs.kept_nodes.kept.Goals.{then-chosen-n, else-chosen-n}

pub nodes-init : goal.nodes-init
nodes-init c =
    let rows = c.args.rows.now in
    let xs = c.in_ok-kept.kept.items in
    let count : length rows ≡ length (map row_of rows) = sym (length-map rows row_of) in
    let some : 0 < length rows = rw count c.requires.tree.rooted in
    let told = c.in_ok-kept.ensures.len in
    let long : length xs ≡ length rows = omega (arith, c.in_ok-kept.kept.ok.0) in
    record {
      each = length-set xs 0 _ ∙ long;
      marked = λ only e m. kept-first (map row_of rows) (is_chosen (map row_of rows) only) xs (length rows) m (c.in_ok-kept.ensures.items_if_clones_equal (λ y h. search rules)) (omega arith);
    }

pub bounds-chosen-n : goal.bounds-chosen-n
bounds-chosen-n c = let each = c.requires.each in omega arith

pub nodes-preserved : goal.nodes-preserved
nodes-preserved c =
    let rows = c.args.rows.now in
    let tree = map row_of rows in
    let n = c.nodes.n in
    elim c.if-chosen-n.branch [
      | then-chosen-n w ↦ record {
        each = ap (λ (v : Vec Bool Global). length v.items) w.kept-is ∙ w.mark_path.ensures.each ∙ c.nodes.invariant.each;
        marked = λ only e m.
            let test = is_chosen tree only in
            let yes : test n ≡ true = sym (column-read test c.args.chosen.now (length rows) n _ e (omega arith)) ∙ w.if-chosen-n.true in
            kept-marked tree test c.nodes.kept.items c.if-chosen-n.kept.items n m yes
            (ap (λ (v : Vec Bool Global). get_or v.items m false) w.kept-is ∙ w.mark_path.ensures.marked m) (c.nodes.invariant.marked only e m);
      }
      | else-chosen-n w ↦ record {
        each = ap (λ (v : Vec Bool Global). length v.items) w.kept-is ∙ c.nodes.invariant.each;
        marked = λ only e m.
            let test = is_chosen tree only in
            let no : test n ≡ false = sym (column-read test c.args.chosen.now (length rows) n _ e (omega arith)) ∙ w.if-chosen-n.false in
            ap (λ (v : Vec Bool Global). get_or v.items m false) w.kept-is ∙ kept-left tree test c.nodes.kept.items n m no (c.nodes.invariant.marked only e m);
      }
    ]

pub returns : goal.returns
returns c =
    let rows = c.args.rows.now in
    let tree = map row_of rows in
    let count : length tree ≡ length rows = length-map rows row_of in
    let some : 0 < length rows = rw count at c.requires.tree.rooted in
    let last : c.nodes.n ≡ length tree = omega arith in
    let each = c.nodes.invariant.each in
    λ only e. column-from (is_kept_by tree only) c.nodes.kept.items (length rows) each
    (λ m d h. get_or_default c.nodes.kept.items m d false (omega arith) ∙ c.nodes.invariant.marked only e m
    ∙ ap (λ (k : ℕ). is_root m || list_any (is_chosen tree only) (filter (is_under tree m) (range_with_len 0 k))) last)
