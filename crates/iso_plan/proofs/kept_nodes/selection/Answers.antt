use Rattle.std.proofs.Common.{◌≡◌, ◌==◌, ℕ, List, Bor, false, get_or, length, map, ap, sym, ◌∙◌, arith}
use Rattle.iso_plan.proofs.ColumnLemmas.{column-read, length-column}
use Rattle.iso_plan.proofs.SelectionLemmas.{selection-by, those_of-agree}
use Rattle.std.proofs.lemmas.List.{length-map}
use Rattle.iso_plan.specs.Paths.{column}
use Rattle.iso_plan.specs.RowView.{row_of}
use Rattle.iso_plan.specs.declared.row.Row.{Row}
use Rattle.iso_plan.specs.KeptNodes.{is_kept_by, texts_of}
use Rattle.iso_plan.proofs.kept_nodes.selection.Goals as goal

pub those_of-requires-clause-each : goal.those_of-requires-clause-each
those_of-requires-clause-each c =
    let tree = map row_of c.args.rows.items in
    ap length (c.deref-2.ensures.value ∙ c.in_ok-kept.ensures.kept) ∙ length-column (is_kept_by (map row_of c.deref.result.now) (texts_of c.args.only.now)) (length c.deref.result.now)
    ∙ ap length c.deref.ensures.value

pub returns-clause-kept : goal.returns-clause-kept
returns-clause-kept c =
    let rows = c.args.rows.items in
    let tree = map row_of rows in
    let only = texts_of c.args.only.now in
    let kept = c.deref-2.result.now in
    let count : length tree ≡ length rows = length-map rows row_of in
    let given : kept ≡ column (is_kept_by tree only) (length rows) =
    c.deref-2.ensures.value ∙ c.in_ok-kept.ensures.kept ∙ ap (λ (rs : List Row). column (is_kept_by (map row_of rs) only) (length rs)) c.deref.ensures.value in
    let some : (length only == 0) ≡ false = ap (λ (n : ℕ). n == 0) (length-map c.args.only.now (λ (b : Bor (List ℕ)). b.now)) ∙ sym c.is_empty.ensures ∙ c.if-is_empty.false in
    c.in_ok-those_of.ensures
    ∙ those_of-agree tree c.requires.tree (λ n. get_or kept n false) (is_kept_by tree only) (λ n h. column-read (is_kept_by tree only) kept (length rows) n false given (omega arith))
    ∙ selection-by tree only some
