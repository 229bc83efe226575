use Rattle.std.proofs.Common.{◌+◌, ℕ, List, Bor, length, map, drop, refl, ap, sym, ◌∙◌, arith}
use Rattle.std.proofs.lemmas.List.{drop_all, length-map}
use Rattle.std.proofs.lemmas.List.Sums.{fold-append}
use Rattle.std.specs.Str.{bytes_eq}
use Rattle.indexmap.specs.IndexSet.{insert_all, insert_key}
use Rattle.iso_model.specs.declared.heads.Mark.{Mark}
use Rattle.iso_plan.proofs.Growth.{drop_next}
use Rattle.iso_plan.specs.KeyTable.{mark_keys, marked_keys}
use Rattle.iso_plan.specs.RowView.{row_of}
use Rattle.iso_plan.proofs.keys.number_keys.Goals as goal

abbrev text : Bor (List ℕ) → List ℕ
text k = k.now

pub rows-init : goal.rows-init
rows-init c = rw (c.in_ok-insert.ensures.keys, c.requires.empty)

pub rows-preserved : goal.rows-preserved
rows-preserved c =
    let i = c.rows.row-index in
    let rs = c.args.rows.now in
    let next = drop_next c.row-item.result rs i (omega arith) c.row-item.is in
    let old = map text c.rows.table.keys in
    let rest = marked_keys (map row_of (drop (i + 1) rs)) in
    let own = mark_keys (row_of c.row-item.result).written in
    ap (λ (ks : List (List ℕ)). insert_all bytes_eq ks rest) (c.in_ok-add_marks.ensures ∙ ap (λ (ms : List Mark). insert_all bytes_eq old (mark_keys ms)) c.written.ensures)
    ∙ sym (fold-append (insert_key bytes_eq) old own rest) ∙ rw next at c.rows.invariant

pub returns-then-as_slice-clause-crowded : goal.returns-then-as_slice-clause-crowded
returns-then-as_slice-clause-crowded c =
    let all = rw (drop_all c.rows.row-index c.args.rows.now (omega arith)) at c.rows.invariant in
    (refl, omega (arith, ap length all, length-map c.rows.table.keys text, ap length c.as_slice.ensures.keys))

pub returns-clause-keys : goal.returns-clause-keys
returns-clause-keys c = rw (drop_all c.rows.row-index c.args.rows.now (omega arith)) at c.rows.invariant

pub returns-clause-few : goal.returns-clause-few
returns-clause-few c = rw (sym c.as_slice.ensures.keys) c.if-as_slice.false
