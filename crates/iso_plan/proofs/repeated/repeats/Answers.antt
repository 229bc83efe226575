use Rattle.std.proofs.Common.{◌≡◌, ◌-◌, map, ap, sym, ◌∙◌, arith}
use Rattle.iso_plan.proofs.ColumnLemmas.{row-at}
use Rattle.iso_plan.specs.Paths.{is_test, row_at}
use Rattle.iso_plan.specs.RowView.{row_of}
use Rattle.iso_plan.specs.Tree as T
use Rattle.iso_plan.proofs.repeated.repeats.Goals as goal

pub returns : goal.returns
returns c = λ yes.
    let rows = c.args.rows.now in
    let tree = map row_of rows in
    let n = c.args.n in
    let a = c.index-rows-n.result in
    let b = c.index-rows-n-2.result in
    let before : row_at tree (n - 1) ≡ row_of a = row-at rows (n - 1) a (omega arith) ∙ ap row_of (sym c.index-rows-n.is) in
    let here : row_at tree n ≡ row_of b = row-at rows n b (omega arith) ∙ ap row_of (sym c.index-rows-n-2.is) in
    let alike = c.is_repeated.ensures yes in
    record {
      later = omega arith;
      first = ap (λ (r : T.Row). is_test r.kind) before ∙ alike.0;
      second = ap (λ (r : T.Row). is_test r.kind) here ∙ alike.1;
      class = ap (λ (r : T.Row). r.parent) before ∙ alike.2 ∙ sym (ap (λ (r : T.Row). r.parent) here);
      written = ap (λ (r : T.Row). r.written) before ∙ alike.3 ∙ sym (ap (λ (r : T.Row). r.written) here);
    }
