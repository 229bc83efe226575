use Rattle.std.proofs.Common.{◌≡◌, ◌<◌, ◌-◌, ℕ, List, length, map, true, ap, subst, sym, ◌∙◌, arith}
use Rattle.std.proofs.lemmas.List.{get_or_default, length-map, map-set, nil_from_length}
use Rattle.iso_plan.proofs.ColumnLemmas.{row-at}
use Rattle.iso_plan.proofs.EffectiveLemmas.{all-effective, bare-effective, before-effective, next-effective, none-effective, parent-there}
use Rattle.iso_plan.proofs.PathLemmas.{eq_from}
use Rattle.iso_model.specs.Targets.{effective}
use Rattle.iso_plan.specs.KeyTable.{kind_marks}
use Rattle.iso_plan.specs.Paths.{is_test, parent, row_at}
use Rattle.iso_plan.specs.Repeated.{effective_at}
use Rattle.iso_plan.specs.RowView.{kind_of, row_of}
use Rattle.iso_plan.specs.Tree as T
use Rattle.iso_plan.specs.Tree.{with_marks}
use Rattle.iso_plan.specs.declared.row.Row.{Row}
use Rattle.iso_plan.proofs.children_marks.make_effective.Goals as goal

pub marks_at-requires-clause-class : goal.marks_at-requires-clause-class
marks_at-requires-clause-class c =
    let old = map row_of c.args.rows.now.items in
    let now = c.nodes.rows.items in
    let n = c.nodes.n in
    let many : length old ≡ length c.args.rows.now.items = length-map c.args.rows.now.items row_of in
    let so_many : length (map row_of now) ≡ length now = length-map now row_of in
    let less : n < length old = omega (arith, c.args.rows.now.ok.0) in
    let there : parent (map row_of now) n < length (map row_of now) = parent-there old (map row_of now) n c.nodes.invariant c.requires less in
    let within : parent (map row_of now) n < length now = omega (arith, there, so_many) in
    subst (λ (rows : List Row). parent (map row_of rows) n < length rows) (sym c.as_slice.ensures.value) within

pub marks_at-requires-clause-before : goal.marks_at-requires-clause-before
marks_at-requires-clause-before c =
    let old = map row_of c.args.rows.now.items in
    let now = c.nodes.rows.items in
    let n = c.nodes.n in
    let many : length old ≡ length c.args.rows.now.items = length-map c.args.rows.now.items row_of in
    let less : n < length old = omega (arith, c.args.rows.now.ok.0) in
    λ above. subst (λ (rows : List Row). is_test (row_at (map row_of rows) (n - 1)).kind ≡ true
    → kind_marks (row_at (map row_of rows) (n - 1)).kind ≡ effective_at (map row_of rows) (n - 1)) (sym c.as_slice.ensures.value)
    (before-effective old (map row_of now) n c.nodes.invariant c.requires above less)

pub nodes-preserved : goal.nodes-preserved
nodes-preserved c =
    let old = map row_of c.args.rows.now.items in
    let now = c.nodes.rows.items in
    let n = c.nodes.n in
    let r = c.index_mut.result.now in
    let k = c.index-in-nodes.result.now in
    let many : length old ≡ length c.args.rows.now.items = length-map c.args.rows.now.items row_of in
    let so_many : length (map row_of now) ≡ length now = length-map now row_of in
    let count = c.nodes.invariant.count in
    let less : n < length old = omega (arith, c.args.rows.now.ok.0) in
    let within : n < length now = omega arith in
    let is : row_of r ≡ row_at (map row_of now) n = ap row_of c.index_mut.ensures.value ∙ sym (row-at now n r within) in
    let kinds : k ≡ r = c.index-in-nodes.ensures ∙ get_or_default now n k r within ∙ sym c.index_mut.ensures.value in
    let marks : c.in_ok-marks.marks ≡ effective (row_at (map row_of now) (row_of r).parent).written (row_of r).written =
    c.in_ok-marks.ensures ∙ ap (λ (rows : List Row). effective_at (map row_of rows) n) c.as_slice.ensures.value
    ∙ ap (λ (x : T.Row). effective (row_at (map row_of now) x.parent).written x.written) (sym is) in
    let kind : kind_of c.in_ok-kind.kind ≡ with_marks (effective (row_at (map row_of now) (row_of r).parent).written (row_of r).written) (row_of r).kind =
    c.in_ok-kind.ensures ∙ (λ i. with_marks (marks i) (kind_of (kinds i).kind)) in
    rw map-set (next-effective old (map row_of now) n (kind_of c.in_ok-kind.kind) (row_of r) c.nodes.invariant c.requires less is kind)

pub nodes-preserved-then-is_empty-2 : goal.nodes-preserved-then-is_empty-2
nodes-preserved-then-is_empty-2 c =
    let old = map row_of c.args.rows.now.items in
    let now = c.nodes.rows.items in
    let n = c.nodes.n in
    let k = c.index.result.now in
    let many : length old ≡ length c.args.rows.now.items = length-map c.args.rows.now.items row_of in
    let so_many : length (map row_of now) ≡ length now = length-map now row_of in
    let count = c.nodes.invariant.count in
    let less : n < length old = omega (arith, c.args.rows.now.ok.0) in
    let within : n < length now = omega arith in
    let tree = map row_of now in
    let kinds : row_at tree n ≡ row_of k = row-at now n k within ∙ ap row_of (sym c.index.ensures) in
    let marks : c.in_ok-marks.marks ≡ effective_at tree n = c.in_ok-marks.ensures ∙ ap (λ (rows : List Row). effective_at (map row_of rows) n) c.as_slice.ensures.value in
    let none : length c.in_ok-marks.marks ≡ 0 = eq_from (length c.in_ok-marks.marks) 0 (sym c.if-is_empty.ensures) in
    let bare : length c.marks.result.now ≡ 0 = eq_from (length c.marks.result.now) 0 (sym c.if-is_empty-2.ensures) in
    bare-effective old tree n c.nodes.invariant c.requires less (sym marks ∙ nil_from_length c.in_ok-marks.marks none)
    (ap (λ (x : T.Row). kind_marks x.kind) kinds ∙ sym c.marks.ensures ∙ nil_from_length c.marks.result.now bare)

pub nodes-init : goal.nodes-init
nodes-init c = none-effective (map row_of c.args.rows.now.items)

pub returns : goal.returns
returns c =
    let old = map row_of c.args.rows.now.items in
    let many : length old ≡ length c.args.rows.now.items = length-map c.args.rows.now.items row_of in
    all-effective old (map row_of c.nodes.rows.items) c.nodes.n c.nodes.invariant (omega (arith, c.args.rows.now.ok.0))
