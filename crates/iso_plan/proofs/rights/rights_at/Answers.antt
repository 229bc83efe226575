use Rattle.std.proofs.Common.{◌≡◌, ◌<◌, ◌-◌, ℕ, List, length, map, Option, None, ap, ap₂, sym, ◌∙◌, arith}
use Rattle.std.proofs.lemmas.List.{length-map}
use Rattle.std.proofs.lemmas.Result.{IfOk-weaker}
use Rattle.iso_model.specs.Rights.{access_in}
use Rattle.iso_model.specs.Targets.{effective}
use Rattle.iso_model.specs.declared.access.Access.{Access}
use Rattle.iso_model.specs.declared.heads.Mark.{Mark}
use Rattle.iso_plan.proofs.ColumnLemmas.{row-at, view-read, within-views}
use Rattle.iso_plan.proofs.LawLemmas.{rights-alike, rights-below, root-rights}
use Rattle.iso_plan.specs.KeyTable.{kind_marks}
use Rattle.iso_plan.specs.NodeChains.{node_rights}
use Rattle.iso_plan.specs.Paths.{parent, row_at}
use Rattle.iso_plan.specs.RowView.{rights_in, row_of}
use Rattle.iso_plan.specs.Tree as T
use Rattle.iso_plan.proofs.rights.rights_at.Goals as goal

pub returns-then-n-eq0 : goal.returns-then-n-eq0
returns-then-n-eq0 c = λ k.
    let tree = map row_of c.args.rows.now in
    ap (λ es. access_in es k) (c.in_ok-new.ensures.ok ∙ c.new.ensures)
    ∙ sym (ap (λ (m : ℕ). node_rights tree m k) c.if-n-eq0.true ∙ root-rights tree c.requires.tree k)

pub bounds-known-n : goal.bounds-known-n
bounds-known-n c = within-views rights_in (node_rights (map row_of c.args.rows.now)) c.args.known.now c.args.n (c.args.n - 1) c.requires.known (omega arith)

pub returns-then-are_alike : goal.returns-then-are_alike
returns-then-are_alike c = λ k.
    let rows = c.args.rows.now in
    let tree = map row_of rows in
    let n = c.args.n in
    let a = c.index-rows-n.result in
    let b = c.index-rows-n-then-n-gt1.result in
    let before : row_at tree (n - 1) ≡ row_of a = row-at rows (n - 1) a (omega arith) ∙ ap row_of (sym c.index-rows-n.is) in
    let here : row_at tree n ≡ row_of b = row-at rows n b (omega arith) ∙ ap row_of (sym c.index-rows-n-then-n-gt1.is) in
    let alike = c.are_alike.ensures.0 c.if-are_alike.true in
    let class : parent tree (n - 1) ≡ parent tree n = ap (λ (r : T.Row). r.parent) before ∙ alike.0 ∙ sym (ap (λ (r : T.Row). r.parent) here) in
    let written : (row_at tree (n - 1)).written ≡ (row_at tree n).written = ap (λ (r : T.Row). r.written) before ∙ alike.1 ∙ sym (ap (λ (r : T.Row). r.written) here) in
    let many : length tree ≡ length rows = length-map rows row_of in
    let marks : kind_marks (row_at tree (n - 1)).kind ≡ kind_marks (row_at tree n).kind =
    c.requires.tree.marked (n - 1) (omega arith) (omega arith) ∙ ap₂ (λ (p : ℕ) (own : List Mark). effective (row_at tree p).written own) class written
    ∙ sym (c.requires.tree.marked n (omega arith) (omega arith)) in
    let known : rights_in c.index-known-n.result ≡ node_rights tree (n - 1) =
    ap rights_in c.index-known-n.is ∙ view-read rights_in (node_rights tree) c.args.known.now n (n - 1) c.index-known-n.result (λ _. None) c.requires.known (omega arith) in
    ap (λ es. access_in es k) c.in_ok-clone.ensures.cases ∙ ap (λ (f : List ℕ → Option Access). f k) known
    ∙ rights-alike tree c.requires.tree (n - 1) n k (omega arith) (omega arith) class marks

pub bounds-known-row : goal.bounds-known-row
bounds-known-row c =
    let rows = c.args.rows.now in
    let tree = map row_of rows in
    let n = c.args.n in
    let r = c.index-rows-n-2.result in
    let here : row_at tree n ≡ row_of r = row-at rows n r (omega arith) ∙ ap row_of (sym c.index-rows-n-2.is) in
    let up : parent tree n ≡ r.parent = ap (λ (x : T.Row). x.parent) here in
    let below : parent tree n < n = c.requires.tree.below n (omega arith) in
    within-views rights_in (node_rights tree) c.args.known.now n r.parent c.requires.known (omega arith)

pub returns : goal.returns
returns c =
    let rows = c.args.rows.now in
    let tree = map row_of rows in
    let n = c.args.n in
    let pos : 0 < n = omega arith in
    let r = c.index-rows-n-2.result in
    let here : row_at tree n ≡ row_of r = row-at rows n r (omega arith) ∙ ap row_of (sym c.index-rows-n-2.is) in
    let up : parent tree n ≡ r.parent = ap (λ (x : T.Row). x.parent) here in
    let below : parent tree n < n = c.requires.tree.below n pos in
    let marks = c.marks.ensures ∙ sym (ap (λ (x : T.Row). kind_marks x.kind) here) in
    let known : rights_in c.index-known-row.result ≡ node_rights tree (parent tree n) =
    ap rights_in c.index-known-row.is ∙ view-read rights_in (node_rights tree) c.args.known.now n r.parent c.index-known-row.result (λ _. None) c.requires.known (omega arith)
    ∙ ap (node_rights tree) (sym up) in
    IfOk-weaker c.below.result _ _
    (λ own e k. rights-below tree c.requires.tree n k c.marks.result.now (rights_in own k) (rights_in c.index-known-row.result k) pos marks (ap (λ (f : List ℕ → Option Access). f k) known) (e k))
    c.below.ensures
