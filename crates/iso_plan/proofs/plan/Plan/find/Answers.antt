use Rattle.std.proofs.Common.{◌≡◌, ◌<◌, ◌-◌, ◌+◌, ◌&&◌, ℕ, List, Bool, not, bytes_eq, length, map, ap, sym, ◌∙◌, arith}
use Rattle.std.proofs.lemmas.List.{length-map}
use Rattle.std.specs.List.{position_from, range_with_len}
use Rattle.iso_plan.proofs.PathLemmas.{not-root}
use Rattle.iso_plan.proofs.PathTextLemmas.{search-found, search-next}
use Rattle.iso_plan.specs.Planned.{Planned}
use Rattle.iso_plan.specs.PathTexts.{found, is_path_of, path_text}
use Rattle.iso_plan.specs.RowView.{row_of}
use Rattle.iso_plan.specs.Tree as T
use Rattle.iso_plan.specs.declared.row.Row.{Row}
use Rattle.iso_plan.proofs.plan.Plan.find.Goals as goal

-- what is found of a node by its rows, as it is found by the tree
told : (rows : List Row) (tree : List T.Row) (path : List ℕ) (n : ℕ) (b : Bool) → 0 < n → map row_of rows ≡ tree → b ≡ bytes_eq (path_text (map row_of rows) n) path → is_path_of tree path n ≡ b
told rows tree path n b pos same e =
    ap (λ (t : Bool). not t && bytes_eq (path_text tree n) path) (not-root n pos)
    ∙ ap (λ (ns : List T.Row). bytes_eq (path_text ns n) path) (sym same) ∙ sym e

pub returns-then-is_path_of : goal.returns-then-is_path_of
returns-then-is_path_of c =
    let tree = c.args.self.now.rows in
    let path = c.as_bytes-path.result.now in
    let n = c.nodes.node in
    let same = ap (map row_of) c.deref.ensures.value ∙ ap (λ (p : Planned). p.rows) c.self.view_is in
    let inside = c.self.inside.rows in
    let count : length tree ≡ length inside.items = sym (ap (λ (p : Planned). length p.rows) c.self.view_is) ∙ length-map inside.items row_of in
    let end = c.len-node-end.ensures in
    let less : n < length tree = omega (arith, inside.ok.0) in
    let there = told c.deref.result.now tree path n c.is_path_of.result (omega arith) same c.is_path_of.ensures ∙ c.if-is_path_of.true in
    sym (search-found (is_path_of tree path) n (length tree - n) (omega arith) there) ∙ c.nodes.invariant ∙ ap (found tree) c.as_bytes-path.ensures.value

pub nodes-preserved : goal.nodes-preserved
nodes-preserved c =
    let tree = c.args.self.now.rows in
    let path = c.as_bytes-path.result.now in
    let n = c.nodes.node in
    let same = ap (map row_of) c.deref.ensures.value ∙ ap (λ (p : Planned). p.rows) c.self.view_is in
    let inside = c.self.inside.rows in
    let count : length tree ≡ length inside.items = sym (ap (λ (p : Planned). length p.rows) c.self.view_is) ∙ length-map inside.items row_of in
    let end = c.len-node-end.ensures in
    let within : n < length tree = omega (arith, inside.ok.0) in
    let other = told c.deref.result.now tree path n c.is_path_of.result (omega arith) same c.is_path_of.ensures ∙ c.if-is_path_of.false in
    let less : length tree - n - 1 ≡ length tree - (n + 1) = omega arith in
    sym (ap (λ (k : ℕ). position_from (is_path_of tree path) (n + 1) (range_with_len (n + 1) k)) less)
    ∙ sym (search-next (is_path_of tree path) n (length tree - n) (omega arith) other) ∙ c.nodes.invariant
