use Rattle.std.proofs.Common.{◌≡◌, [], ◌++◌, ◌∷◌, ℕ, ◌<◌, ◌+◌, List, Option, Some, None, Bool, cond, length, map, get_or, ap, ap₂, sym, ◌∙◌, arith}
use Rattle.std.proofs.lemmas.List.{length-map, length_push}
use Rattle.std.specs.Option.{option_or}
use Rattle.iso_plan.proofs.ColumnLemmas.{column-read, column-push, parent-at}
use Rattle.iso_plan.proofs.PathLemmas.{path-root, path-step}
use Rattle.iso_plan.specs.Paths.{column, outermost, path, parent}
use Rattle.iso_plan.specs.RowView.{row_of}
use Rattle.iso_plan.proofs.outermost.outermost.Goals as goal

pub nodes-init : goal.nodes-init
nodes-init c = record {
  each = ap length (c.in_ok-push.ensures.items ∙ ap (λ (os : List (Option ℕ)). os ++ None ∷ []) c.in_ok-found.ensures.items);
  found_are = λ test e. c.in_ok-push.ensures.items ∙ ap (λ (os : List (Option ℕ)). os ++ None ∷ []) c.in_ok-found.ensures.items
      ∙ sym (ap (λ (ns : List ℕ). outermost test ns ∷ []) (path-root (map row_of c.args.rows.now)));
}

pub index-above-requires : goal.index-above-requires
index-above-requires c =
    let rows = c.args.rows.now in
    let n = c.nodes.n in
    let at = parent-at rows n c.index-rows-n.result (omega arith) in
    let below : parent (map row_of rows) n < n = c.requires.tree.below n (omega arith) in
    omega (arith, c.nodes.found.ok.0)

pub nodes-preserved : goal.nodes-preserved
nodes-preserved c =
    let rows = c.args.rows.now in
    let tree = map row_of rows in
    let n = c.nodes.n in
    let v = c.nodes.found in
    let p = (get_or rows n c.index-rows-n.result).parent in
    let at = parent-at rows n c.index-rows-n.result (omega arith) in
    let below : parent tree n < n = c.requires.tree.below n (omega arith) in
    record {
      each = ap length c.in_ok-push-2.ensures.items ∙ length_push v.items c.or.result ∙ ap (λ (m : ℕ). m + 1) c.nodes.invariant.each;
      found_are = λ test e.
          let found : ℕ → Option ℕ = λ m. outermost test (path tree m) in
          let inv = c.nodes.invariant.found_are test e in
          let above : c.index-above.result.now ≡ found (parent tree n) = c.index-above.ensures ∙ column-read found v.items n p c.index-above.result.now inv (omega arith) ∙ ap found (sym at) in
          let own : c.passed.result ≡ cond (test n) (Some n) None = c.passed.ensures ∙ ap (λ (b : Bool). cond b (Some n) None) (column-read test c.args.passes.now (length rows) n _ e (omega arith)) in
          let this : c.or.result ≡ found n = c.or.ensures ∙ ap₂ option_or above own ∙ sym (ap (outermost test) (path-step tree c.requires.tree.below n (omega arith))) in
          c.in_ok-push-2.ensures.items ∙ column-push found v.items n c.or.result inv this;
    }

pub returns : goal.returns
returns c =
    let rows = c.args.rows.now in
    let tree = map row_of rows in
    let some : 0 < length rows = rw (length-map rows row_of) at c.requires.tree.rooted in
    let last : c.nodes.n ≡ length rows = omega arith in
    λ test e. c.nodes.invariant.found_are test e ∙ ap (column (λ n. outermost test (path tree n))) last
