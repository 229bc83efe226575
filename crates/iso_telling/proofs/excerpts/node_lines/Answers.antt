use Rattle.std.proofs.Common.{List, ℕ, [], ◌∷◌, ◌++◌, map, ap, ap₂, sym, ◌∙◌, arith}
use Rattle.std.proofs.lemmas.List.{map-append}
use Rattle.std.proofs.lemmas.List.FromFn.{map-range_with_len_more}
use Rattle.iso_html.specs.Quotes.{LineView, excerpt_of}
use Rattle.iso_lifecycle.specs.ResultViews.{outcome_in}
use Rattle.iso_plan.specs.RowView.{tree_of}
use Rattle.iso_telling.specs.Excerpts.{excerpt, failed_line}
use Rattle.iso_telling.specs.Written.{lent}
use Rattle.iso_telling.proofs.excerpts.node_lines.Goals as goal

pub nodes-preserved : goal.nodes-preserved
nodes-preserved c =
    let texts = lent c.args.texts.now in
    let line = failed_line (tree_of c.args.plan.now) c.args.sites.now (outcome_in c.args.results.now) in
    let shown : ℕ → List LineView = λ n. excerpt texts (line n) in
    let own = c.in_ok-shown.ensures.lines ∙ ap (excerpt texts) c.failed_line-line.ensures in
    record {
      are = ap (map excerpt_of) c.in_ok-push.ensures.items
          ∙ map-append excerpt_of c.nodes.lines.items _
          ∙ ap₂ (λ (ls : List (List LineView)) (l : List LineView). ls ++ l ∷ []) c.nodes.invariant.are own
          ∙ sym (map-range_with_len_more shown 0 c.nodes.node c.nodes.node (omega arith));
      each = let before = c.nodes.invariant.each in let more = c.in_ok-push.ensures.len in omega (arith, before, more);
      table = c.in_ok-shown.ensures.table;
    }
