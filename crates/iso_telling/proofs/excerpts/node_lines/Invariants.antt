use Rattle.std.proofs.Common.{◌≡◌, [], length, map, slice_index_or}
use Rattle.std.specs.List.{range_with_len}
use Rattle.iso_html.specs.Quotes.{excerpt_of}
use Rattle.iso_lifecycle.specs.ResultViews.{outcome_in}
use Rattle.iso_places.specs.LineStarts.{line_starts}
use Rattle.iso_plan.specs.RowView.{tree_of}
use Rattle.iso_telling.specs.Excerpts.{excerpt, failed_line}
use Rattle.iso_telling.specs.Written.{lent}
use Rattle.iso_telling.proofs.excerpts.node_lines.Given as goal

abbrev pub invariant-nodes : goal.invariant-nodes
invariant-nodes l = record {
  are : map excerpt_of l.lines.items
      ≡ map (λ n. excerpt (lent l.texts) (failed_line (tree_of l.plan) l.sites (outcome_in l.results) n)) (range_with_len 0 l.node);
  each : length l.lines.items ≡ l.node;
  table : l.at_hand.table ≡ line_starts (slice_index_or (lent l.texts) l.at_hand.script []);
}
