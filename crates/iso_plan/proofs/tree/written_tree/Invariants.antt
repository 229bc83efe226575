use Rattle.std.proofs.Common.{◌≡◌, ◌≤◌, ◌++◌, map, drop, vec_len}
use Rattle.iso_model.specs.ScriptView.{script_of}
use Rattle.iso_plan.specs.RowView.{row_of}
use Rattle.iso_plan.specs.Tree.{script_rows, written_tree}
use Rattle.iso_plan.proofs.tree.written_tree.Given as goal

abbrev pub invariant-scripts : goal.invariant-scripts
invariant-scripts l = record {
  fits : vec_len l.rows ≤ l.most;
  grown : map row_of l.rows.items ++ script_rows (vec_len l.rows) (map script_of (drop l.script-index l.scripts)) ≡ written_tree (map script_of l.scripts);
}
