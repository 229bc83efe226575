use Rattle.std.proofs.Common.{◌≡◌, ◌≤◌, ◌++◌, map, drop, vec_len}
use Rattle.iso_model.specs.ScriptView.{class_of}
use Rattle.iso_plan.specs.RowView.{row_of}
use Rattle.iso_plan.specs.Tree.{team_rows}
use Rattle.iso_plan.proofs.tree.add_team.Given as goal

abbrev pub invariant-classes : goal.invariant-classes
invariant-classes l = record {
  fits : vec_len l.rows ≤ l.most;
  grown : map row_of l.rows.items ++ team_rows l.script.team (vec_len l.rows) (map class_of (drop l.class-index l.class-items)) ≡ map row_of l.fn.rows.items ++ team_rows l.script.team
      (vec_len l.fn.rows) (map class_of l.class-items);
}
