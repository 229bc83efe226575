use Rattle.std.proofs.Common.{◌≡◌, ◌≤◌, ◌++◌, map, drop, vec_len}
use Rattle.iso_model.specs.ScriptView.{member_of, members_of}
use Rattle.iso_plan.specs.RowView.{row_of}
use Rattle.iso_plan.specs.Tree.{members_rows}
use Rattle.iso_plan.proofs.tree.+growth.Given as goal

abbrev pub invariant-add_members-members : goal.invariant-add_members-members
invariant-add_members-members l = record {
  fits : vec_len l.rows ≤ l.most;
  grown : map row_of l.rows.items ++ members_rows l.parent (vec_len l.rows) (members_of (map member_of (drop l.member-index l.members))) ≡ map row_of l.fn.rows.items ++ members_rows l.parent
      (vec_len l.fn.rows) (members_of (map member_of l.members));
}
