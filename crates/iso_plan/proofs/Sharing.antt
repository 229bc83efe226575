-- A plan may be shared by threads, as workers of one run do. The check finds this by itself for no type that holds a recursive one, as statements
-- are; so it is told here, from expressions up to plans.
use denote.Param.Send.{IsSend, IsSync, sendable}
use denote.Param.SendFields.{as_row_send, as_row_sync, declared_send, declared_sync, variants_send, variants_sync}
use Rattle.std.proofs.Crossing.{Box-send, Box-sync, Vec-send, Vec-sync, crosses}
use Rattle.iso_model.proofs.heads.Mark.TheSendSync as marks
use Rattle.iso_model.proofs.key_map.KeyMap.TheSendSync as key_map
use Rattle.iso_model.proofs.heads.Variable.TheSendSync as variables
use Rattle.iso_model.proofs.rights.Rights.TheSendSync as rights
use Rattle.iso_model.proofs.script.Mode.TheSendSync as mode
use Rattle.iso_model.proofs.shared_list.SharedList.TheSendSync as shared_list
use Rattle.iso_model.proofs.text.Text.TheSendSync as text
use Rattle.iso_model.proofs.tree.Comparison.TheSendSync as comparison
use Rattle.iso_model.proofs.tree.Expr.TheLaws.TheKnot as exprs
use Rattle.iso_model.proofs.tree.Form.TheLaws.TheKnot as form
use Rattle.iso_model.proofs.tree.Function.TheSendSync as function
use Rattle.iso_model.proofs.tree.OneOperand.TheSendSync as one
use Rattle.iso_model.proofs.tree.Operator.TheSendSync as operator
use Rattle.iso_model.proofs.tree.TwoOperands.TheSendSync as two
use Rattle.iso_model.proofs.tree_text.TreeText.TheSendSync as tree_text
use Rattle.iso_model.specs.contracts.tree.Expr as expr
use Rattle.iso_model.specs.contracts.heads.ClassContents as class_contents
use Rattle.iso_model.specs.contracts.heads.ClassHead as class
use Rattle.iso_model.specs.contracts.heads.TestContents as test_contents
use Rattle.iso_model.specs.contracts.heads.TestHead as test
use Rattle.iso_model.specs.contracts.tree.Stmt as stmt
use Rattle.iso_desk.proofs.marks.Marks.TheSendSync as desk_marks
use Rattle.iso_plan.proofs.held_nodes.KeyUse.TheSendSync as key_use
use Rattle.iso_plan.proofs.lock.Lock.TheSendSync as lock
use Rattle.std.specs.contracts.option.Option as option
use denote.Ref.{NamedLft}
use denote.RattleType.{RattleType}
use denote.Struct.Field.{row_field}
use Rattle.iso_plan.specs.contracts.held_nodes.HeldNodes as held_nodes
use Rattle.iso_plan.specs.contracts.held_nodes.HeldNodes.TheInside as held_inside
use Rattle.iso_plan.specs.contracts.node_set.NodeSet as node_set
use Rattle.iso_plan.specs.contracts.node_set.NodeSet.TheInside as node_set_inside
use Rattle.iso_plan.specs.contracts.plan.Plan as plan
use Rattle.iso_plan.specs.contracts.plan.Plan.TheInside as inside
use Rattle.iso_plan.specs.contracts.row.Extras as extras
use Rattle.iso_plan.specs.contracts.row.Kind as kind
use Rattle.iso_plan.specs.contracts.row.Row as row
use Rattle.iso_settings.proofs.settings.Settings.TheSendSync as settings

pub option_shared : (T : RattleType) → IsSync T → IsSync (option.the_row T)
option_shared T s = variants_sync (option.enum T) (tt, ((as_row_sync (row_field T) s, tt), tt))

pub option_sent : (T : RattleType) → IsSend T → IsSend (option.the_row T)
option_sent T s = variants_send (option.enum T) (tt, ((as_row_send (row_field T) s, tt), tt))

pub expr_sent : IsSend (expr.the_field).row
expr_sent = exprs.send-Expr (search sendable) (search sendable) tree_text.the_send operator.the_field_send Box-send comparison.the_field_send function.the_field_send Vec-send

pub expr_shared : IsSync (expr.the_field).row
expr_shared = exprs.sync-Expr (search sendable) (search sendable) tree_text.the_sync operator.the_field_sync Box-sync comparison.the_field_sync function.the_field_sync Vec-sync

pub stmt_sent : IsSend stmt.the_row
stmt_sent = as_row_send stmt.the_field (form.send-Stmt tree_text.the_send expr_sent one.the_field_send two.the_field_send Vec-send Box-send (search sendable))

pub stmt_shared : IsSync stmt.the_row
stmt_shared = as_row_sync stmt.the_field (form.sync-Stmt tree_text.the_sync expr_shared one.the_field_sync two.the_field_sync Vec-sync Box-sync (search sendable))

ruleset parts = (
  as_row_send,
  as_row_sync,
  option_sent,
  option_shared,
  stmt_sent,
  stmt_shared,
  marks.the_send,
  marks.the_sync,
  variables.the_send,
  variables.the_sync,
  rights.the_send,
  rights.the_sync,
  key_map.the_sync,
  mode.the_sync,
  text.the_send,
  text.the_sync,
  tree_text.the_sync,
  lock.the_send,
  lock.the_sync,
  shared_list.the_send,
  shared_list.the_sync,
  settings.the_sync,
  crosses,
  sendable,
)

pub class_contents_sent : IsSend class_contents.the_row
class_contents_sent = declared_send class_contents.the_type (search parts, (search parts, (search parts, (search parts, (search parts, (search parts, (search parts, tt)))))))

pub class_contents_shared : IsSync class_contents.the_row
class_contents_shared = declared_sync class_contents.the_type (search parts, (search parts, (search parts, (search parts, (search parts, (search parts, (search parts, tt)))))))

pub test_contents_sent : IsSend test_contents.the_row
test_contents_sent = declared_send test_contents.the_type (search parts, (search parts, tt))

pub test_contents_shared : IsSync test_contents.the_row
test_contents_shared = declared_sync test_contents.the_type (search parts, (search parts, tt))

ruleset contents = (class_contents_sent, class_contents_shared, test_contents_sent, test_contents_shared, parts)

pub class_sent : IsSend class.the_row
class_sent = declared_send class.the_type (search contents, (search contents, tt))

pub class_shared : IsSync class.the_row
class_shared = declared_sync class.the_type (search contents, (search contents, tt))

pub test_sent : IsSend test.the_row
test_sent = declared_send test.the_type (search contents, (search contents, tt))

pub test_shared : IsSync test.the_row
test_shared = declared_sync test.the_type (search contents, (search contents, tt))

ruleset heads = (class_sent, class_shared, test_sent, test_shared, parts)

pub kind_shared : IsSync kind.the_row
kind_shared = variants_sync kind.enum (tt, ((search heads, (search heads, tt)), ((search heads, tt), tt)))

pub extras_shared : IsSync extras.the_row
extras_shared = declared_sync extras.the_type (search parts, (search parts, tt))

ruleset apart = (extras_shared, parts)

pub row_shared : IsSync row.the_row
row_shared = declared_sync row.the_type (search parts, (search parts, (kind_shared, (search parts, (search apart, tt)))))

ruleset rows = (row_shared, heads)

pub plan_shared : IsSync plan.the_row
plan_shared =
    search (
      declared_sync inside.the_type (
        search rows,
        (search rows, (search rows, (search rows, (search rows, (search rows, (search rows, (search rows, (search rows, (search rows, (search rows, (search rows, (search rows, tt)))))))))))),
      ),
      sendable,
    )

ruleset nodes = (desk_marks.the_send, as_row_send, crosses, sendable)

node_set_sent : IsSend node_set.the_row
node_set_sent = search (declared_send node_set_inside.the_type (search nodes, (search nodes, (search nodes, tt))), sendable)

ruleset held = (plan_shared, node_set_sent, key_use.the_send, as_row_send, crosses, sendable)

-- held nodes may go to another thread
pub held_sent : (a : NamedLft) → IsSend (held_nodes.the_row a)
held_sent a = search (declared_send (held_inside.the_type a) (search held, (search held, (search held, tt))), sendable)
