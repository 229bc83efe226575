use Rattle.std.proofs.Common.{sym, ap, ◌∙◌}
use Rattle.iso_affected_text.proofs.RowLemmas.{other, pushed, unchanged}
use Rattle.iso_affected_text.specs.Rows.{node_row}
use Rattle.iso_affected_text.specs.declared.row.Became.TheVariants.{Gone}
use Rattle.iso_affected_text.proofs.rows.add_gone_node.Goals as goal

pub returns-then-not-is_listed : goal.returns-then-not-is_listed
returns-then-not-is_listed c = unchanged _ _ (other _ _ _ (sym c.is_listed.ensures ∙ c.if-not-is_listed.true))

pub returns : goal.returns
returns c = rw (sym c.is_listed.ensures ∙ c.if-not-is_listed.false) (pushed _ _ _ _ c.in_ok-push.ensures.items (ap (node_row Gone) c.path_at-path.ensures))
