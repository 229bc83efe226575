use Rattle.std.proofs.Common.{sym, ◌∙◌}
use Rattle.iso_affected.specs.declared.affected.Fate.TheVariants.{Same}
use Rattle.iso_affected_text.proofs.ChangeLemmas.{fate-read}
use Rattle.iso_affected_text.proofs.RowLemmas.{other, unchanged}
use Rattle.iso_affected_text.proofs.rows.add_node.Goals as goal

pub returns-then-not-is_listed : goal.returns-then-not-is_listed
returns-then-not-is_listed c = unchanged _ _ (other _ _ _ (sym c.is_listed.ensures ∙ c.if-not-is_listed.true))

pub returns : goal.returns
returns c =
    rw (sym c.is_listed.ensures ∙ c.if-not-is_listed.false, fate-read c.args.change.now c.requires.change c.args.node (Same 0) c.requires.node.within) c.add_fate.ensures
